-- Subset number n of D, one credential after another. Assumes nothing.
use mathlib.Core.Path.{◌∙◌, ◌≡◌, ap, refl, sym}
use Prim.Native.Nat.{◌%◌, ◌*◌, ◌+◌, ◌-◌, ◌/◌, ◌<◌, ◌^◌, ◌≤◌, suc, zero, ℕ}
use native.Mathlib.Nat.{mul-add, mul_assoc, mul_comm, mul-one, mul-zero}
use native.Mathlib.Numerals.{add-one}
use native.Mathlib.Omega.{arith}
use Rattle.preference.specs.Subsets.{pick, subset_in}

in_step : (j d m : ℕ) → subset_in (suc j) d m ≡ d % 2 * (m % 2) + 2 * subset_in j (d / 2) (m / 2 ^ (d % 2))
unfolding subset_in
in_step j d m = go (d % 2) (omega arith)
  where
    go : (x : ℕ) → x < 2 → pick x (2 * subset_in j (d / 2) m) (m % 2 + 2 * subset_in j (d / 2) (m / 2)) ≡ x * (m % 2) + 2 * subset_in j (d / 2) (m / 2 ^ x)
    go zero l = let e : m / 2 ^ 0 ≡ m = omega arith in rw e (omega arith)
    go (suc zero) l = omega arith
    go (suc (suc x)) l = absurd (omega arith)

-- k members are passed: what they give, and what is left
pub record Taking (D n k subset place members number : ℕ) : Type 0 where
  pub most : k ≤ 16
  pub is : place ≡ 2 ^ k
  pub fits : subset < place
  pub rest : subset_in 16 D n ≡ subset + place * subset_in (16 - k) members number

pub taking_none : (D n : ℕ) → Taking D n 0 0 1 D n
taking_none D n = record { most = omega arith; is = refl; fits = omega arith; rest = omega arith }

pub own_most : (a b : ℕ) → a < 2 → b < 2 → a * b ≤ 1
own_most zero b l h = omega arith
own_most (suc zero) b l h = omega arith
own_most (suc (suc a)) b l h = absurd (omega arith)

module _ (D n k subset place members number : ℕ) (l : k < 16) (h : Taking D n k subset place members number) where
  pub taking_own : place * (members % 2 * (number % 2)) ≤ place
  taking_own = go (members % 2 * (number % 2)) (own_most (members % 2) (number % 2) (omega arith) (omega arith))
    where
      go : (x : ℕ) → x ≤ 1 → place * x ≤ place
      go zero i = omega (arith, mul-zero place)
      go (suc zero) i = omega (arith, mul-one place)
      go (suc (suc x)) i = absurd (omega arith)

  pub taking_more : Taking D n (k + 1) (subset + place * (members % 2 * (number % 2))) (2 * place) (members / 2) (number / 2 ^ (members % 2))
  taking_more =
      let own = members % 2 * (number % 2) in
      let j = 16 - (k + 1) in
      let e : 16 - k ≡ suc j = omega arith in
      let left = subset_in j (members / 2) (number / 2 ^ (members % 2)) in
      let s : subset_in (16 - k) members number ≡ own + 2 * left = ap (λ (i : ℕ). subset_in i members number) e ∙ in_step j members number in
      let t : place * subset_in (16 - k) members number ≡ place * own + 2 * place * left =
      ap (λ (x : ℕ). place * x) s ∙ mul-add place own (2 * left) ∙ ap (λ (x : ℕ). place * own + x) (sym (mul_assoc place 2 left) ∙ ap (λ (x : ℕ). x * left) (mul_comm place 2)) in
      record {
        most = omega arith;
        is = ap (λ (x : ℕ). 2 * x) h.is ∙ sym (ap (λ (x : ℕ). 2 ^ x) (add-one k) ∙ pow_double k);
        fits = omega (arith, h.fits, taking_own);
        rest = omega (arith, h.rest, t);
      }
    where
      pow_double : (i : ℕ) → 2 ^ suc i ≡ 2 * 2 ^ i
      pow_double i = omega arith

in_none : (j n : ℕ) → subset_in j 0 n ≡ 0
unfolding subset_in
in_none zero n = refl
in_none (suc j) n = omega (arith, in_none j n)

-- no member is left
pub taking_all : (D n k subset place number : ℕ) → Taking D n k subset place 0 number → subset ≡ subset_in 16 D n
taking_all D n k subset place number h =
    sym (h.rest ∙ ap (λ (x : ℕ). subset + place * x) (in_none (16 - k) number) ∙ ap (λ (x : ℕ). subset + x) (mul-zero place) ∙ omega arith)
