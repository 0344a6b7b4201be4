-- The lowest atom of a set, and the set without it. Assumes nothing.
use mathlib.Core.Path.{◌∙◌, ◌≡◌, ap, refl, sym}
use mathlib.Core.Logic.{◌≢◌}
use Prim.Native.Nat.{◌%◌, ◌*◌, ◌-◌, ◌/◌, ◌<◌, ◌^◌, suc, zero, ℕ}
use lib.Bits.{and_self, and_step, bit_and}
use lib.Count.{count_trailing_zeros, under}
use native.Mathlib.Nat.{pow-suc}
use native.Mathlib.Omega.{arith}
use Rattle.atoms.specs.Sets.{Member, bit}
use Rattle.atoms.proofs.SetLaws.{bit_first, bit_next, member_low}

-- the lowest atom of m is t, and r is m without it
pub record Lowest (m t r : ℕ) : Type 0 where
  pub has : Member t m
  pub gone : bit r t ≡ 0
  pub rest : (k : ℕ) → t ≢ k → bit r k ≡ bit m k

unfoldable pub without : ℕ → ℕ
without m = bit_and m (m - 1)

odd_rest : (n : ℕ) → n % 2 ≡ 1 → without n ≡ n / 2 * 2
unfolding without
odd_rest n e =
    let h : (n - 1) / 2 ≡ n / 2 = omega arith in
    let z : (n - 1) % 2 ≡ 0 = omega arith in
    let s : bit_and (n / 2) ((n - 1) / 2) ≡ n / 2 = ap (bit_and (n / 2)) h ∙ and_self (n / 2) in
    omega (arith, and_step n (n - 1))

even_rest : (n : ℕ) → n % 2 ≡ 0 → without n ≡ without (n / 2) * 2
unfolding without
even_rest n e =
    let h : (n - 1) / 2 ≡ n / 2 - 1 = omega arith in
    let s : bit_and (n / 2) ((n - 1) / 2) ≡ bit_and (n / 2) (n / 2 - 1) = ap (bit_and (n / 2)) h in
    omega (arith, and_step n (n - 1))

double_first : (x : ℕ) → bit (x * 2) 0 ≡ 0
double_first x = bit_first (x * 2) ∙ omega arith

double_next : (x k : ℕ) → bit (x * 2) (suc k) ≡ bit x k
double_next x k = let h : x * 2 / 2 ≡ x = omega arith in bit_next (x * 2) k ∙ ap (λ (y : ℕ). bit y k) h

pub lowest_in : (d n : ℕ) → 0 < n → n < 2 ^ d → Lowest n (count_trailing_zeros d n) (without n)
unfolding count_trailing_zeros
lowest_in zero n p l = absurd (omega arith)
lowest_in (suc d) n p l = go (n % 2) refl (λ (e : n % 2 ≡ 0). lowest_in d (n / 2) (omega arith) (omega (arith, pow-suc 2 d)))
  where
    go : (x : ℕ) → n % 2 ≡ x → (n % 2 ≡ 0 → Lowest (n / 2) (count_trailing_zeros d (n / 2)) (without (n / 2)))
        → Lowest n (under x (count_trailing_zeros d (n / 2))) (without n)
    go zero e ih = let t = count_trailing_zeros d (n / 2) in let r = ih e in record {
      has = bit_next n t ∙ r.has;
      gone = ap (λ (y : ℕ). bit y (suc t)) (even_rest n e) ∙ double_next (without (n / 2)) t ∙ r.gone;
      rest = λ k. others k;
    }
      where
        others : (k : ℕ) → suc (count_trailing_zeros d (n / 2)) ≢ k → bit (without n) k ≡ bit n k
        others zero ne = ap (λ (y : ℕ). bit y 0) (even_rest n e) ∙ double_first (without (n / 2)) ∙ sym e ∙ sym (bit_first n)
        others (suc k) ne =
            ap (λ (y : ℕ). bit y (suc k)) (even_rest n e)
            ∙ double_next (without (n / 2)) k ∙ (ih e).rest k (λ q. ne (ap suc q)) ∙ sym (bit_next n k)
    go (suc x) e ih = let o : n % 2 ≡ 1 = omega arith in record {
      has = bit_first n ∙ o;
      gone = ap (λ (y : ℕ). bit y 0) (odd_rest n o) ∙ double_first (n / 2);
      rest = λ k. others o k;
    }
      where
        others : n % 2 ≡ 1 → (k : ℕ) → zero ≢ k → bit (without n) k ≡ bit n k
        others o zero ne = absurd (ne refl)
        others o (suc k) ne = ap (λ (y : ℕ). bit y (suc k)) (odd_rest n o) ∙ double_next (n / 2) k ∙ sym (bit_next n k)

-- m without its lowest atom
module _ (m : ℕ) (some : m ≢ 0) (small : m < 2 ^ 64) where
  t : ℕ
  t = count_trailing_zeros 64 m

  low : Lowest m t (without m)
  unfolding t
  low = lowest_in 64 m (omega arith) small

  pub lowest_in_set : Member (count_trailing_zeros 64 m) m
  unfolding t
  lowest_in_set = low.has

  pub lowest_fits : count_trailing_zeros 64 m < 64
  unfolding t
  lowest_fits = member_low m 64 t small low.has
