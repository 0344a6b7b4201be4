-- Sums over the numbers below n. Assumes nothing.
use mathlib.Core.Path.{◌∙◌, ◌≡◌, ap, refl, subst, sym}
use Prim.Native.Nat.{◌*◌, ◌+◌, ◌<◌, ◌≤◌, suc, zero, ℕ}
use native.Mathlib.Decide.{ℕ_discrete}
use native.Mathlib.Nat.{mul-suc, not-suc-le-zero}
use native.Mathlib.Numerals.{add-one}
use native.Mathlib.Omega.{arith}
use Rattle.lists.specs.Sums.{sum}

pub sum_same : (f g : ℕ → ℕ) (n : ℕ) → ((m : ℕ) → m < n → f m ≡ g m) → sum f n ≡ sum g n
unfolding sum
sum_same f g zero h = refl
sum_same f g (suc n) h = omega (arith, sum_same f g n (λ m l. h m (omega arith)), h n (omega arith))

pub sum_le : (f g : ℕ → ℕ) (n : ℕ) → ((m : ℕ) → m < n → f m ≤ g m) → sum f n ≤ sum g n
unfolding sum
sum_le f g zero h = omega arith
sum_le f g (suc n) h = omega (arith, sum_le f g n (λ m l. h m (omega arith)), h n (omega arith))

-- it has every part
pub sum_has : (f : ℕ → ℕ) (n k : ℕ) → k < n → f k ≤ sum f n
unfolding sum
sum_has f zero k l = absurd (not-suc-le-zero l)
sum_has f (suc n) k l = go (ℕ_discrete k n) (λ (m : k < n). sum_has f n k m)
  where
    go : Dec (k ≡ n) → (k < n → f k ≤ sum f n) → f k ≤ sum f n + f n
    go (yes e) ih = subst (λ (x : ℕ). f x ≤ sum f n + f n) (sym e) (omega arith)
    go (no d) ih = omega (arith, ih (omega (arith, l, d)))

-- less at one number
pub sum_lt : (f g : ℕ → ℕ) (n k : ℕ) → k < n → ((m : ℕ) → m < n → f m ≤ g m) → f k < g k → sum f n < sum g n
unfolding sum
sum_lt f g zero k l h s = absurd (not-suc-le-zero l)
sum_lt f g (suc n) k l h s = go (ℕ_discrete k n) (λ l. sum_lt f g n k l (λ m l. h m (omega arith)) s)
  where
    go : Dec (k ≡ n) → (k < n → sum f n < sum g n) → sum f n + f n < sum g n + g n
    go (yes e) _ =
        let t : f n < g n = subst (λ (x : ℕ). f x < g x) e s in
        omega (arith, sum_le f g n (λ m l. h m (omega arith)))
    go (no d) ih = omega (arith, ih (omega arith), h n (omega arith))

pub sum_none : (f : ℕ → ℕ) (n : ℕ) → ((m : ℕ) → m < n → f m ≡ 0) → sum f n ≡ 0
unfolding sum
sum_none f zero h = refl
sum_none f (suc n) h = omega (arith, sum_none f n (λ m l. h m (omega arith)), h n (omega arith))

pub sum_all : (f : ℕ → ℕ) (n : ℕ) → ((m : ℕ) → m < n → f m ≡ 1) → sum f n ≡ n
unfolding sum
sum_all f zero h = refl
sum_all f (suc n) h = omega (arith, sum_all f n (λ m l. h m (omega arith)), h n (omega arith))

-- from a on
pub sum_add : (f : ℕ → ℕ) (a n : ℕ) → sum f (a + n) ≡ sum f a + sum (λ m. f (a + m)) n
unfolding sum
sum_add f a zero = let e : a + 0 ≡ a = omega arith in rw e (omega arith)
sum_add f a (suc n) = let e : a + suc n ≡ suc (a + n) = omega arith in rw e (omega (arith, sum_add f a n))

-- block by block, each of w numbers
pub sum_blocks : (f : ℕ → ℕ) (w B : ℕ) → sum f (w * B) ≡ sum (λ b. sum (λ x. f (w * b + x)) w) B
unfolding sum
sum_blocks f w zero = let e : w * 0 ≡ 0 = omega arith in rw e refl
sum_blocks f w (suc B) =
    let e : w * suc B ≡ w * B + w = mul-suc w B in
    ap (sum f) e ∙ sum_add f (w * B) w ∙ ap (λ (x : ℕ). x + sum (λ x. f (w * B + x)) w) (sum_blocks f w B)

pub sum_start : (f : ℕ → ℕ) → sum f 0 ≡ 0
unfolding sum
sum_start f = refl

pub sum_next : (f : ℕ → ℕ) (n : ℕ) → sum f (n + 1) ≡ sum f n + f n
unfolding sum
sum_next f n = rw add-one

-- the first apart
pub sum_shift : (f : ℕ → ℕ) (n : ℕ) → sum f (suc n) ≡ f 0 + sum (λ k. f (suc k)) n
unfolding sum
sum_shift f zero = omega arith
sum_shift f (suc n) = omega (arith, sum_shift f n)
