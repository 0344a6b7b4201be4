-- How many atoms a set has, and how large a number it is. Assumes nothing.
use mathlib.Core.Path.{◌∙◌, ◌≡◌, ap, ap₂, refl, subst, sym}
use mathlib.Core.Logic.{◌⊎◌, inl, inr}
use Prim.Native.Nat.{◌%◌, ◌+◌, ◌-◌, ◌/◌, ◌<◌, ◌^◌, ◌≤◌, suc, zero, ℕ}
use lib.Arith.{lt-one}
use lib.Count.{ones as count_ones, ones-le as count-le, ones_step, ones_in}
use lib.Pow.{pow_pos, shr-shr}
use native.Mathlib.Nat.{add-le-add, div-lt_iff_lt-mul, eq-or-lt_of_le, le_of_suc-le-suc, not-suc-le-zero, one-mul, pow-suc, zero-lt-suc}
use native.Mathlib.Omega.{arith}
use Rattle.atoms.specs.Atoms.{violation}
use Rattle.atoms.specs.Sets.{Member, Subset, bit, single, size}
use Rattle.atoms.proofs.SetLaws.{bit_empty, bit_first, bit_next, ext, in_or_out, member_low, not_in, single_is, subset_antisym}

-- ---- a set's size, by halves

pub half_subset : (a b : ℕ) → Subset a b → Subset (a / 2) (b / 2)
half_subset a b f k m = sym (bit_next b k) ∙ f (suc k) (bit_next a k ∙ m)

pub odd_subset : (a b : ℕ) → Subset a b → a % 2 ≤ b % 2
odd_subset a b f = go (a % 2) refl
  where
    go : (x : ℕ) → a % 2 ≡ x → a % 2 ≤ b % 2
    go zero e = omega arith
    go (suc x) e = let h : b % 2 ≡ 1 = sym (bit_first b) ∙ f 0 (bit_first a ∙ omega arith) in omega arith

-- and back
pub whole_subset : (a b : ℕ) → a % 2 ≤ b % 2 → Subset (a / 2) (b / 2) → Subset a b
whole_subset a b l f zero m = bit_first b ∙ (let o : a % 2 ≡ 1 = sym (bit_first a) ∙ m in omega arith)
whole_subset a b l f (suc k) m = bit_next b k ∙ f k (sym (bit_next a k) ∙ m)

ones_in-le : (d a b : ℕ) → Subset a b → ones_in d a ≤ ones_in d b
unfolding ones_in
ones_in-le zero a b f = omega arith
ones_in-le (suc d) a b f = add-le-add (odd_subset a b f) (ones_in-le d (a / 2) (b / 2) (half_subset a b f))

ones_in-lt : (d a b k : ℕ) → k < d → Subset a b → Member k b → bit a k ≡ 0 → ones_in d a < ones_in d b
unfolding ones_in
ones_in-lt zero a b k l f m z = absurd (not-suc-le-zero l)
ones_in-lt (suc d) a b zero l f m z =
    omega (arith, ones_in-le d (a / 2) (b / 2) (half_subset a b f), sym (bit_first a) ∙ z, sym (bit_first b) ∙ m)
ones_in-lt (suc d) a b (suc k) l f m z =
    let ih = ones_in-lt d (a / 2) (b / 2) k (le_of_suc-le-suc l) (half_subset a b f) (sym (bit_next b k) ∙ m)
    (sym (bit_next a k) ∙ z) in
    omega (arith, ih, odd_subset a b f)

pub size_le : (a b : ℕ) → Subset a b → size a ≤ size b
unfolding size
size_le a b f = ones_in-le 64 a b f

ones_in-most : (d a : ℕ) → ones_in d a ≤ d
unfolding ones_in
ones_in-most zero a = omega arith
ones_in-most (suc d) a = omega (arith, ones_in-most d (a / 2))

pub size_most : (a : ℕ) → size a ≤ 64
unfolding size
size_most a = ones_in-most 64 a

-- b has an atom more than a
pub size_lt : (a b k : ℕ) → k < 64 → Subset a b → Member k b → bit a k ≡ 0 → size a < size b
unfolding size
size_lt a b k l f m z = ones_in-lt 64 a b k l f m z

-- a subset with as many atoms is the whole set
pub size_same : (a b : ℕ) → b < 2 ^ 64 → Subset a b → size b ≤ size a → a ≡ b
size_same a b h f l = subset_antisym f back
  where
    back : Subset b a
    back k m = go (in_or_out a k)
      where
        go : Member k a ⊎ (bit a k ≡ 0) → Member k a
        go (inl i) = i
        go (inr z) = absurd (omega (arith, size_lt a b k (member_low b 64 k h m) f m z))

-- the machine's count of ones
ones_in-is : (d n : ℕ) → n < 2 ^ d → ones_in d n ≡ count_ones n
unfolding ones_in count_ones
ones_in-is zero n l = ap count_ones (sym (lt-one l))
ones_in-is (suc d) n l = ap (λ (x : ℕ). n % 2 + x) (ones_in-is d (n / 2) (omega arith)) ∙ sym (ones_step n)

pub size_is : (s : ℕ) → s < 2 ^ 64 → size s ≡ count_ones s
unfolding size
size_is s l = ones_in-is 64 s l

-- ---- a set whose atoms are below n is a number of n bits

pub low_lt : (s n : ℕ) → ((k : ℕ) → Member k s → k < n) → s < 2 ^ n
low_lt s n f = lt_of_div (ext (λ j. ap (λ (x : ℕ). x % 2) (shr-shr s n j) ∙ high j ∙ sym (bit_empty j)))
  where
    high : (j : ℕ) → bit s (n + j) ≡ 0
    high j = not_in s (n + j) (λ m. let l : n + j < n = f (n + j) m in omega arith)

    lt_of_div : s / 2 ^ n ≡ 0 → s < 2 ^ n
    lt_of_div e =
        subst (λ (x : ℕ). s < x) (one-mul (2 ^ n))
        ((div-lt_iff_lt-mul (pow_pos n)).0 (subst (λ (x : ℕ). x < 1) (sym e) (zero-lt-suc 0)))

-- a set that holds another and is not the same has more atoms
pub size_more : (a b : ℕ) → b < 2 ^ 64 → Subset a b → (a ≡ b → ⊥) → size a < size b
size_more a b h f n = go (eq-or-lt_of_le (size_le a b f))
  where
    go : (size a ≡ size b) ⊎ (size a < size b) → size a < size b
    go (inl e) = absurd (n (size_same a b h f (omega arith)))
    go (inr l) = l

-- a set of credentials has at most 16
pub size_credentials : (s : ℕ) → s < 2 ^ 16 → size s ≤ 16
size_credentials s l = subst (λ (x : ℕ). x ≤ 16) (sym (size_is s (omega arith))) (count-le 16 s l)

-- ---- below a set of one atom are as many atoms as its number

ones_in-none : (d : ℕ) → ones_in d 0 ≡ 0
unfolding ones_in
ones_in-none zero = refl
ones_in-none (suc d) = omega (arith, ones_in-none d)

ones_in-below : (d h : ℕ) → h ≤ d → ones_in d (2 ^ h - 1) ≡ h
unfolding ones_in
ones_in-below d zero l = ones_in-none d
ones_in-below zero (suc h) l = absurd (not-suc-le-zero l)
ones_in-below (suc d) (suc h) l =
    let twice = pow-suc 2 h in
    let some = pow_pos h in
    let odd : (2 ^ suc h - 1) % 2 ≡ 1 = omega arith in
    let half : (2 ^ suc h - 1) / 2 ≡ 2 ^ h - 1 = omega arith in
    ap₂ (λ (x y : ℕ). x + ones_in d y) odd half ∙ omega (arith, ones_in-below d h (le_of_suc-le-suc l))

pub size_below : (h : ℕ) → h ≤ violation → size (single h - 1) ≡ h
unfolding size
size_below h l = ap (λ (s : ℕ). ones_in 64 (s - 1)) (single_is h l) ∙ ones_in-below 64 h (omega arith)
