-- Bits of words, and the test of them. Assumes nothing.
use mathlib.Core.Path.{◌∙◌, ◌≡◌, ap, sym}
use mathlib.Core.Logic.{◌≢◌, ◌⊎◌, inl, inr}
use mathlib.Core.Bool.{◌&&◌, false, not, true}
use Prim.Native.Nat.{◌-◌, ◌/◌, ◌<◌, ◌^◌, suc, zero, ℕ}
use lib.Bits.{and_le_l, and_le_r, bit_and, bit_or, or_add_and}
use lib.Dec.{eqb}
use native.Mathlib.Nat.{not-suc-le-zero, pow-suc}
use native.Mathlib.Omega.{arith}
use Rattle.validation.proofs.TestLaws.{true_eqb}
use Rattle.atoms.specs.Sets.{Member, bit, member}
use Rattle.atoms.proofs.SetLaws.{bit_first, bit_intersection, bit_lt, bit_next, bit_union, in_or_out, member_lowest, not_in, power_member}

-- ---- one bit

-- a bit, and the test of it
pub is_in : (s i : ℕ) → bit s i ≡ 1 → member i s ≡ true
is_in s i e = true_eqb e

pub is_out : (s i : ℕ) → bit s i ≡ 0 → member i s ≡ false
is_out s i e = ap (λ (x : ℕ). eqb x 1) e

abbrev pub InOrOut : ℕ → ℕ → Type 0
InOrOut s i = ((member i s ≡ true) × (bit s i ≡ 1)) ⊎ ((member i s ≡ false) × (bit s i ≡ 0))

pub tested : (s i : ℕ) → InOrOut s i
tested s i = go (in_or_out s i)
  where
    go : Member i s ⊎ (bit s i ≡ 0) → InOrOut s i
    go (inl m) = inl (is_in s i m, m)
    go (inr z) = inr (is_out s i z, z)

pub bit_other : (h k : ℕ) → k ≢ h → bit (2 ^ h) k ≡ 0
bit_other h k n = not_in (2 ^ h) k (λ m. n (power_member h k m))

rest_bit : (n x i : ℕ) → x < 2 ^ n → i < n → bit ((2 ^ n - 1) - x) i ≡ 1 - bit x i
rest_bit zero x i l h = absurd (not-suc-le-zero h)
rest_bit (suc n) x zero l h = bit_first ((2 ^ suc n - 1) - x) ∙ omega (arith, pow-suc 2 n, bit_first x)
rest_bit (suc n) x (suc i) l h =
    let e : ((2 ^ suc n - 1) - x) / 2 ≡ (2 ^ n - 1) - x / 2 = omega (arith, pow-suc 2 n) in
    bit_next ((2 ^ suc n - 1) - x) i
    ∙ ap (λ (y : ℕ). bit y i) e
    ∙ rest_bit n (x / 2) i (omega (arith, pow-suc 2 n)) (omega arith) ∙ ap (λ (y : ℕ). 1 - y) (sym (bit_next x i))

pub bit_others : (x i : ℕ) → x < 2 ^ 64 → i < 64 → bit (0xffffffffffffffff - x) i ≡ 1 - bit x i
bit_others x i l h = rest_bit 64 x i l h

pub full_bit : (i : ℕ) → i < 64 → bit 0xffffffffffffffff i ≡ 1
full_bit i l = (member_lowest 64 i).1 l

pub or_left : (x y : ℕ) → bit_or x y ≡ 0 → x ≡ 0
or_left x y e = omega (arith, or_add_and x y, and_le_r x y)

pub or_right : (x y : ℕ) → bit_or x y ≡ 0 → y ≡ 0
or_right x y e = omega (arith, or_add_and x y, and_le_l x y)

-- ---- the tests of words

pub member_and : (a b i : ℕ) → member i (bit_and a b) ≡ (member i a && member i b)
member_and a b i = go (tested a i) (tested b i)
  where
    go : InOrOut a i
        → InOrOut b i → member i (bit_and a b) ≡ (member i a && member i b)
    go (inl (e, x)) (inl (f, y)) = rw (e, f) (is_in (bit_and a b) i (omega (arith, bit_intersection a b i)))
    go (inl (e, x)) (inr (f, y)) = rw (e, f) (is_out (bit_and a b) i (omega (arith, bit_intersection a b i)))
    go (inr (e, x)) _ = rw e (is_out (bit_and a b) i (omega (arith, bit_intersection a b i)))

pub member_or : (a b i : ℕ) → not (member i (bit_or a b)) ≡ (not (member i a) && not (member i b))
member_or a b i = go (tested a i) (tested b i)
  where
    go : InOrOut a i
        → InOrOut b i → not (member i (bit_or a b)) ≡ (not (member i a) && not (member i b))
    go (inl (e, x)) _ = rw e (ap not (is_in (bit_or a b) i (omega (arith, bit_union a b i, bit_lt b i))))
    go (inr (e, x)) (inl (f, y)) = rw (e, f) (ap not (is_in (bit_or a b) i (omega (arith, bit_union a b i))))
    go (inr (e, x)) (inr (f, y)) = rw (e, f) (ap not (is_out (bit_or a b) i (omega (arith, bit_union a b i))))

pub member_others : (x i : ℕ) → x < 2 ^ 64 → i < 64 → member i (0xffffffffffffffff - x) ≡ not (member i x)
member_others x i l h = go (tested x i)
  where
    go : InOrOut x i → member i (0xffffffffffffffff - x) ≡ not (member i x)
    go (inl (e, y)) = rw e (is_out (0xffffffffffffffff - x) i (omega (arith, bit_others x i l h)))
    go (inr (e, y)) = rw e (is_in (0xffffffffffffffff - x) i (omega (arith, bit_others x i l h)))
