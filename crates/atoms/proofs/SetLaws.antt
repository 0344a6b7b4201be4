-- The laws of sets as numbers, bit by bit. A bit is 0 or 1, so a fact about sets is arithmetic on their bits, which `omega` proves. Assumes nothing.
use mathlib.Core.Path.{◌∙◌, ◌≡◌, ap, refl, subst, sym}
use mathlib.Core.Logic.{◌↔◌, ◌≢◌, ◌⊎◌, inl, inr}
use mathlib.Core.Bool.{Bool, cond, false, true}
use mathlib.Core.List.{List, [], ◌∷◌}
use Prim.Native.Nat.{◌%◌, ◌*◌, ◌+◌, ◌-◌, ◌/◌, ◌<◌, ◌^◌, ◌≤◌, max, min, suc, zero, ℕ}
use lib.Arith.{bin_ind, half_le}
use lib.Bits.{and_le_l, and_step, bit_and}
use lib.Dec.{leb, leb→le}
use lib.Pow.{pow_pos}
use native.Mathlib.Decide.{dec_lt, ℕ_discrete}
use native.Mathlib.Omega.{arith}
use Rattle.std.proofs.lemmas.Nat.Bits.{bit_at-lt, bit_at-pow_other, bit_at-pow_same, bit_at-suc, bit_at-zero, bit_at_above, bit_at_and, bit_at_lowest, bit_at_ones, bit_at_or}
use Rattle.lists.specs.Lists.{Every, OneOf}
use borrow.Author.Tests.{eqb-false}
use Rattle.validation.proofs.TestLaws.{eqb_true, le_true, true_T, true_eqb}
use Rattle.atoms.specs.Atoms.{violation}
use Rattle.atoms.specs.Sets.{Member, Subset, bit, difference, disjoint, intersection, set_of, single, subset, union}

-- ---- one bit

pub bit_lt : (s k : ℕ) → bit s k < 2
bit_lt = bit_at-lt

pub bit_empty : (k : ℕ) → bit 0 k ≡ 0
bit_empty = bit_at-zero

pub bit_first : (s : ℕ) → bit s 0 ≡ s % 2
bit_first = bit_at_lowest

pub bit_next : (s k : ℕ) → bit s (suc k) ≡ bit (s / 2) k
bit_next = bit_at-suc

pub bit_union : (a b k : ℕ) → bit (union a b) k ≡ max (bit a k) (bit b k)
bit_union = bit_at_or

pub bit_intersection : (a b k : ℕ) → bit (intersection a b) k ≡ min (bit a k) (bit b k)
bit_intersection = bit_at_and

difference_half : (a b : ℕ) → difference a b / 2 ≡ difference (a / 2) (b / 2)
difference_half a b = omega (arith, and_step a b, and_le_l (a / 2) (b / 2))

odd_less : (a x m : ℕ) → x ≤ a / 2 → m ≤ a % 2 → (a - (x * 2 + m)) % 2 ≡ a % 2 - m
odd_less a x m h l = omega arith

difference_odd : (a b : ℕ) → difference a b % 2 ≡ a % 2 - b % 2
difference_odd a b =
    let h : bit_and (a / 2) (b / 2) ≤ a / 2 = and_le_l (a / 2) (b / 2) in
    ap (λ (x : ℕ). (a - x) % 2) (and_step a b) ∙ odd_less a (bit_and (a / 2) (b / 2)) (min (a % 2) (b % 2)) h (omega arith) ∙ omega arith

pub bit_difference : (a b k : ℕ) → bit (difference a b) k ≡ bit a k - bit b k
bit_difference a b zero = bit_first (difference a b) ∙ difference_odd a b ∙ omega (arith, bit_first a, bit_first b)
bit_difference a b (suc k) =
    let ih = bit_difference (a / 2) (b / 2) k in
    bit_next (difference a b) k ∙ ap (λ (x : ℕ). bit x k) (difference_half a b) ∙ omega (arith, ih, bit_next a k, bit_next b k)

-- the power of two that stands for one atom
pub bit_one : (h : ℕ) → bit (2 ^ h) h ≡ 1
bit_one = bit_at-pow_same

bit_other : (h k : ℕ) → h ≢ k → bit (2 ^ h) k ≡ 0
bit_other h k n = bit_at-pow_other h k (λ e. n (sym e))

-- ---- sets of atoms below n

pub bit_high : (s n k : ℕ) → s < 2 ^ n → n ≤ k → bit s k ≡ 0
bit_high = bit_at_above

pub member_low : (s n k : ℕ) → s < 2 ^ n → Member k s → k < n
member_low s n k h m = go (dec_lt k n)
  where
    go : Dec (k < n) → k < n
    go (yes l) = l
    go (no g) = let z : bit s k ≡ 0 = bit_high s n k h (omega arith) in omega arith

-- the set of the n lowest atoms
pub member_lowest : (n k : ℕ) → Member k (2 ^ n - 1) ↔ (k < n)
member_lowest n k = (member_low (2 ^ n - 1) n k (omega (arith, pow_pos n)), bit_at_ones n k)

-- ---- two sets with the same atoms are the same number

ext_below : (n a b : ℕ) → a ≤ n → b ≤ n → ((k : ℕ) → bit a k ≡ bit b k) → a ≡ b
ext_below zero a b l m e = omega arith
ext_below (suc n) a b l m e =
    let ih : a / 2 ≡ b / 2
    = ext_below n (a / 2) (b / 2) (half_le l) (half_le m) (λ k. sym (bit_next a k) ∙ e (suc k) ∙ bit_next b k) in
    let odd : a % 2 ≡ b % 2 = sym (bit_first a) ∙ e 0 ∙ bit_first b in
    omega arith

pub ext : {a b : ℕ} → ((k : ℕ) → bit a k ≡ bit b k) → a ≡ b
ext {a} {b} e = ext_below (a + b) a b (omega arith) (omega arith) e

pub same_bit : (a b k : ℕ) → (Member k a → Member k b) → (Member k b → Member k a) → bit a k ≡ bit b k
same_bit a b k f g = go (bit a k) (bit b k) refl refl
  where
    go : (x y : ℕ) → bit a k ≡ x → bit b k ≡ y → bit a k ≡ bit b k
    go zero zero p q = p ∙ sym q
    go zero (suc y) p q = let t : bit a k ≡ 1 = g (omega (arith, bit_lt b k)) in omega arith
    go (suc x) y p q = let one : bit a k ≡ 1 = omega (arith, bit_lt a k) in one ∙ sym (f one)

pub subset_antisym : {a b : ℕ} → Subset a b → Subset b a → a ≡ b
subset_antisym {a} {b} f g = ext (λ k. same_bit a b k (f k) (g k))

-- ---- membership of each operation

pub none_in_empty : (k : ℕ) → Member k 0 → ⊥
none_in_empty k m = let z : bit 0 k ≡ 0 = bit_empty k in omega arith

pub empty_subset : (a : ℕ) → Subset 0 a
empty_subset a k m = absurd (none_in_empty k m)

pub none_is_empty : (s : ℕ) → ((k : ℕ) → Member k s → ⊥) → s ≡ 0
none_is_empty s h = subset_antisym (λ k m. absurd (h k m)) (empty_subset s)

-- in the set, or not
pub in_or_out : (s k : ℕ) → Member k s ⊎ (bit s k ≡ 0)
in_or_out s k = go (bit s k) refl
  where
    go : (x : ℕ) → bit s k ≡ x → Member k s ⊎ (bit s k ≡ 0)
    go zero e = inr e
    go (suc x) e = inl (omega (arith, bit_lt s k))

pub not_in : (s k : ℕ) → (Member k s → ⊥) → bit s k ≡ 0
not_in s k n = go (in_or_out s k)
  where
    go : Member k s ⊎ (bit s k ≡ 0) → bit s k ≡ 0
    go (inl i) = absurd (n i)
    go (inr z) = z

pub union_left : (a b : ℕ) → Subset a (union a b)
union_left a b k m = omega (arith, bit_union a b k, bit_lt b k)

pub union_right : (a b : ℕ) → Subset b (union a b)
union_right a b k m = omega (arith, bit_union a b k, bit_lt a k)

pub union_cases : (a b k : ℕ) → Member k (union a b) → Member k a ⊎ Member k b
union_cases a b k m = go (in_or_out a k)
  where
    go : Member k a ⊎ (bit a k ≡ 0) → Member k a ⊎ Member k b
    go (inl i) = inl i
    go (inr z) = inr (omega (arith, bit_union a b k))

pub intersection_iff : (a b k : ℕ) → Member k (intersection a b) ↔ (Member k a × Member k b)
intersection_iff a b k = (
  λ m. (omega (arith, bit_intersection a b k, bit_lt a k), omega (arith, bit_intersection a b k, bit_lt b k)),
  λ p. omega (arith, bit_intersection a b k, p.0, p.1),
)

pub difference_iff : (a b k : ℕ) → Member k (difference a b) ↔ (Member k a × (Member k b → ⊥))
difference_iff a b k = (
  λ m. (omega (arith, bit_difference a b k, bit_lt a k), λ n. omega (arith, bit_difference a b k, bit_lt a k)),
  λ p. omega (arith, bit_difference a b k, p.0, not_in b k p.1),
)

-- ---- laws of the operations

pub union_empty : (a : ℕ) → union a 0 ≡ a
union_empty a = ext (λ k. bit_union a 0 k ∙ omega (arith, bit_empty k))

pub union_least : (a b c : ℕ) → Subset a c → Subset b c → Subset (union a b) c
union_least a b c f g k m = go (union_cases a b k m)
  where
    go : Member k a ⊎ Member k b → Member k c
    go (inl i) = f k i
    go (inr i) = g k i

pub union_difference : (a b : ℕ) → union a (difference b a) ≡ union b a
union_difference a b =
    ext (λ k. bit_union a (difference b a) k ∙ ap (λ (x : ℕ). max (bit a k) x) (bit_difference b a k) ∙ omega (arith, bit_union b a k, bit_lt a k, bit_lt b k))

-- nothing of a is outside b
pub intersection_all : (a b : ℕ) → difference a b ≡ 0 → intersection a b ≡ a
intersection_all a b e =
    ext
    (λ k.
    let z : bit (difference a b) k ≡ 0 = ap (λ (x : ℕ). bit x k) e ∙ bit_empty k in
    bit_intersection a b k ∙ omega (arith, bit_difference a b k))

-- a set that is not empty has an atom
pub inhabited : (s : ℕ) → s ≢ 0 → (k : ℕ) × Member k s
inhabited = bin_ind (λ (s : ℕ). s ≢ 0 → (k : ℕ) × Member k s) (λ n. absurd (n refl)) step
  where
    step : (s : ℕ) → (s / 2 ≢ 0 → (k : ℕ) × Member k (s / 2)) → s ≢ 0 → (k : ℕ) × Member k s
    step s ih n = go (s % 2) refl
      where
        go : (x : ℕ) → s % 2 ≡ x → (k : ℕ) × Member k s
        go zero e = let r = ih (λ h. n (omega arith)) in (suc r.0, bit_next s r.0 ∙ r.1)
        go (suc x) e = (0, bit_first s ∙ omega arith)

-- ---- the tests

pub subset_true : (a b : ℕ) → subset a b ≡ true → Subset a b
subset_true a b e k m =
    let same : bit (intersection a b) k ≡ bit a k = ap (λ (x : ℕ). bit x k) (eqb_true _ _ e) in
    ((intersection_iff a b k).0 (same ∙ m)).1

pub true_subset : (a b : ℕ) → Subset a b → subset a b ≡ true
true_subset a b f =
    true_eqb (subset_antisym (λ k m. ((intersection_iff a b k).0 m).0) (λ k m. (intersection_iff a b k).1 (m, f k m)))

pub disjoint_true : (a b : ℕ) → disjoint a b ≡ true → (k : ℕ) → Member k a → Member k b → ⊥
disjoint_true a b e k m n =
    none_in_empty k (subst (λ (x : ℕ). Member k x) (eqb_true _ _ e) ((intersection_iff a b k).1 (m, n)))

-- sets that are not apart share an atom
pub meets : (a b : ℕ) → disjoint a b ≡ false → (k : ℕ) × Member k a × Member k b
meets a b e = let (k, m) = inhabited (intersection a b) (eqb-false _ _ e) in let p = (intersection_iff a b k).0 m in (k, p.0, p.1)

pub true_disjoint : (a b : ℕ) → ((k : ℕ) → Member k a → Member k b → ⊥) → disjoint a b ≡ true
true_disjoint a b f =
    true_eqb
    (subset_antisym
    (λ k m. absurd (let p = (intersection_iff a b k).0 m in f k p.0 p.1))
    (empty_subset (intersection a b)))

-- ---- the set of one atom

pub single_is : (h : ℕ) → h ≤ violation → single h ≡ 2 ^ h
single_is h l = ap (λ (b : Bool). cond b (2 ^ h) 0) (le_true h violation l)

pub single_own : (h : ℕ) → h ≤ violation → Member h (single h)
single_own h l = ap (λ (x : ℕ). bit x h) (single_is h l) ∙ bit_one h

pub power_member : (h k : ℕ) → Member k (2 ^ h) → k ≡ h
power_member h k m = go (ℕ_discrete h k)
  where
    go : Dec (h ≡ k) → k ≡ h
    go (yes e) = sym e
    go (no n) = let z : bit (2 ^ h) k ≡ 0 = bit_other h k n in omega arith

pub single_cases : (h k : ℕ) → Member k (single h) → (k ≡ h) × (h ≤ violation)
single_cases h k m = go (leb h violation) refl m
  where
    go : (b : Bool) → leb h violation ≡ b → Member k (cond b (2 ^ h) 0) → (k ≡ h) × (h ≤ violation)
    go true e m = (power_member h k m, leb→le h violation (true_T e))
    go false e m = absurd (none_in_empty k m)

pub member_single : (h k : ℕ) → Member k (single h) → k ≡ h
member_single h k m = (single_cases h k m).0

-- ---- the set of the atoms of a list

pub set_of-iff : (ks : List ℕ) → Every (λ h. h ≤ violation) ks → (k : ℕ) → Member k (set_of ks) ↔ OneOf k ks
unfolding set_of
set_of-iff [] f k = (none_in_empty k, λ x. absurd x)
set_of-iff (h ∷ hs) f k = (λ m. forth (union_cases (single h) (set_of hs) k m) (set_of-iff hs f.1 k).0, λ x. back x (set_of-iff hs f.1 k).1)
  where
    forth : Member k (single h) ⊎ Member k (set_of hs) → (Member k (set_of hs) → OneOf k hs) → (k ≡ h) ⊎ OneOf k hs
    forth (inl i) ih = inl (member_single h k i)
    forth (inr i) ih = inr (ih i)

    back : (k ≡ h) ⊎ OneOf k hs → (OneOf k hs → Member k (set_of hs)) → Member k (union (single h) (set_of hs))
    back (inl e) ih = union_left (single h) (set_of hs) k (subst (λ (x : ℕ). Member x (single h)) (sym e) (single_own h f.0))
    back (inr x) ih = union_right (single h) (set_of hs) k (ih x)
