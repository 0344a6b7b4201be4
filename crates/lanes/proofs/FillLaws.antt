-- The base in every lane. Assumes nothing.
use mathlib.Core.Path.{◌∙◌, ◌≡◌, ap, refl, subst, sym}
use mathlib.Core.Logic.{◌↔◌, ◌⊎◌, inl, inr}
use mathlib.Core.List.{List, [], ◌∷◌}
use Prim.Native.Nat.{◌<◌, ◌^◌, suc, zero, ℕ}
use lib.ListN.{get_or, replicate}
use native.Mathlib.Omega.{arith}
use Rattle.lists.specs.Lists.{OneOf}
use Rattle.atoms.specs.Sets.{Member, Subset, atoms_of, bit, union}
use Rattle.atoms.proofs.ListedLaws.{listed_iff}
use Rattle.atoms.proofs.SetLaws.{bit_empty, bit_lt, bit_one, bit_union, ext, none_in_empty, power_member, same_bit, union_cases, union_left, union_right}
use Rattle.lane_table.specs.LaneSets.{EachLane, Splat}
use Rattle.lane_table.specs.Tables.{Stored, lane, offset}
use Rattle.lane_table.specs.declared.lane_set.LaneSet.{LaneSet}
use Rattle.lane_table.proofs.BitLaws.{bit_other, full_bit}
use Rattle.lane_table.proofs.LaneLaws.{lane_is, stored_lane}
use Rattle.lane_fixpoint.specs.Passes.{Covers}
use Rattle.lanes.specs.Candidates.{Blank, Uniform}

-- the base is what each lane has and the atoms ks, which are still to be filled in

pub record Filling (base : ℕ) (ks table : List ℕ) : Type 0 where
  pub each : EachLane (λ t i. (j : ℕ) → Member j base ↔ (Member j (lane table t i) ⊎ OneOf j ks))

pub filling_first : (base left : ℕ) (table : List ℕ) → base < 2 ^ 64 → left ≡ base → Blank table → Filling base (atoms_of left) table
filling_first base left table small e blank = subst (λ (x : ℕ). Filling base (atoms_of x) table) (sym e) (record {
  each = λ t i l n j. (λ m. inr ((listed_iff base j small).1 m), back t i j);
})
  where
    none : (t i : ℕ) → lane table t i ≡ 0
    none t i = lane_is table t i 0 (λ k m. ap (λ (x : ℕ). bit x i) (blank (offset t k)) ∙ bit_empty i ∙ sym (bit_empty k)) (λ k m. bit_empty k)

    back : (t i j : ℕ) → Member j (lane table t i) ⊎ OneOf j (atoms_of base) → Member j base
    back t i j (inl m) = absurd (none_in_empty j (subst (Member j) (none t i) m))
    back t i j (inr x) = (listed_iff base j small).0 x

pub filling_next : (base k : ℕ) (left ks table after : List ℕ) (row : LaneSet) → left ≡ k ∷ ks → k < 64 → Filling base left table
    → Splat 0xffffffffffffffff row → Stored k row table after → Filling base ks after
filling_next base k left ks table after row first fits h s stores = record {
  each = λ t i l n j.
      let at = subst (λ (js : List ℕ). Member j base ↔ (Member j (lane table t i) ⊎ OneOf j js)) first (h.each t i l n j) in
      subst (λ (S : ℕ). Member j base ↔ (Member j S ⊎ OneOf j ks)) (sym (laid t i l n))
      (λ m. forth (lane table t i) j (at.0 m), λ x. at.1 (back (lane table t i) j x));
}
  where
    laid : (t i : ℕ) → t < 4 → i < 64 → lane after t i ≡ union (lane table t i) (2 ^ k)
    laid t i l n =
        let S = lane table t i in
        stored_lane k row table after stores t i (union S (2 ^ k)) l
        (ap (λ (x : ℕ). bit x i) (s.each t) ∙ full_bit i n ∙ omega (arith, bit_union S (2 ^ k) k, bit_one k, bit_lt S k))
        (λ j ne. omega (arith, bit_union S (2 ^ k) j, bit_other k j ne)) fits

    forth : (S j : ℕ) → Member j S ⊎ OneOf j (k ∷ ks) → Member j (union S (2 ^ k)) ⊎ OneOf j ks
    forth S j (inl m) = inl (union_left S (2 ^ k) j m)
    forth S j (inr (inl e)) = inl (union_right S (2 ^ k) j (subst (λ (x : ℕ). Member x (2 ^ k)) (sym e) (bit_one k)))
    forth S j (inr (inr x)) = inr x

    back : (S j : ℕ) → Member j (union S (2 ^ k)) ⊎ OneOf j ks → Member j S ⊎ OneOf j (k ∷ ks)
    back S j (inl m) = go (union_cases S (2 ^ k) j m)
      where
        go : Member j S ⊎ Member j (2 ^ k) → Member j S ⊎ OneOf j (k ∷ ks)
        go (inl i) = inl i
        go (inr i) = inr (inl (power_member k j i))
    back S j (inr x) = inr (inr x)

pub filling_done : (base : ℕ) (ks table : List ℕ) → Filling base ks table → ks ≡ [] → Uniform base table
filling_done base ks table h e t i l n =
    ext (λ j. same_bit _ _ j (λ m. (h.each t i l n j).1 (inl m)) (λ m. only j ((h.each t i l n j).0 m)))
  where
    only : (j : ℕ) → Member j (lane table t i) ⊎ OneOf j ks → Member j (lane table t i)
    only j (inl m) = m
    only j (inr x) = absurd (subst (OneOf j) e x)

-- at first it is the base
pub covers_base : (base : ℕ) (table : List ℕ) → Uniform base table → Covers base table
covers_base base table h = record { each = λ t i l n. subst (λ (S : ℕ). Subset S base) (sym (h t i l n)) (λ k m. m) }

pub zeros : (n q : ℕ) → get_or {A = ℕ} (replicate n 0) q 0 ≡ 0
zeros zero q = refl
zeros (suc n) zero = refl
zeros (suc n) (suc q) = zeros n q
