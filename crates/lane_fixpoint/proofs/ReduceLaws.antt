-- What is negated, read for all lanes at once. Assumes nothing.
use mathlib.Core.Path.{◌∙◌, ◌≡◌, ap, subst, sym}
use mathlib.Core.Logic.{◌≢◌}
use mathlib.Core.List.{List}
use Prim.Native.Nat.{◌+◌, ◌<◌, ◌≤◌, ℕ}
use lib.Bits.{bit_and}
use lib.Dec.{eqb}
use lib.ListN.{get_or}
use native.Mathlib.Decide.{ℕ_discrete}
use native.Mathlib.Omega.{arith}
use Rattle.atoms.specs.Sets.{Subset, bit, disjoint, member}
use Rattle.atoms.proofs.SetLaws.{ext, intersection_iff, same_bit}
use Rattle.lane_table.specs.LaneSets.{Complement, EachLane, word}
use Rattle.lane_table.specs.Tables.{Same, Stored, cell, lane}
use Rattle.lane_table.specs.declared.lane_set.LaneSet.{LaneSet}
use Rattle.lane_table.proofs.BitLaws.{member_others}
use Rattle.lane_table.proofs.LaneLaws.{stored_same}
use Rattle.lane_fixpoint.specs.Firing.{HavingAny}
use Rattle.lane_fixpoint.specs.Passes.{Covers}

pub below : (j k : ℕ) → j < k + 1 → j ≢ k → j < k
below j k b ne = omega arith

-- a set within p shares with a what it shares with the part of a that is in p
covered : (a p s : ℕ) → Subset s p → disjoint (bit_and a p) s ≡ disjoint a s
covered a p s f = ap (λ (x : ℕ). eqb x 0) (ext same)
  where
    same : (k : ℕ) → bit (bit_and (bit_and a p) s) k ≡ bit (bit_and a s) k
    same k =
        same_bit _ _ k
        (λ m. let i = (intersection_iff (bit_and a p) s k).0 m in (intersection_iff a s k).1 (((intersection_iff a p k).0 i.0).0, i.1))
        (λ m. let i = (intersection_iff a s k).0 m in (intersection_iff (bit_and a p) s k).1 ((intersection_iff a p k).1 (i.0, f k i.1), i.1))

-- of the rules before place k it is read
module _ (negated : List ℕ) (from : ℕ) where
  pub record Reducing (before table : List ℕ) (k : ℕ) : Type 0 where
    pub same : Same before table
    pub says : EachLane (λ t i. (j : ℕ) → from ≤ j → j < k → member i (cell table t (64 + j)) ≡ disjoint (get_or negated j 0) (lane before t i))

  pub reducing_next : (possible : ℕ) (before table after : List ℕ) (hit rest : LaneSet) (k : ℕ) → Covers possible before → Reducing before table k
      → HavingAny table (bit_and (get_or negated k 0) possible) hit → Complement hit rest → Stored (64 + k) rest table after → Reducing before after (k + 1)
  reducing_next possible before table after hit rest k covers s hits rests stores = record {
    same = λ t i l n. stored_same (64 + k) rest table after stores (omega arith) t i l n ∙ s.same t i l n;
    says = λ t i l n j a b. go t i l n j a b (ℕ_discrete j k);
  }
    where
      go : (t i : ℕ) → t < 4 → i < 64 → (j : ℕ) → from ≤ j → j < k + 1 → Dec (j ≡ k)
          → member i (cell after t (64 + j)) ≡ disjoint (get_or negated j 0) (lane before t i)
      go t i l n j a b (yes e) =
          subst (λ (x : ℕ). member i (cell after t (64 + x)) ≡ disjoint (get_or negated x 0) (lane before t i)) (sym e)
          (ap (λ (x : ℕ). member i x) (stores.here t l ∙ rests.each t)
          ∙ member_others (word hit t) i (rests.small t) n
          ∙ hits.each t i l n
          ∙ ap (disjoint (bit_and (get_or negated k 0) possible)) (s.same t i l n) ∙ covered (get_or negated k 0) possible (lane before t i) (covers.each t i l n))
      go t i l n j a b (no ne) =
          ap (λ (x : ℕ). member i x) (stores.there t (64 + j) l (λ e. ne (omega arith))) ∙ s.says t i l n j a (below j k b ne)
