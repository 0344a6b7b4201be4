-- Sets of lanes, word by word. Assumes nothing.
use mathlib.Core.Path.{◌∙◌, ◌≡◌, refl, sym}
use mathlib.Core.Logic.{◌≢◌}
use mathlib.Core.Bool.{false, true≢false}
use Prim.Native.Nat.{◌<◌, suc, zero, ℕ}
use lib.Bits.{bit_or}
use lib.Dec.{eqb}
use native.Mathlib.Omega.{arith}
use Rattle.validation.proofs.TestLaws.{eqb_true, true_eqb}
use native.Mathlib.Decide.{ℕ_discrete}
use Rattle.lane_table.specs.LaneSets.{Empty, word}
use Rattle.lane_table.specs.declared.lane_set.LaneSet.{LaneSet}
use Rattle.lane_table.proofs.BitLaws.{or_left, or_right}

pub empty_is : (q : LaneSet) → Empty q (eqb (bit_or (bit_or (bit_or q.a q.b) q.c) q.d) 0)
empty_is q = record {
  none = λ e. none (eqb_true _ 0 e);
  some = λ e. some e (ℕ_discrete q.a 0) (ℕ_discrete q.b 0) (ℕ_discrete q.c 0) (ℕ_discrete q.d 0);
}
  where
    abc : ℕ
    abc = bit_or (bit_or q.a q.b) q.c

    none : bit_or (bit_or (bit_or q.a q.b) q.c) q.d ≡ 0 → (t : ℕ) → word q t ≡ 0
    none e zero = or_left q.a q.b (or_left (bit_or q.a q.b) q.c (or_left abc q.d e))
    none e (suc zero) = or_right q.a q.b (or_left (bit_or q.a q.b) q.c (or_left abc q.d e))
    none e (suc (suc zero)) = or_right (bit_or q.a q.b) q.c (or_left abc q.d e)
    none e (suc (suc (suc t))) = or_right abc q.d e

    some : eqb (bit_or (bit_or (bit_or q.a q.b) q.c) q.d) 0 ≡ false → Dec (q.a ≡ 0) → Dec (q.b ≡ 0) → Dec (q.c ≡ 0) → Dec (q.d ≡ 0)
        → (t : ℕ) × ((t < 4) × (word q t ≢ 0))
    some e (no n) _ _ _ = (0, (omega arith, n))
    some e (yes a) (no n) _ _ = (1, (omega arith, n))
    some e (yes a) (yes b) (no n) _ = (2, (omega arith, n))
    some e (yes a) (yes b) (yes c) (no n) = (3, (omega arith, n))
    some e (yes a) (yes b) (yes c) (yes d) =
        let z : bit_or (bit_or (bit_or q.a q.b) q.c) q.d ≡ 0 = rw (a, b, c, d) refl in
        absurd (true≢false (sym (true_eqb z) ∙ e))
