-- `weights::weight_table` meets its contract: each record that is a weight names a credential. Assumes nothing.
use Prim.Native.Nat.{◌-◌}
use native.Mathlib.Omega.{arith}
use Rattle.records.specs.Types.{record_of}
use Rattle.weights.proofs.TableLaws.{reading_done, reading_other, reading_start, reading_weight, weight_read}
use Rattle.weights.proofs.weight_table.Goals as goal

pub loop-k-init : goal.loop-k-init
loop-k-init c = reading_start c.args.policy.now

pub overflow_cast-weights : goal.overflow_cast-weights
overflow_cast-weights c =
    let d = c.record_at-parsed in
    omega (arith, weight_read c.args.policy.now c.requires (c.loop-k.k - 1) (omega arith) c.if-policy-k-eq-WEIGHT.true (record_of d.result) d.ensures)

pub bounds-weights-parsed : goal.bounds-weights-parsed
bounds-weights-parsed c =
    let d = c.record_at-parsed in
    omega (arith, weight_read c.args.policy.now c.requires (c.loop-k.k - 1) (omega arith) c.if-policy-k-eq-WEIGHT.true (record_of d.result) d.ensures)

pub loop-k-preserved-then-policy-k-eq-WEIGHT : goal.loop-k-preserved-then-policy-k-eq-WEIGHT
loop-k-preserved-then-policy-k-eq-WEIGHT c =
    let d = c.record_at-parsed in
    let weight = weight_read c.args.policy.now c.requires (c.loop-k.k - 1) (omega arith) c.if-policy-k-eq-WEIGHT.true (record_of d.result) d.ensures in
    reading_weight _ c.loop-k.k _ c.loop-k.invariant (omega arith) (omega arith) c.if-policy-k-eq-WEIGHT.true (record_of d.result) weight.0 d.ensures

pub loop-k-preserved : goal.loop-k-preserved
loop-k-preserved c = reading_other _ c.loop-k.k _ c.loop-k.invariant (omega arith) (omega arith) c.if-policy-k-eq-WEIGHT.false

pub returns : goal.returns
returns c = reading_done _ c.loop-k.k _ (omega arith) c.loop-k.invariant
