-- `layout::listed::list` meets its contract, by its loop's invariant. Assumes nothing.
use native.Mathlib.Omega.{arith}
use Rattle.records.specs.Types.{record_of}
use Rattle.arrays.specs.Arrays.{Room}
use Rattle.layout.proofs.ListedLaws.{reading_done, reading_passed, reading_start, reading_taken}
use Rattle.layout.proofs.listed.list.Goals as goal
use Rattle.layout.proofs.listed.list.Goals.{then-parsed-kind, else-parsed-kind}

pub loop-k-init : goal.loop-k-init
loop-k-init c =
    let rules = c.args.rules.now in
    let room : Room rules.heads rules.positive rules.negated =
    record { head_places = omega arith; positive_places = omega arith; negated_places = omega arith; singles = c.requires.1 } in
    reading_start c.args.policy.now c.requires.0 c.args.kind _ _ _ room

pub returns : goal.returns
returns c = reading_done _ c.requires.0 _ _ _ _ _ _ c.loop-k.invariant (omega arith)

pub loop-k-preserved : goal.loop-k-preserved
loop-k-preserved c =
    let bytes = c.args.policy.now in
    let d = c.record_at-parsed in
    let l = c.loop-k in
    elim c.if-parsed-kind.branch [
      | then-parsed-kind w ↦ rw (w.rules-is, w.count-is)
          (reading_taken bytes c.requires.0 _ _ _ _ _ _ l.invariant (omega arith) (record_of d.result) d.ensures w.if-parsed-kind.true _ w.one.ensures)
      | else-parsed-kind w ↦ rw (w.rules-is, w.count-is)
          (reading_passed bytes c.requires.0 _ _ _ _ _ _ l.invariant (omega arith) (record_of d.result) d.ensures w.if-parsed-kind.false)
    ]
