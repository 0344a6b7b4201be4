use native.Mathlib.Numerals.{add-one}
use native.Mathlib.Omega.{arith}
use Rattle.replay.specs.Types.{replayed_of}
use Rattle.replay.proofs.ReplayLaws.{reached_first, reached_last, reached_next}
use Rattle.replay.proofs.replay.Goals as goal

pub loop-shows-init : goal.loop-shows-init
loop-shows-init c =
    let a = c.args in
    reached_first a.policy.now a.request a.shown.now (replayed_of c.start-state.result) c.start-state.ensures

pub loop-shows-preserved : goal.loop-shows-preserved
loop-shows-preserved c =
    let a = c.args in
    let l = c.loop-shows in
    rw add-one
    (reached_next a.policy.now a.request a.shown.now l.shows-index (replayed_of l.state) (replayed_of c.one_more-state.result)
    (omega arith) l.invariant c.one_more-state.ensures)

pub returns-clause-demand3 : goal.returns-clause-demand3
returns-clause-demand3 c =
    let a = c.args in
    let l = c.loop-shows in
    (reached_last a.policy.now c.type_inv.policy a.request a.shown.now c.type_inv.shown l.shows-index
    (omega arith) (replayed_of l.state) l.invariant).1.0
