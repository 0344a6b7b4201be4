use native.Mathlib.Omega.{arith}
use Rattle.lanes.proofs.SwitchingLaws.{noted_next, switching_first, switching_next}
use Rattle.lanes.proofs.candidates.switch.Goals as goal

pub loop-j-init : goal.loop-j-init
loop-j-init c = record { done = switching_first _ _ _; covers = c.requires }

pub loop-j-preserved : goal.loop-j-preserved
loop-j-preserved c =
    let one = c.args.search.now.searchable.switches.1 c.loop-j.j (omega arith) in
    let old = c.load-old.ensures in
    let which = c.takers.ensures in
    let row = c.symmetric_difference-row.ensures in
    let stores = c.store.ensures in
    let v = c.loop-j.invariant in
    record {
      done = switching_next _ c.loop-j.j _ _ _ _ _ _ _ one v.done old which row stores;
      covers = noted_next _ c.loop-j.j _ _ _ _ _ _ _ one v.done old which row stores _ _ v.covers c.note-reached.ensures;
    }
