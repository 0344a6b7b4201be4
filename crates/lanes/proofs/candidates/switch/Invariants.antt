use Rattle.lanes.proofs.SwitchingLaws.{Switching}
use Rattle.lanes.proofs.candidates.switch.Given as goal

abbrev pub invariant-loop-j : goal.invariant-loop-j
invariant-loop-j l = Switching l.search.members.now l.b l.initial.table.words l.table.words l.reached l.j
