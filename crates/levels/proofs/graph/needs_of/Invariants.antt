-- `levels::graph::needs_of` meets its contract: the atoms that it has come to say the rest. Assumes nothing.
use Rattle.levels.proofs.MemberLaws.{Needing}
use Rattle.levels.proofs.graph.needs_of.Given as goal

abbrev pub invariant-loop-h : goal.invariant-loop-h
invariant-loop-h l = Needing l.rows l.yielded l.needs.bits
