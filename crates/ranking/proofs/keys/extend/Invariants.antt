use Rattle.ranking.proofs.KeyLaws.{Extending}
use Rattle.ranking.proofs.keys.extend.Given as goal

abbrev pub invariant-loop-i : goal.invariant-loop-i
invariant-loop-i l = Extending l.top l.weight l.initial.totals l.i l.totals
