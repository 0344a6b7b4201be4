use Rattle.ranking.specs.Keys.{TotalsWritten}
use Rattle.ranking.proofs.keys.write_totals.Given as goal

abbrev pub invariant-loop-j : goal.invariant-loop-j
invariant-loop-j l = TotalsWritten l.weights l.from l.j l.initial.totals l.totals
