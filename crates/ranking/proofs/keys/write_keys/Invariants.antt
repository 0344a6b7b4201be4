use Rattle.ranking.proofs.KeyLaws.{Keyed}
use Rattle.ranking.proofs.keys.write_keys.Given as goal

abbrev pub invariant-loop-i : goal.invariant-loop-i
invariant-loop-i l = Keyed l.initial.keys l.i l.keys
