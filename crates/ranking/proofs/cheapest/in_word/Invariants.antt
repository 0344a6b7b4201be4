use Prim.Native.Nat.{◌*◌, ◌+◌}
use Rattle.ranking.specs.Cheapest.{Cheapest}
use Rattle.ranking.proofs.cheapest.in_word.Given as goal

abbrev pub invariant-loop-i : goal.invariant-loop-i
invariant-loop-i l = Cheapest l.keys l.words (64 * l.t + l.i) l.least
