use Prim.Native.Nat.{◌*◌}
use Rattle.ranking.specs.Cheapest.{Cheapest}
use Rattle.ranking.proofs.cheapest.cheapest.Given as goal

abbrev pub invariant-loop-t : goal.invariant-loop-t
invariant-loop-t l = Cheapest l.keys l.words (64 * l.t) l.least
