use mathlib.Core.Path.{◌≡◌}
use Prim.Native.Nat.{◌≤◌}
use Rattle.ranking.specs.Place.{keys_below}
use Rattle.ranking.proofs.place.keys_below.Given as goal

abbrev pub invariant-loop-key : goal.invariant-loop-key
invariant-loop-key l = (l.n ≡ keys_below l.keys l.key-index l.bar) × (l.n ≤ l.key-index)
