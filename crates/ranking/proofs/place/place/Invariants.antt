use mathlib.Core.Path.{◌≡◌}
use Prim.Native.Nat.{◌*◌, ◌≤◌}
use Rattle.ranking.specs.Place.{keys_in}
use Rattle.ranking.proofs.place.place.Given as goal

abbrev pub invariant-loop-b : goal.invariant-loop-b
invariant-loop-b l = (l.count ≡ keys_in l.tables.low.now l.tables.lanes l.tables.high.now l.b l.key) × (l.count ≤ 256 * l.b)
