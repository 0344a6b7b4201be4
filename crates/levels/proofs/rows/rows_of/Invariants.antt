-- `levels::rows::rows_of` meets its contract. The loop's invariant: the rows of the records so far. Assumes nothing.
use mathlib.Core.Path.{◌≡◌}
use lib.ListN.{length}
use Rattle.levels.specs.Rows.{Gathered}
use Rattle.levels.proofs.rows.rows_of.Given as goal

abbrev pub invariant-loop-k : goal.invariant-loop-k
invariant-loop-k l = (length l.rows.bodies ≡ 64) × ((length l.rows.negated ≡ 64) × Gathered l.policy l.k l.rows.bodies l.rows.negated l.heads.bits)
