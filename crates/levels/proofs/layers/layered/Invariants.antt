-- `levels::layers::layered` meets its contract: the walk's state is kept, and there is less to do after each step. Assumes nothing.
use Prim.Native.Nat.{◌*◌, ◌+◌}
use Rattle.atoms.specs.Sets.{size}
use Rattle.levels.specs.Walks.{Walking}
use Rattle.levels.proofs.layers.layered.Given as goal

abbrev pub invariant-loop-walk : goal.invariant-loop-walk
invariant-loop-walk l = Walking l.rows l.walk l.layers.of l.layers.at

abbrev pub decreases-loop-walk : goal.decreases-loop-walk
decreases-loop-walk l = 2 * size l.walk.fresh.bits + l.walk.depth
