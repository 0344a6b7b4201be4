use Rattle.atoms.specs.Sets.{atoms_of}
use Rattle.lane_fixpoint.proofs.BodyLaws.{Hit}
use Rattle.lane_fixpoint.proofs.bodies.having_any.Given as goal

abbrev pub invariant-loop-k : goal.invariant-loop-k
invariant-loop-k l = Hit l.table.words l.fn.atoms.bits (atoms_of l.k-iterator.left) l.hit
