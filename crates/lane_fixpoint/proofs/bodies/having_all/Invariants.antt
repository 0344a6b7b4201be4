use Rattle.atoms.specs.Sets.{atoms_of}
use Rattle.lane_fixpoint.proofs.BodyLaws.{Held}
use Rattle.lane_fixpoint.proofs.bodies.having_all.Given as goal

abbrev pub invariant-loop-k : goal.invariant-loop-k
invariant-loop-k l = Held l.table.words l.fn.atoms.bits l.initial.held (atoms_of l.k-iterator.left) l.held
