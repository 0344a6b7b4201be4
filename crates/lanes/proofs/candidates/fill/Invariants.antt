use Rattle.atoms.specs.Sets.{atoms_of}
use Rattle.lanes.proofs.FillLaws.{Filling}
use Rattle.lanes.proofs.candidates.fill.Given as goal

abbrev pub invariant-loop-k : goal.invariant-loop-k
invariant-loop-k l = Filling l.fn.base (atoms_of l.k-iterator.left) l.table.words
