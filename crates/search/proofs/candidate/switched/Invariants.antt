use mathlib.Core.Path.{◌≡◌}
use Rattle.preference.specs.Candidates.{switched}
use Rattle.search.proofs.candidate.switched.Given as goal

abbrev pub invariant-loop-j : goal.invariant-loop-j
invariant-loop-j l = l.set ≡ switched l.base l.members l.j l.n
