-- `recording::notice` meets its contract: nothing is told of a round. Assumes nothing.
use mathlib.Core.Logic.{inl, inr}
use mathlib.Core.List.{flat_map}
use Rattle.recording.specs.Recording.{noticed}
use Rattle.recording.proofs.notice.Goals as goal

pub returns-in-Nothing-clause-says : goal.returns-in-Nothing-clause-says
unfolding noticed flat_map
returns-in-Nothing-clause-says c = elim c.in-Nothing.is [ inl e ↦ rw e c.empty.ensures | inr (m, o, e) ↦ rw e c.empty.ensures ]
