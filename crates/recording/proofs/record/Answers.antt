-- `recording::record` meets its contract: the bytes of a round's record are those of the events. Assumes nothing.
use mathlib.Core.Path.{ap, refl}
use mathlib.Core.Logic.{inl, inr}
use mathlib.Core.List.{flat_map}
use Rattle.session.specs.Types.{move_of, outcome_of}
use Rattle.session_logs.specs.SessionLogs.{bytes_in}
use Rattle.recording.specs.Recording.{logged}
use Rattle.recording.proofs.WrittenLaws.{one_played}
use Rattle.recording.proofs.record.Goals as goal

pub returns-in-Nothing : goal.returns-in-Nothing
unfolding logged flat_map
returns-in-Nothing c =
    elim c.in-Nothing.is [
      | inl e ↦ record { answer = rw e refl; written = rw e refl }
      | inr (f, e) ↦ record { answer = rw e refl; written = rw e refl }
    ]

pub returns-in-Played-clause-written : goal.returns-in-Played-clause-written
returns-in-Played-clause-written c =
    rw (c.in-Played.is, one_played (move_of c.in-Played.taken) (outcome_of c.in-Played.outcome)) (ap bytes_in c.of_round.ensures.answer)
