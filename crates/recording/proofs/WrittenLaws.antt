-- What is written of an event. Assumes nothing.
use mathlib.Core.Path.{◌≡◌}
use mathlib.Core.List.{[], ◌∷◌, append-nil, flat_map}
use Rattle.rounds.specs.Moves.{Move}
use Rattle.rounds.specs.Refusals.{Refusal}
use Rattle.rounds.specs.Rounds.{Outcome}
use Rattle.transcript.specs.Events.{played, unopened}
use Rattle.transcript.specs.Lines.{refused_line}
use Rattle.session_logs.specs.RoundRecords.{round_record}
use Rattle.session_logs.specs.SessionLogs.{bytes_in}
use Rattle.recording.specs.Recording.{logged, noticed}

pub one_played : (m : Move) (o : Outcome) → logged (played m o ∷ []) ≡ bytes_in (round_record m o)
unfolding logged flat_map
one_played m o = append-nil (bytes_in (round_record m o))

pub one_noticed : (f : Refusal) → noticed (unopened f ∷ []) ≡ refused_line f
unfolding noticed flat_map
one_noticed f = append-nil (refused_line f)
