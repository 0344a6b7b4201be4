-- What the program's answer to a whole list means. Assumes nothing.
use Rattle.session.specs.Types.{outcome_of, refusal_of, session_of}
use Rattle.replay.specs.Replay as R
use Rattle.replay.specs.declared.Replayed.{Replayed}
use Rattle.replay.specs.declared.Replayed.TheVariants.{Played, Unopened, Unplayed}

abbrev pub replayed_of : Replayed → R.Replayed
replayed_of (Unopened f) = R.unopened (refusal_of f)
replayed_of (Unplayed s) = R.unplayed (session_of s)
replayed_of (Played o) = R.played (outcome_of o)
