-- What the answer to a whole list means is one-to-one: the map has a way back. Assumes nothing.
use mathlib.Core.Path.{◌≡◌, ap}
use Rattle.atoms.proofs.MapLaws.{one_to_one}
use Rattle.session.proofs.TypeLaws.{outcome_back_lem, outcome_back, refusal_back_lem, refusal_back, session_back_lem, session_back}
use Rattle.replay.specs.Replay as R
use Rattle.replay.specs.Types.{replayed_of}
use Rattle.replay.specs.declared.Replayed.{Replayed}
use Rattle.replay.specs.declared.Replayed.TheVariants.{Played, Unopened, Unplayed}

replayed_back : R.Replayed → Replayed
replayed_back (R.unopened f) = Unopened (refusal_back f)
replayed_back (R.unplayed s) = Unplayed (session_back s)
replayed_back (R.played o) = Played (outcome_back o)

replayed_back_lem : (x : Replayed) → replayed_back (replayed_of x) ≡ x
unfolding replayed_back
replayed_back_lem (Unopened f) = ap Unopened (refusal_back_lem f)
replayed_back_lem (Unplayed s) = ap Unplayed (session_back_lem s)
replayed_back_lem (Played o) = ap Played (outcome_back_lem o)

pub replayed_one : (x y : Replayed) → replayed_of x ≡ replayed_of y → x ≡ y
replayed_one = one_to_one replayed_of replayed_back replayed_back_lem
