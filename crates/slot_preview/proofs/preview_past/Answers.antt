-- `slot_preview::preview_past` meets its contract. Assumes nothing.
use mathlib.Core.Path.{ap, refl}
use mathlib.Core.Option.{none}
use Rattle.rounds.specs.Rounds.{Answer}
use Rattle.slot_preview.proofs.preview_past.Goals as goal

pub returns : goal.returns
returns c =
    record {
      gives = (ap (λ (a : Answer). record { answer = a; session = none }) c.round_past.ensures.0, c.round_past.ensures.1);
      unchanged = refl;
    }
