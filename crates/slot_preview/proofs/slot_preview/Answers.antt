-- `slot_preview::slot_preview` meets its contract: the answer of the round, and the session in the slot after it. Assumes nothing.
use mathlib.Core.Path.{◌∙◌, ap, refl}
use mathlib.Core.Option.{Option}
use Rattle.rounds.specs.Sessions.{Session}
use Rattle.slots.specs.RoundsAt.{SlotTurn}
use Rattle.previews.specs.Previews.{Preview, preview_slot, session_held}
use Rattle.slot_steps.specs.Types.{answer_of}
use Rattle.slot_preview.proofs.slot_preview.Goals as goal

shown : SlotTurn → Preview
shown t = record { answer = t.answer; session = session_held t.slot }

pub returns : goal.returns
unfolding preview_slot shown
returns c =
    let t = c.slot_round-turn in record {
      gives = (
        ap (λ (s : Option Session). record { answer = answer_of t.result.answer; session = s }) c.session_of.ensures ∙ ap shown t.ensures.0,
        t.ensures.1,
      );
      unchanged = refl;
    }
