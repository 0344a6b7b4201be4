-- `preview::preview_at` meets its contract: inside, the slot's own preview; past the slots that can be named, the refusal alone. Assumes nothing.
use Rattle.std.proofs.Common.{◌<◌, ◌≤◌, refl, subst, ℕ}
use Rattle.session.specs.Types.{move_of}
use Rattle.slot_preview.specs.Types.{preview_of}
use Rattle.preview.proofs.ListLaws.{preview_beyond, preview_inside}
use Rattle.preview.proofs.preview_at.Goals as goal

pub returns-then-slot-end : goal.returns-then-slot-end
returns-then-slot-end c =
    let a = c.args in
    let met =
    preview_inside a.policy.now a.slots.now a.slot (move_of a.taken) (preview_of c.slot_preview.result)
    (subst (λ (n : ℕ). a.slot < n) c.slots_in-end.ensures c.if-slot-end.true) c.slot_preview.ensures.gives in
    record { answer = met.0; meaning = met.1; left = refl; unchanged = refl }

pub returns-else-slot-end : goal.returns-else-slot-end
returns-else-slot-end c =
    let a = c.args in
    let met =
    preview_beyond a.policy.now a.slots.now a.slot (move_of a.taken) (preview_of c.preview_past.result)
    (subst (λ (n : ℕ). n ≤ a.slot) c.slots_in-end.ensures c.if-slot-end.false) c.preview_past.ensures.gives in
    record { answer = met.0; meaning = met.1; left = refl; unchanged = refl }
