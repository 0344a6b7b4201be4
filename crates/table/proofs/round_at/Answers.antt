-- `table::round_at` meets its contract: inside, the slot's own round is put back; past the slots that can be named, the list is left. Assumes nothing.
use Rattle.std.proofs.Common.{◌<◌, ◌≤◌, refl, subst, ℕ}
use Rattle.session.specs.Types.{move_of}
use Rattle.slot_steps.specs.Types.{answer_of}
use Rattle.table.proofs.ListLaws.{round_beyond, round_inside}
use Rattle.table.proofs.round_at.Goals as goal

pub returns-then-slot-end : goal.returns-then-slot-end
returns-then-slot-end c =
    let a = c.args in
    let r = c.slot_round-turn.result in
    let met =
    round_inside a.policy.now a.slots.now a.slot (move_of a.taken) (answer_of r.answer) r.slot
    (subst (λ (n : ℕ). a.slot < n) c.slots_in-end.ensures c.if-slot-end.true) c.slot_round-turn.ensures in
    record { answer = met.0; table = met.1.0; meaning = met.1.1; unchanged = refl }

pub returns-else-slot-end : goal.returns-else-slot-end
returns-else-slot-end c =
    let a = c.args in
    let met =
    round_beyond a.policy.now a.slots.now a.slot (move_of a.taken) (answer_of c.round_past.result)
    (subst (λ (n : ℕ). n ≤ a.slot) c.slots_in-end.ensures c.if-slot-end.false) c.round_past.ensures in
    record { answer = met.0; table = met.1.0; meaning = met.1.1; unchanged = refl }
