-- `table::open_at` meets its contract: inside, the slot's own opening is put back; past the slots that can be named, the list is left. Assumes nothing.
use Rattle.std.proofs.Common.{◌∙◌, ◌<◌, ◌≤◌, ap, get_or, subst, ℕ}
use mathlib.Core.Option.{none}
use Rattle.std.proofs.lemmas.Result.{err_from_is_err_and}
use Rattle.slot_steps.specs.Steps.{open_slot}
use Rattle.slot_steps.specs.Types.{opens_of, refusal_of, slot_of}
use Rattle.occupancy.specs.Types.{empty_slot}
use Rattle.table.proofs.ListLaws.{counted, open_beyond, open_inside, open_refused}
use Rattle.table.proofs.open_at.Goals as goal

pub returns-in_err-slots : goal.returns-in_err-slots
returns-in_err-slots c =
    let a = c.args in
    let ys = a.slots.now in
    let p = err_from_is_err_and c.from_residual.result c.from_residual.ensures.1 in
    let met =
    open_refused ys a.slot a.owner a.request (refusal_of c.in_err-slots.field-0.0)
    (subst (λ (n : ℕ). a.slot < n) c.slots_in-reach.ensures c.if-slot-reach.true)
    (c.in_err-slots.ensures
    ∙ ap (λ (k : ℕ). open_slot (slot_of (get_or ys a.slot empty_slot)) k a.owner a.request)
    (counted ys a.owner c.slots_in-reach.result c.owned-count.result c.slots_in-reach.ensures c.owned-count.ensures)) in
    rw (p.1, p.2) (record { answer = met.0; table = met.1.0; meaning = met.1.1 })

pub returns-in_ok-slots : goal.returns-in_ok-slots
returns-in_ok-slots c =
    let a = c.args in
    let ys = a.slots.now in
    let met =
    open_inside ys a.slot a.owner a.request none c.in_ok-slots.field-0
    (subst (λ (n : ℕ). a.slot < n) c.slots_in-reach.ensures c.if-slot-reach.true)
    (c.in_ok-slots.ensures
    ∙ ap (λ (k : ℕ). open_slot (slot_of (get_or ys a.slot empty_slot)) k a.owner a.request)
    (counted ys a.owner c.slots_in-reach.result c.owned-count.result c.slots_in-reach.ensures c.owned-count.ensures)) in
    record { answer = met.0; table = met.1.0; meaning = met.1.1 }

pub returns-else-slot-reach : goal.returns-else-slot-reach
returns-else-slot-reach c =
    let a = c.args in
    let met =
    open_beyond a.slots.now a.slot a.owner a.request (opens_of c.open_past.result)
    (subst (λ (n : ℕ). n ≤ a.slot) c.slots_in-reach.ensures c.if-slot-reach.false) c.open_past.ensures in
    record { answer = met.0; table = met.1.0; meaning = met.1.1 }
