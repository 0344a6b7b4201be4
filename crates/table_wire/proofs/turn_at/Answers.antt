use mathlib.Core.Path.{◌∙◌, ◌≡◌, ap, refl, sym}
use Prim.Native.Nat.{◌/◌, ◌<◌, ◌≤◌, min}
use lib.ListN.{length}
use native.Mathlib.Omega.{arith}
use Rattle.rounds.specs.Rounds.{Answer}
use Rattle.slots.specs.Slots.{vacant}
use Rattle.std.specs.Prelude.{None, Some, unwrap_or}
use Rattle.std.specs.Prelude as P
use Rattle.slot_steps.specs.Types.{slot_of}
use Rattle.slot_steps.specs.declared.Slot.{Slot}
use Rattle.table_wire.specs.Types.{found_of, or_empty}
use Rattle.table_wire.proofs.CallLaws.{turn_past, turn_slot}
use Rattle.table_wire.proofs.turn_at.Goals as goal

kept : (o : P.Option Slot) → slot_of (unwrap_or o (record { holding = None })) ≡ or_empty (found_of o)
kept None = refl
kept (Some x) = refl

pub returns-then-slot-reach : goal.returns-then-slot-reach
returns-then-slot-reach c =
    let a = c.args in
    let l : min (length a.table.now / 12) 64 ≤ a.slot = omega (arith, c.reach.ensures, c.if-slot-reach.true) in
    ap (λ (x : Answer). record { answer = x; slot = vacant }) c.round_past.ensures.0 ∙ sym (turn_past a.table.now a.slot a.policy.now a.shown l)

pub returns : goal.returns
returns c =
    let a = c.args in
    let l : a.slot < min (length a.table.now / 12) 64 = omega (arith, c.reach.ensures, c.if-slot-reach.false) in
    let found = ap slot_of c.unwrap_or-held.ensures ∙ kept c.slot_at.result ∙ ap or_empty c.slot_at.ensures in
    c.slot_round.ensures.0 ∙ sym (turn_slot a.table.now a.slot a.policy.now a.shown l _ found)
