use mathlib.Core.Path.{◌∙◌, ap, refl, sym}
use Rattle.slots.specs.RoundsAt.{SlotTurn}
use Rattle.slot_steps.specs.Types.{answer_of}
use Rattle.slot_packing.proofs.PreviewLaws.{round_by_turn}
use Rattle.table_wire.proofs.CallLaws.{turn_room}
use Rattle.table_wire.proofs.round_at.Goals as goal

pub put-requires : goal.put-requires
put-requires c =
    let a = c.args in
    let ended = sym (ap (λ (t : SlotTurn). t.answer) c.turn_at-turn.ensures) ∙ ap answer_of c.in-Ok.is in
    turn_room a.table.now a.slot a.policy.now a.shown _ ended

pub returns-in-Ok : goal.returns-in-Ok
returns-in-Ok c =
    let a = c.args in
    let called = round_by_turn a.policy.now a.table.now a.slot a.shown in
    record {
      answer = rw (called, ← c.turn_at-turn.ensures, c.in-Ok.is) c.of_ending.ensures;
      written = rw (called, ← c.turn_at-turn.ensures, c.in-Ok.is) c.put.ensures;
      unchanged = refl;
    }

pub returns-in-Err : goal.returns-in-Err
returns-in-Err c =
    let a = c.args in
    let called = round_by_turn a.policy.now a.table.now a.slot a.shown in
    record {
      answer = rw (called, ← c.turn_at-turn.ensures, c.in-Err.is) c.of_refusal.ensures;
      written = rw (called, ← c.turn_at-turn.ensures, c.in-Err.is) refl;
      unchanged = refl;
    }
