use mathlib.Core.Path.{◌∙◌, ap, refl, sym}
use Prim.Native.Nat.{◌/◌, ◌<◌, ◌≤◌, min}
use lib.ListN.{length}
use native.Mathlib.Omega.{arith}
use Rattle.slot_packing.specs.Calls.{opening_reply}
use Rattle.table_wire.proofs.CallLaws.{open_nothing, open_past, opened_at}
use Rattle.table_wire.proofs.open_at.Goals as goal

pub returns-then-slot-slots : goal.returns-then-slot-slots
returns-then-slot-slots c =
    let a = c.args in
    let l : min (length a.table.now / 12) 64 ≤ a.slot = omega (arith, c.reach-slots.ensures, c.if-slot-slots.true) in
    let called = open_past a.table.now a.slot a.owner a.request l in
    record { answer = rw called (c.of_opens.ensures ∙ ap opening_reply c.open_past.ensures); written = rw called refl }

pub returns-in_default : goal.returns-in_default
returns-in_default c =
    let a = c.args in
    let l : a.slot < min (length a.table.now / 12) 64 = omega (arith, c.reach-slots.ensures, c.if-slot-slots.false) in
    let called = open_nothing a.table.now a.slot a.owner a.request l (sym c.in_default.ensures) in
    record { answer = rw called c.no_slot.ensures; written = rw called refl }

pub returns-in-Ok : goal.returns-in-Ok
returns-in-Ok c =
    let a = c.args in
    let l : a.slot < min (length a.table.now / 12) 64 = omega (arith, c.reach-slots.ensures, c.if-slot-slots.false) in
    let called =
    opened_at a.table.now a.slot a.owner a.request l _ (sym c.in-Some.ensures) _ _ c.reach-slots.ensures c.owned.ensures _ c.in-Ok.ensures
    in
    record { answer = rw called refl; written = rw called c.put.ensures }

pub returns-in-Err : goal.returns-in-Err
returns-in-Err c =
    let a = c.args in
    let l : a.slot < min (length a.table.now / 12) 64 = omega (arith, c.reach-slots.ensures, c.if-slot-slots.false) in
    let called =
    opened_at a.table.now a.slot a.owner a.request l _ (sym c.in-Some.ensures) _ _ c.reach-slots.ensures c.owned.ensures _ c.in-Err.ensures
    in
    record { answer = rw called c.of_refusal.ensures; written = rw called refl }
