-- The theorems of specs/Theorems. Assumes nothing.
use mathlib.Core.Path.{◌∙◌, ◌≡◌, refl}
use mathlib.Core.List.{List, ◌++◌}
use mathlib.Core.Option.{Option, none, some}
use Prim.Native.Nat.{◌%◌, ◌<◌, ℕ}
use lib.ListN.{length, replicate}
use native.Mathlib.Omega.{arith}
use Rattle.encoding.specs.LittleEndian.{Bytes}
use Rattle.rounds.specs.Moves.{showing}
use Rattle.rounds.specs.Refusals.{Refusal, number, of_policy}
use Rattle.slots.specs.Openings.{open_at}
use Rattle.slots.specs.RoundsAt.{round_at}
use Rattle.slots.specs.Slots.{Slot, held, vacant}
use Rattle.operations.specs.Operations.{Operation, operate, opens, plays}
use Rattle.packing.specs.Theorems.{reply_for}
use Rattle.packing.proofs.RecordLaws.{packed_fits}
use Rattle.packing.proofs.ReplyLaws.{replied}
use Rattle.slot_packing.specs.Calls.{open_at_call, opening_reply, round_at_call}
use Rattle.slot_packing.specs.PackedSlots.{packed_slot, packed_table}
use Rattle.slot_packing.specs.TableCalls.{operation_call}
use Rattle.slot_packing.specs.Theorems.{PackableSlot, Theorems, call_for, open_reply_for}
use Rattle.slot_packing.proofs.CallLaws as calls
use Rattle.slot_packing.proofs.KeepLaws as kept
use Rattle.slot_packing.proofs.ListLaws as lists
use Rattle.slot_packing.proofs.PreviewLaws as previews
use Rattle.slot_packing.proofs.ReadLaws as read
use Rattle.slot_packing.proofs.SlotLaws.{stands_slot, twelve}
use Rattle.slot_packing.proofs.UnreadLaws as unread

fits : (x : Slot) → PackableSlot x → Bytes (packed_slot x) × (length (packed_slot x) ≡ 12)
unfolding packed_slot
fits vacant h =
    let z : 0 < 256 = omega arith in ((z, (z, (z, (z, (z, (z, (z, (z, (z, (z, (z, (z, tt)))))))))))), refl)
fits (held o s) h = ((h.0, (omega arith, (packed_fits s h.1).0)), twelve (held o s))

told : (u : Option Refusal) → opening_reply u ≡ open_reply_for u
told none = refl
told (some (of_policy f)) = refl
told (some (number n)) = refl

module _ (xs : List Slot) (rest : List ℕ) (few : length rest < 12) where
  opening : (i o r : ℕ) → open_at_call (packed_table xs ++ rest) i o r
      ≡ record { reply = open_reply_for (open_at xs i o r).answer; leaves = packed_table (open_at xs i o r).table ++ rest }
  opening i o r = calls.opening_at_lem xs rest few i o r ∙ rw (told (open_at xs i o r).answer)

  round : (policy : List ℕ) (i p : ℕ) → round_at_call policy (packed_table xs ++ rest) i p
      ≡ record { reply = reply_for (round_at policy xs i (showing p)).answer; leaves = packed_table (round_at policy xs i (showing p)).table ++ rest }
  round policy i p = calls.round_at_lem xs rest few policy i p ∙ rw (replied (round_at policy xs i (showing p)).answer)

  same : (x : Operation) → operation_call (packed_table xs ++ rest) x ≡ call_for rest (operate xs x)
  same (opens i o r) = opening i o r
  same (plays policy i m) = round policy i m.shows

pub theorems : Theorems
unfolding packed_slot packed_table
theorems = record {
  stands = λ bytes b x. stands_slot x bytes b;
  fits = fits;
  empty_bytes = refl;
  held_bytes = λ o s. refl;
  no_bytes = refl;
  table_bytes = λ x xs. refl;
  opening = opening;
  round = λ policy xs rest few i p. round xs rest few policy i p;
  read = read.read;
  opening_read = λ bytes b xs reads i o r there. read.opening_read bytes b xs reads i o r there ∙ told (open_at xs i o r).answer;
  opening_written = λ bytes b xs reads. read.opening_written bytes b xs reads;
  round_read = λ policy bytes b xs reads i p. read.round_read bytes b xs reads policy i p ∙ replied (round_at policy xs i (showing p)).answer;
  round_written = λ policy bytes b xs reads. read.round_written bytes b xs reads policy;
  unserved = read.unserved;
  no_slot_opening = λ bytes b i o r there n v. read.no_slot_opening bytes b i there n o r v;
  no_slot_round = λ policy c w bytes b i p there n. read.no_slot_round bytes b i there n policy c w p;
  opening_left = kept.opening_left;
  round_left = λ policy bytes i p. kept.round_left bytes i policy p;
  opening_others = kept.opening_others;
  round_others = λ policy bytes i p. kept.round_others bytes i policy p;
  opening_unread = unread.opening_unread;
  round_unread = unread.round_unread;
  preview = λ policy xs rest few. previews.preview_at_lem xs rest few policy;
  preview_read = λ policy bytes b xs reads. previews.preview_read bytes b xs reads policy;
  no_slot_preview = λ policy bytes b. previews.no_slot_preview bytes b policy;
  preview_then_round = previews.then_round;
  preview_then_slot = previews.then_slot;
  preview_unread = λ policy bytes i p. previews.preview_unread policy i p bytes;
  calls = λ xs rest few. lists.calls rest (λ ys. same ys rest few) xs;
  four = λ n. lists.four n (λ ys. same ys (replicate (n % 12) 0) (lists.few n));
}
