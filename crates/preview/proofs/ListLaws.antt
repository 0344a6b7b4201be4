-- What a preview at one slot comes to over the list. Assumes nothing.
use mathlib.Core.Path.{◌∙◌, ◌≡◌, ap, subst, sym}
use mathlib.Core.List.{List}
use Prim.Native.Nat.{◌<◌, ◌^◌, ◌≤◌, ℕ}
use lib.ListN.{get_or, length}
use Rattle.encoding.specs.LittleEndian.{Bytes}
use Rattle.rounds.specs.Moves.{Move}
use Rattle.slots.specs.Slots as S
use Rattle.slots.specs.Slots.{InTable, slot_at}
use Rattle.slots.specs.Theorems.{Fits}
use Rattle.slots.proofs.FreeLaws.{decides_in_table}
use Rattle.previews.specs.Meanings.{PreviewMeets}
use Rattle.previews.specs.Previews.{Preview, preview_at, preview_slot}
use Rattle.previews.proofs.PreviewLaws.{inside, outside, past_preview, preview_meets}
use Rattle.slot_steps.specs.Types.{Typed, slot_of}
use Rattle.slot_steps.specs.declared.Slot.{Slot}
use Rattle.occupancy.specs.Types.{empty_slot, slots_in, table_of}
use Rattle.occupancy.proofs.ListLaws.{at_slot, beyond, inside_true}

module _ (bytes : List ℕ) (ys : List Slot) (i : ℕ) (m : Move) where
  -- the preview is the definitions', and has its meaning
  abbrev pub Shown : Preview → Type 0
  Shown v = (v ≡ preview_at bytes (table_of ys) i m) × PreviewMeets bytes (table_of ys) i m v

  shown : (v : Preview) → v ≡ preview_at bytes (table_of ys) i m → Bytes bytes → (InTable (table_of ys) i → Fits (slot_at (table_of ys) i) × (m.shows < 2 ^ 16))
      → Shown v
  shown v e b f = (e, subst (PreviewMeets bytes (table_of ys) i m) (sym e) (preview_meets bytes b (table_of ys) i m f))

  pub preview_inside : (v : Preview) → i < slots_in (length ys)
      → (v ≡ preview_slot bytes (slot_of (get_or ys i empty_slot)) m) × Typed bytes (slot_of (get_or ys i empty_slot)) m → Shown v
  preview_inside v l (e, t) = shown v is t.policy (λ h. (subst Fits (sym (at_slot ys i)) t.slot, t.shows))
    where
      is : v ≡ preview_at bytes (table_of ys) i m
      is = e ∙ ap (λ (x : S.Slot). preview_slot bytes x m) (sym (at_slot ys i))
          ∙ sym (inside bytes i m (table_of ys) ((decides_in_table (table_of ys) i).0 (inside_true ys i l)))

  pub preview_beyond : (v : Preview) → slots_in (length ys) ≤ i → (v ≡ past_preview bytes) × Bytes bytes → Shown v
  preview_beyond v l (e, b) = shown v (e ∙ sym (outside bytes i m (table_of ys) (beyond ys i l))) b (λ h. absurd (beyond ys i l h))
