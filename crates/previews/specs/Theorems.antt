-- The theorems of previews. Assumes nothing.
use Rattle.std.specs.Prelude.{◌≡◌, ◌≢◌, List, ◌<◌, ◌^◌, ℕ, take}
use Rattle.std.proofs.Math.Option.{none}
use Rattle.encoding.specs.LittleEndian.{Bytes}
use Rattle.lists.specs.Lists.{Every}
use Rattle.lists.specs.Runs.{last, reached}
use Rattle.rounds.specs.Moves.{Move}
use Rattle.slots.specs.Openings.{Reply}
use Rattle.slots.specs.RoundsAt.{refused_by, round_at}
use Rattle.slots.specs.Slots.{InTable, Slot, slot_at, slot_limit}
use Rattle.slots.specs.Theorems.{Fits, RoundAtNumbers}
use Rattle.operations.specs.Operations.{Answered, named, steps_of}
use Rattle.previews.specs.Acts.{Act, ActsMean, Between, acts_of, operations_in, slots_after, steps_in}
use Rattle.previews.specs.Examples.{Examples}
use Rattle.previews.specs.Meanings.{PreviewMeets, RoundAfter}
use Rattle.previews.specs.Previews.{preview_at, preview_slot}

pub record Theorems : Type 0 where
  -- ---- one preview

  pub preview : (bytes : List ℕ) → Bytes bytes → (xs : List Slot) (i : ℕ) (m : Move) → (InTable xs i → Fits (slot_at xs i) × (m.shows < 2 ^ 16))
      → PreviewMeets bytes xs i m (preview_at bytes xs i m)
  -- "refusals included": each number exactly when a round is refused with it
  pub numbers : (bytes : List ℕ) → Bytes bytes → (xs : List Slot) (i : ℕ) (m : Move)
      → RoundAtNumbers bytes xs i (record { answer = (preview_at bytes xs i m).answer; table = xs })
  -- "those of the same round": the round that is played afterwards
  pub round_after : (bytes : List ℕ) (xs : List Slot) (i : ℕ) (m : Move) → RoundAfter xs i (preview_at bytes xs i m) (round_at bytes xs i m)
  -- it is worked out from that slot alone, and not at all where there is none
  pub inside : (bytes : List ℕ) (xs : List Slot) (i : ℕ) (m : Move) → InTable xs i → preview_at bytes xs i m ≡ preview_slot bytes (slot_at xs i) m
  pub outside : (bytes : List ℕ) (xs : List Slot) (i : ℕ) (m : Move) → (InTable xs i → ⊥)
      → preview_at bytes xs i m ≡ record { answer = refused_by bytes 14; session = none }
  -- "Seats past the 64th are never read"
  pub unread : (bytes : List ℕ) (xs : List Slot) (i : ℕ) (m : Move) → preview_at bytes xs i m ≡ preview_at bytes (take slot_limit xs) i m
  -- ---- previews among openings and rounds

  pub acts : ActsMean
  -- with the previews taken out, these have the same answers, and leave the same slots, each of them and all together
  pub taken_out : (xs : List Slot) (acts : List Act) → steps_in (acts_of xs acts) ≡ steps_of xs (operations_in acts)
  pub left : (xs : List Slot) (acts : List Act) → slots_after xs acts ≡ reached (λ (g : Reply Answered). g.table) xs (last (steps_of xs (operations_in acts)))
  -- and no preview changes another
  pub between : (xs : List Slot) (before : List Act) (bytes : List ℕ) (i : ℕ) (m : Move) (after : List Act) → Between xs before bytes i m after
  -- what is shown of a slot stays so, whatever happens at others, until there is an opening or a round there
  pub stays : (bytes : List ℕ) (xs : List Slot) (i : ℕ) (m : Move) (acts : List Act) → Every (λ x. named x ≢ i) (operations_in acts)
      → preview_at bytes (slots_after xs acts) i m ≡ preview_at bytes xs i m
  pub examples : Examples
