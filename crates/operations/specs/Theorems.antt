-- The theorems of lists of operations. Assumes nothing.
use Rattle.std.specs.Prelude.{◌≡◌, ◌≢◌, List, ◌++◌, map, ◌≤◌, ℕ, drop, take}
use Rattle.lists.specs.Lists.{Every}
use Rattle.demands.specs.Promises.{SoundAndFits}
use Rattle.slots.specs.Slots.{Owns, Slot, held, slot_at, slot_limit, vacant}
use Rattle.operations.specs.AtSlot.{RoundsAtMean, SlotsMeetDemand3}
use Rattle.operations.specs.Examples.{Examples}
use Rattle.operations.specs.Operations.{AllEmpty, Fitting, Operation, Step, named, operate, steps_of}

-- "No owner has more than four unfinished sessions", in the whole list
abbrev pub AtMostFour : List Slot → Type 0
AtMostFour xs = (o n many : ℕ) → Owns o xs n many → many ≤ 4

-- the session that a slot holds, if it holds one, is sound
abbrev pub SoundSlot : Slot → Type 0
SoundSlot vacant = Unit {0}
SoundSlot (held o s) = SoundAndFits s

pub record Theorems : Type 0 where
  -- "No owner has more than four unfinished sessions, over any list of openings and rounds from an all-empty list."
  pub four : (xs : List Slot) → AllEmpty xs → (ops : List Operation) → Every (λ t. AtMostFour t.gives.table) (steps_of xs ops)
  -- and every session that is held is sound
  pub sound : (xs : List Slot) → AllEmpty xs → (ops : List Operation) → Every Fitting ops → Every (λ t. Every SoundSlot t.gives.table) (steps_of xs ops)
  -- "Seats past the 64th are never read": a list is answered as its first 64 slots are, and the others come back as they were
  pub unread : (xs : List Slot) (x : Operation) → (operate xs x).answer ≡ (operate (take slot_limit xs) x).answer
  pub left : (xs : List Slot) (x : Operation) → (operate xs x).table ≡ (operate (take slot_limit xs) x).table ++ drop slot_limit xs
  -- so that lists which differ there alone get the same answers
  pub alike : (xs ys : List Slot) → take slot_limit xs ≡ take slot_limit ys → (ops : List Operation)
      → map (λ (t : Step). t.gives.answer) (steps_of xs ops) ≡ map (λ (t : Step). t.gives.answer) (steps_of ys ops)
  -- "and touches nothing else": no list of openings and rounds at other slots changes a slot
  pub apart : (xs : List Slot) (k : ℕ) (ops : List Operation) → Every (λ x. named x ≢ k) ops
      → Every (λ t. slot_at t.gives.table k ≡ slot_at xs k) (steps_of xs ops)
  -- "the client's bounds hold for the rounds at one seat from an opening there that was not refused to the next such"
  pub demand3 : SlotsMeetDemand3
  pub rounds_at_lem : RoundsAtMean
  -- all of it can be met, and four is reached
  pub examples : Examples
