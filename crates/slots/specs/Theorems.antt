-- The theorems of slots, of one opening and one round. Lists of them are in crate `operations`. Assumes nothing.
use Rattle.std.specs.Prelude.{◌≡◌, ◌↔◌, ◌⊎◌, true, List, ◌<◌, ◌^◌, ◌≤◌, ℕ, length}
use Rattle.std.proofs.Math.Option.{Option, none, some}
use Rattle.encoding.specs.LittleEndian.{Bytes}
use Rattle.form.specs.WrittenForm as W
use Rattle.form.specs.WrittenForm.{PolicyRefused, WellFormed}
use Rattle.rounds.specs.Endings.{Ending}
use Rattle.rounds.specs.Moves.{Move}
use Rattle.rounds.specs.Refusals.{Refusal, number, of_policy}
use Rattle.rounds.specs.Rounds.{Answer, ends, refused}
use Rattle.rounds.specs.Sessions.{Finished, Service, Session, SixteenBit, SoundSession}
use Rattle.slots.specs.Meanings.{OpeningAtMeets, RoundAtMeets}
use Rattle.slots.specs.Openings.{Reply, open_at}
use Rattle.slots.specs.RoundsAt.{round_at}
use Rattle.slots.specs.Slots.{Free, HoldsUnfinished, InTable, Owns, Slot, UnfinishedOf, held, is_free, slot_at, unfinished, vacant}

-- the sets of a slot's session, if there is one, are sets of credentials
abbrev pub Fits : Slot → Type 0
Fits vacant = Unit {0}
Fits (held o s) = SixteenBit s

-- When an opening at slot i, for the owner o and the request r, is answered how.
pub record OpeningNumbers (xs : List Slot) (i o r : ℕ) (g : Reply (Option Refusal)) : Type 0 where
  -- "7: request outside 16 to 62, at opening or in a round."
  pub request : (g.answer ≡ some (number 7)) ↔ (Service r → ⊥)
  -- "14, the seat's number, from 0, is past the list's end or above 63"
  pub no_slot : (g.answer ≡ some (number 14)) ↔ (Service r × ((length xs ≤ i) ⊎ (63 < i)))
  -- "15, seat holds an unfinished session (fresh or waiting)"
  pub unfinished_one : (g.answer ≡ some (number 15)) ↔ (Service r × (InTable xs i × HoldsUnfinished (slot_at xs i)))
  -- "16, owner has four or more"
  pub full : (g.answer ≡ some (number 16)) ↔ (Service r × (InTable xs i × (Free (slot_at xs i) × Owns o xs 64 4)))
  pub accepted : (g.answer ≡ none) ↔ (Service r × (InTable xs i × (Free (slot_at xs i) × (Owns o xs 64 4 → ⊥))))
  -- there are no others, and no record number
  pub only : (f : Refusal) → g.answer ≡ some f → ((f ≡ number 7) ⊎ (f ≡ number 14)) ⊎ ((f ≡ number 15) ⊎ (f ≡ number 16))

-- When a round at slot i is answered how.
pub record RoundAtNumbers (bytes : List ℕ) (xs : List Slot) (i : ℕ) (g : Reply Answer) : Type 0 where
  -- "a round tests the policy"
  pub policy : (f : W.Refusal) → (g.answer ≡ refused (of_policy f)) ↔ PolicyRefused bytes f
  -- "14, the seat's number, from 0, is past the list's end or above 63"
  pub no_slot : (g.answer ≡ refused (number 14)) ↔ (WellFormed bytes × ((length xs ≤ i) ⊎ (63 < i)))
  -- "then an empty seat as 8"
  pub empty : InTable xs i → slot_at xs i ≡ vacant → (g.answer ≡ refused (number 8)) ↔ WellFormed bytes
  -- "then the session as before"
  pub request : (o : ℕ) (s : Session) → InTable xs i → slot_at xs i ≡ held o s
      → (g.answer ≡ refused (number 7)) ↔ (WellFormed bytes × (Service s.request → ⊥))
  pub unsound : (o : ℕ) (s : Session) → InTable xs i → slot_at xs i ≡ held o s
      → (g.answer ≡ refused (number 8)) ↔ (WellFormed bytes × (Service s.request × (SoundSession s → ⊥)))
  pub finished : (o : ℕ) (s : Session) → InTable xs i → slot_at xs i ≡ held o s
      → (g.answer ≡ refused (number 9)) ↔ (WellFormed bytes × (SoundSession s × Finished s))
  pub accepted : ((e : Ending) × (g.answer ≡ ends e))
      ↔ (WellFormed bytes × (InTable xs i × ((o : ℕ) × ((s : Session) × ((slot_at xs i ≡ held o s) × (SoundSession s × (Finished s → ⊥)))))))
  -- 15 and 16 are never given
  pub only : (n : ℕ) → g.answer ≡ refused (number n) → ((7 ≤ n) × (n ≤ 9)) ⊎ (n ≡ 14)

pub record Theorems : Type 0 where
  pub opening : (xs : List Slot) (i o r : ℕ) → OpeningAtMeets xs i o r (open_at xs i o r)
  pub opening_numbers : (xs : List Slot) (i o r : ℕ) → OpeningNumbers xs i o r (open_at xs i o r)
  pub round : (bytes : List ℕ) → Bytes bytes → (xs : List Slot) (i : ℕ) (m : Move) → (InTable xs i → Fits (slot_at xs i) × (m.shows < 2 ^ 16))
      → RoundAtMeets bytes xs i m (round_at bytes xs i m)
  pub round_numbers : (bytes : List ℕ) → Bytes bytes → (xs : List Slot) (i : ℕ) (m : Move) → RoundAtNumbers bytes xs i (round_at bytes xs i m)
  -- the count is that of the slots which hold one of the owner's
  pub counted : (o : ℕ) (xs : List Slot) (n many : ℕ) → (many ≤ unfinished o xs n) ↔ Owns o xs n many
  -- "an empty seat or one whose session is closed" is one that holds no unfinished session
  pub free : (x : Slot) → (is_free x ≡ true) ↔ Free x
  pub not_free : (x : Slot) → HoldsUnfinished x ↔ (Free x → ⊥)
  -- "whose session is closed": by the phase alone, whoever owns it
  pub taken_from : (x : Slot) → Free x ↔ ((x ≡ vacant) ⊎ ((o : ℕ) × ((s : Session) × ((x ≡ held o s) × Finished s))))
  -- what counts for an owner is a session that is not closed, sound or not
  pub counts_for : (o : ℕ) (x : Slot) → UnfinishedOf o x ↔ ((s : Session) × ((x ≡ held o s) × (Finished s → ⊥)))
