-- Document 02, R-5: what an opening and a round at a slot promise, whatever the list holds. Assumes nothing.
use Rattle.std.specs.Prelude.{◌≡◌, ◌↔◌, ◌≢◌, List, ℕ, length, set}
use Rattle.std.proofs.Math.Option.{Option, none, some}
use Rattle.validation.specs.Statements.{AllHold, FirstBroken}
use Rattle.validation.specs.Tests.{relabelled}
use Rattle.rounds.specs.Endings.{Ending}
use Rattle.rounds.specs.Moves.{Move}
use Rattle.rounds.specs.Refusals.{Refusal, number}
use Rattle.rounds.specs.Rounds.{Answer, ends, refused}
use Rattle.rounds.specs.Sessions.{Session}
use Rattle.demands.specs.Promises.{FreshFor, RoundMeets}
use Rattle.slots.specs.Openings.{Reply}
use Rattle.slots.specs.SlotForm.{OpeningForm, RoundAtForm}
use Rattle.slots.specs.Slots.{InTable, Slot, held, slot_at}

-- g is what an opening at slot i for the owner o and the request r gives
pub record OpeningAtMeets (xs : List Slot) (i o r : ℕ) (g : Reply (Option Refusal)) : Type 0 where
  -- it is not refused exactly where all that it is held to holds
  pub accepts : (g.answer ≡ none) ↔ AllHold (OpeningForm xs i o r)
  -- and else refused with the number beside the first that does not
  pub refuses : (f : Refusal) → (g.answer ≡ some f) ↔ FirstBroken (relabelled number (OpeningForm xs i o r)) f
  -- "a refusal leaves the list"
  pub unchanged : (f : Refusal) → g.answer ≡ some f → g.table ≡ xs
  -- else that slot alone is set, to the owner and a fresh session
  pub taken : g.answer ≡ none → (s : Session) × (FreshFor r s × (g.table ≡ set xs i (held o s)))

-- g is what a round at slot i gives
pub record RoundAtMeets (bytes : List ℕ) (xs : List Slot) (i : ℕ) (m : Move) (g : Reply Answer) : Type 0 where
  -- demand 1, with 14 and the empty slot
  pub accepts : ((e : Ending) × (g.answer ≡ ends e)) ↔ AllHold (RoundAtForm bytes xs i m)
  pub refuses : (f : Refusal) → (g.answer ≡ refused f) ↔ FirstBroken (RoundAtForm bytes xs i m) f
  -- "a refusal leaves the list"
  pub unchanged : (f : Refusal) → g.answer ≡ refused f → g.table ≡ xs
  -- "A round is that of the seat's session": all that a round promises, of the session that the slot held and the one that it holds now
  pub round : (o : ℕ) (s : Session) → InTable xs i → slot_at xs i ≡ held o s
      → (t : Session) × (RoundMeets bytes s m (record { answer = g.answer; session = t }) × (g.table ≡ set xs i (held o t)))
  -- "and touches nothing else"
  pub others : (k : ℕ) → k ≢ i → slot_at g.table k ≡ slot_at xs k
  pub as_long : length g.table ≡ length xs
