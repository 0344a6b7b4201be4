-- Document 02, R-6: what a preview promises, whatever the list holds. Assumes nothing.
use Rattle.std.specs.Prelude.{◌≡◌, ◌↔◌, ◌⊎◌, List, ℕ}
use Rattle.std.proofs.Math.Option.{none, some}
use Rattle.validation.specs.Statements.{AllHold, FirstBroken}
use Rattle.rounds.specs.Endings.{Ending}
use Rattle.rounds.specs.Moves.{Move}
use Rattle.rounds.specs.Refusals.{Refusal}
use Rattle.rounds.specs.Rounds.{Answer, ends, refused}
use Rattle.rounds.specs.Sessions.{Session}
use Rattle.demands.specs.Promises.{RoundMeets}
use Rattle.slots.specs.Openings.{Reply}
use Rattle.slots.specs.SlotForm.{RoundAtForm}
use Rattle.slots.specs.Slots.{InTable, Slot, held, slot_at, vacant}
use Rattle.previews.specs.Previews.{Preview}

-- v is what a preview of a round at slot i gives
pub record PreviewMeets (bytes : List ℕ) (xs : List Slot) (i : ℕ) (m : Move) (v : Preview) : Type 0 where
  -- it is held to what a round is held to, in the same order: "refusals included"
  pub accepts : ((e : Ending) × (v.answer ≡ ends e)) ↔ AllHold (RoundAtForm bytes xs i m)
  pub refuses : (f : Refusal) → (v.answer ≡ refused f) ↔ FirstBroken (RoundAtForm bytes xs i m) f
  -- "where the seat is empty or one that 14 refuses, no session is given", and there alone
  pub nothing : (v.session ≡ none) ↔ ((InTable xs i → ⊥) ⊎ (slot_at xs i ≡ vacant))
  -- elsewhere all that a round promises, of the session that the slot holds and the one that is given
  pub round : (o : ℕ) (s : Session) → InTable xs i → slot_at xs i ≡ held o s
      → (t : Session) × ((v.session ≡ some t) × RoundMeets bytes s m (record { answer = v.answer; session = t }))
  -- the slot's own where the round would be refused, be it by the policy
  pub unchanged : (o : ℕ) (s : Session) → InTable xs i → slot_at xs i ≡ held o s → (f : Refusal) → v.answer ≡ refused f → v.session ≡ some s

-- g is what the round gives that is played on the list xs after the preview v
pub record RoundAfter (xs : List Slot) (i : ℕ) (v : Preview) (g : Reply Answer) : Type 0 where
  pub answer : g.answer ≡ v.answer
  -- the slot holds the session that was given, and any that it holds was given
  pub session : (t : Session) → (v.session ≡ some t) ↔ (InTable g.table i × ((o : ℕ) × (slot_at g.table i ≡ held o t)))
  -- where none was given the list is as it was
  pub nothing : v.session ≡ none → g.table ≡ xs
