-- Demand 1, of the outcome o of a round of the session s, by the statements that a round is held to (rounds' specs/RoundForm). Of the policy's test it is
-- `Tested` in form's specs/Theorems. Assumes nothing.
use Rattle.std.specs.Prelude.{◌≡◌, ◌↔◌, List, ℕ}
use Rattle.validation.specs.Statements.{AllHold, FirstBroken}
use Rattle.rounds.specs.Endings.{Ending}
use Rattle.rounds.specs.Moves.{Move}
use Rattle.rounds.specs.Refusals.{Refusal}
use Rattle.rounds.specs.RoundForm.{RoundForm}
use Rattle.rounds.specs.Rounds.{Outcome, ends, refused}
use Rattle.rounds.specs.Sessions.{Session}

pub record Demand1 (bytes : List ℕ) (s : Session) (m : Move) (o : Outcome) : Type 0 where
  -- "every round of an open session then ends in grant, deny or a question": exactly where all of them hold
  pub accepts : ((e : Ending) × (o.answer ≡ ends e)) ↔ AllHold (RoundForm bytes s m)
  -- "Everything else .. is refused with its number from document 01": with the refusal beside the first that does not hold
  pub refuses : (f : Refusal) → (o.answer ≡ refused f) ↔ FirstBroken (RoundForm bytes s m) f
  -- "session come back unchanged"; bytes by each contract's clause `unchanged`
  pub unchanged : (f : Refusal) → o.answer ≡ refused f → o.session ≡ s
