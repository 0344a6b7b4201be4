-- The theorems of the program's sessions: what the maps from its types say. Assumes nothing.
use Rattle.std.specs.Prelude.{◌≡◌, Result}
use Rattle.session.specs.Types.{move_of, opened_of, outcome_of, session_of}
use Rattle.session.specs.declared.Move.{Move}
use Rattle.session.specs.declared.Outcome.{Outcome}
use Rattle.session.specs.declared.Session.{Session}
use Rattle.session.specs.declared.refusal.Refusal.{Refusal}

pub record Theorems : Type 0 where
  -- a round takes the very set that its caller hands in
  pub taken : (m : Move) → (move_of m).shows ≡ m.shows
  -- what the program's types mean is one-to-one, so that a contract through these maps fixes the result
  pub move_one : (x y : Move) → move_of x ≡ move_of y → x ≡ y
  pub session_one : (x y : Session) → session_of x ≡ session_of y → x ≡ y
  pub outcome_one : (x y : Outcome) → outcome_of x ≡ outcome_of y → x ≡ y
  pub opened_one : (x y : Result Session Refusal) → opened_of x ≡ opened_of y → x ≡ y
