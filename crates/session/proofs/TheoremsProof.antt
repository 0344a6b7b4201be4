-- The theorems of specs/Theorems. Assumes nothing.
use mathlib.Core.Path.{refl}
use Rattle.session.specs.Theorems.{Theorems}
use Rattle.session.proofs.TypeLaws.{move_one, opened_one, outcome_one, session_one}

pub theorems : Theorems
theorems = record {
  taken = λ m. refl;
  move_one = move_one;
  session_one = session_one;
  outcome_one = outcome_one;
  opened_one = opened_one;
}
