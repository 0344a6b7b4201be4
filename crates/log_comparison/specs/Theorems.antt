-- The theorem of the comparison of two logs. Assumes nothing.
use Rattle.std.specs.Prelude.{◌≡◌, Option, Result, ℕ}
use Rattle.log_comparison.specs.Types.{compared_of}
use Rattle.log_comparison.specs.declared.compare.Refusal.{Refusal}

pub record Theorems : Type 0 where
  -- what the program's answer means is one-to-one, so that a contract through this map fixes the answer
  pub one_to_one : (x y : Result (Option ℕ) Refusal) → compared_of x ≡ compared_of y → x ≡ y
