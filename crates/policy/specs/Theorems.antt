-- The theorems of the policy's test. Assumes nothing.
use Rattle.std.specs.Prelude.{◌≡◌, Result, Err}
use Rattle.std.proofs.Math.Option.{some}
use Rattle.policy.specs.Types.{checked_of, refusal_of}
use Rattle.policy.specs.declared.refusal.Refusal.{Refusal}

pub record Theorems : Type 1 where
  -- what the program's answer means is one-to-one, so that a contract through this map fixes the answer
  pub one_to_one : (x y : Result (Unit {0}) Refusal) → checked_of x ≡ checked_of y → x ≡ y
  -- whatever is handed on with acceptance: it fixes whether the policy is refused, and the refusal
  pub refused_one : {T : Type 0} (x : Result T Refusal) (f : Refusal) → checked_of x ≡ some (refusal_of f) → x ≡ Err f
