-- What is given of a policy of the written form, and of no other. Assumes nothing.
use Rattle.std.specs.Prelude.{◌≡◌, List, ℕ}
use Rattle.validation.specs.Unless.{GivenExactly, Unless, withheld}
use Rattle.form.specs.WrittenForm.{PolicyNumber, PolicyRefused, Refusal, WellFormed, refusal_number}

-- u gives the sets that are Right, of a policy of the written form, and no set of any other: of that its refusal
pub record Gives (bytes : List ℕ) (Right : ℕ → Type 0) (u : Unless Refusal ℕ) : Type 0 where
  pub exactly : GivenExactly (WellFormed bytes) Right (PolicyRefused bytes) u
  -- "give 1 to 6", and 12 and 13
  pub numbers : (f : Refusal) → u ≡ withheld f → PolicyNumber (refusal_number f)
