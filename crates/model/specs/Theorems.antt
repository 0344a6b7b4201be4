-- The theorems of the model. Assumes nothing.
use Rattle.std.specs.Prelude.{◌≡◌, List, ℕ, Result}
use Rattle.encoding.specs.LittleEndian.{Bytes}
use Rattle.lists.specs.Lists.{OneOf}
use Rattle.validation.specs.Unless.{Unless}
use Rattle.atoms.specs.Sets.{Member, empty}
use Rattle.atoms.specs.declared.AtomSet.{AtomSet}
use Rattle.rules.specs.Model.{model}
use Rattle.rules.specs.Rules.{Rule}
use Rattle.rules.specs.Stable.{Stable}
use Rattle.records.specs.Policies.{policy_of}
use Rattle.form.specs.Answers.{Gives}
use Rattle.form.specs.WrittenForm as W
use Rattle.policy.specs.declared.refusal.Refusal.{Refusal}
use Rattle.model.specs.Answers.{model_answer}
use Rattle.model.specs.Types.{modelled_of}

-- "M is stable": the stable set of the policy's access rules
abbrev pub GivesModel : List ℕ → ℕ → Unless W.Refusal ℕ → Type 0
GivesModel bytes C = Gives bytes (Stable (policy_of bytes).access C)

pub record Theorems : Type 0 where
  -- "An empty body always applies."
  pub empty_body : (bytes : List ℕ) → Bytes bytes → W.WellFormed bytes → (C : ℕ) (r : Rule) → OneOf r (policy_of bytes).access → r.positive ≡ empty
      → r.negated ≡ empty → Member r.head (model (policy_of bytes).access C)
  pub models : (bytes : List ℕ) → Bytes bytes → (C : ℕ) → GivesModel bytes C (model_answer bytes C)
  -- what the program's answer means is one-to-one, so that a contract through this map fixes the answer
  pub one_to_one : (x y : Result AtomSet Refusal) → modelled_of x ≡ modelled_of y → x ≡ y
