-- What the model answers of any bytes at all. Assumes nothing.
use Rattle.std.specs.Prelude.{List, ℕ}
use Rattle.validation.specs.Unless.{Unless, unless}
use Rattle.rules.specs.Model.{model}
use Rattle.records.specs.Policies.{policy_of}
use Rattle.form.specs.PolicyTest.{policy_refusal}
use Rattle.form.specs.WrittenForm.{Refusal}

-- "model and disclosable set give 1 to 6 and then no set", and since R-2 12 and 13; of a policy's bytes and a set of credentials
unfoldable pub model_answer : List ℕ → ℕ → Unless Refusal ℕ
model_answer bytes C = unless (policy_refusal bytes) (model (policy_of bytes).access C)
