-- What the disclosable set answers of any bytes at all. Assumes nothing.
use Rattle.std.specs.Prelude.{List, ℕ}
use Rattle.validation.specs.Unless.{Unless, unless}
use Rattle.records.specs.Policies.{policy_of}
use Rattle.form.specs.PolicyTest.{policy_refusal}
use Rattle.form.specs.WrittenForm.{Refusal}
use Rattle.disclosure.specs.Disclosure.{disclosable}

-- "model and disclosable set give 1 to 6 and then no set", and since R-2 12 and 13; of a policy's bytes and a shown set
unfoldable pub disclosable_answer : List ℕ → ℕ → Unless Refusal ℕ
disclosable_answer bytes P = unless (policy_refusal bytes) (disclosable (policy_of bytes) P)
