-- The theorems of specs/Theorems. Assumes nothing.
use Rattle.form.specs.PolicyTest.{policy_refusal}
use Rattle.form.specs.Theorems.{Theorems}
use Rattle.form.proofs.KindLaws.{access_iff, disclosure_iff, kinds_iff, weight_iff}
use Rattle.form.proofs.NumberLaws.{numbers}
use Rattle.form.proofs.PolicyLaws.{loop_free, looped, one_model, policy_weights, stratified, unlocks_iff}
use Rattle.form.proofs.RefusalLaws.{tested}
use Rattle.form.proofs.WrittenLaws.{written_iff}

pub theorems : Theorems
theorems = record {
  tested = tested;
  numbers = λ bytes b. numbers bytes (policy_refusal bytes) (tested bytes b);
  written = written_iff;
  kinds = kinds_iff;
  access_records = access_iff;
  disclosure_records = disclosure_iff;
  weight_records = weight_iff;
  stratified = stratified;
  looped = λ bytes b k e. looped bytes b k (((numbers bytes (policy_refusal bytes) (tested bytes b)).six k).0 e);
  loop_free = loop_free;
  weights = policy_weights;
  models = one_model;
  unlocking = unlocks_iff;
}
