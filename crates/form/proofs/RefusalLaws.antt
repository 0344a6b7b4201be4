-- The policy's tests decide its form, so that the first that fails is the first statement that does not hold. Assumes nothing.
use mathlib.Core.Path.{refl}
use mathlib.Core.List.{List, ◌++◌}
use Prim.Native.Nat.{◌%◌, suc, zero, ℕ}
use lib.ListN.{length}
use Rattle.encoding.specs.LittleEndian.{Bytes}
use Rattle.lists.specs.Lists.{Every}
use Rattle.validation.specs.Statements.{DecideAll}
use Rattle.validation.specs.Tests.{relabelled}
use Rattle.validation.proofs.DecideLaws.{decides_eq, decides_le}
use Rattle.validation.proofs.FirstLaws.{decide_append, decide_relabelled, first_none, first_some}
use Rattle.strata.specs.Theorems.{SizedBody}
use Rattle.strata.proofs.StrataLaws.{exists}
use Rattle.records.specs.Records.{access_kind, record_at, records_from, rules_of, whole_records}
use Rattle.records.proofs.ReadLaws.{record_sized}
use Rattle.records.proofs.RuleLaws.{every_rule}
use Rattle.form.specs.PolicyTest.{length_tests, policy_refusal, policy_tests, record_tests, tests_at, tests_from, whole_tests}
use Rattle.form.specs.Theorems.{Tested}
use Rattle.form.specs.WrittenForm.{Lengths, PolicyForm, PolicyRefused, RecordForm, RecordForms, WellFormed, WholeForm, at}
use Rattle.form.proofs.RecordLaws.{decide_record}

-- the rules of any kind have sets of atoms for bodies
pub rules_sized : (bytes : List ℕ) → Bytes bytes → (k : ℕ) → Every SizedBody (rules_of k bytes)
rules_sized bytes b k = (every_rule k bytes SizedBody).1
    (λ j l e. let s = record_sized bytes b j in record { positive = s.positive; negated = s.negated })

module _ (bytes : List ℕ) where
  pub decide_from : (k n : ℕ) → DecideAll (tests_from bytes k n) (RecordForms bytes k n)
  unfolding tests_from RecordForms
  decide_from k zero = tt
  decide_from k (suc n) =
      let d = record_at bytes k in
      let before = records_from bytes 0 k in
      decide_append (tests_at bytes k) (tests_from bytes (suc k) n) (relabelled (λ m. at m k) (RecordForm before d)) (RecordForms bytes (suc k) n)
      (decide_relabelled (λ m. at m k) (record_tests before d) (RecordForm before d) (decide_record before d)) (decide_from (suc k) n)

module _ (bytes : List ℕ) (b : Bytes bytes) where
  pub decide_policy : DecideAll (policy_tests bytes) (PolicyForm bytes)
  unfolding policy_tests PolicyForm
  decide_policy =
      let n = whole_records bytes in
      decide_append (length_tests bytes) (tests_from bytes 0 n ++ whole_tests bytes) (Lengths bytes) (RecordForms bytes 0 n ++ WholeForm bytes)
      (decides_le (length bytes) 2304, refl, (decides_eq (length bytes % 18) 0, refl, tt))
      (decide_append (tests_from bytes 0 n) (whole_tests bytes) (RecordForms bytes 0 n) (WholeForm bytes) (decide_from bytes 0 n)
      (exists (rules_of access_kind bytes) (rules_sized bytes b access_kind), refl, tt))

  pub tested : Tested bytes (policy_refusal bytes)
  unfolding policy_refusal WellFormed PolicyRefused
  tested = record {
    accepts = first_none (policy_tests bytes) (PolicyForm bytes) decide_policy;
    refuses = first_some (policy_tests bytes) (PolicyForm bytes) decide_policy;
  }
