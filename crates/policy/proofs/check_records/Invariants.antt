-- `policy::check_records` meets its contract. The loop's invariant: the first refusal of all records is that of those that are left, and the set has the
-- credentials that those before weigh. Assumes nothing.
use mathlib.Core.Path.{◌≡◌}
use mathlib.Core.List.{List}
use Prim.Native.Nat.{◌-◌, ℕ}
use Rattle.validation.specs.Tests.{first_failed}
use Rattle.records.specs.Records.{records_from}
use Rattle.form.specs.PolicyTest.{Weighed, tests_from}
use Rattle.policy.proofs.check_records.Given as goal

pub record Left (policy : List ℕ) (records k weighed : ℕ) : Type 0 where
  pub refusal : first_failed (tests_from policy 0 records) ≡ first_failed (tests_from policy k (records - k))
  pub weighs : Weighed (records_from policy 0 k) weighed

abbrev pub invariant-loop-k : goal.invariant-loop-k
invariant-loop-k l = Left l.policy l.records l.k l.weighed.bits
