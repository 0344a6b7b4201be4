-- The theorems of records: how many whole records there are; what is written is what is read; a policy's rules are those of all its records of that
-- kind; what a round reads of a policy. Assumes nothing.
use Rattle.std.specs.Prelude.{◌≡◌, ◌↔◌, ◌≢◌, List, ◌*◌, ◌+◌, ◌<◌, ◌^◌, ◌≤◌, ℕ, length}
use Rattle.lists.specs.Lists.{Every}
use Rattle.rules.specs.Rules.{Rule}
use Rattle.records.specs.Policies.{policy_of, unweighted}
use Rattle.records.specs.Records.{Record, record_at, records_before, records_of, rules_of, whole_records}
use Rattle.records.specs.Types.{record_of}
use Rattle.records.specs.Writing.{with_record, write_records}
use Rattle.records.specs.declared.Record as program

-- the sets of a record are sets of atoms: 64-bit numbers
pub record Sized (d : Record) : Type 0 where
  pub positive : d.rule.positive < 2 ^ 64
  pub negated : d.rule.negated < 2 ^ 64

pub record Theorems : Type 1 where
  -- "number of whole records": so many of 18 bytes each are there, and not one more
  pub whole_records_lem : (bytes : List ℕ) (k : ℕ) → (whole_records bytes ≡ k) ↔ ((18 * k ≤ length bytes) × (length bytes < 18 * k + 18))
  -- the records that are read are those that were written, in order and none else
  pub written : (ds : List Record) → Every Sized ds → records_of (write_records ds) ≡ ds
  -- record k is the one that was written there, every other one is what it was, and no byte comes or goes
  pub written_there : (bytes : List ℕ) (k : ℕ) → 18 * k + 18 ≤ length bytes → (d : Record) → Sized d → record_at (with_record bytes k d) k ≡ d
  pub others : (bytes : List ℕ) (k j : ℕ) → 18 * k + 18 ≤ length bytes → (d : Record) → j ≢ k → record_at (with_record bytes k d) j ≡ record_at bytes j
  pub as_long : (bytes : List ℕ) (k : ℕ) → 18 * k + 18 ≤ length bytes → (d : Record) → length (with_record bytes k d) ≡ length bytes
  -- the rules of kind k are those of all records of that kind, and no others: the same holds of each
  pub listed : (k : ℕ) (bytes : List ℕ) (P : Rule → Type 0)
      → Every P (rules_of k bytes) ↔ ((j : ℕ) → 18 * j + 18 ≤ length bytes → (record_at bytes j).kind ≡ k → P (record_at bytes j).rule)
  -- the records before record k
  pub earlier : (bytes : List ℕ) (k : ℕ) (P : Record → Type 0) → Every P (records_before bytes k) ↔ ((j : ℕ) → j < k → P (record_at bytes j))
  -- what a round reads of a policy: the rules of all its records of kind 1, of all its records of kind 2, and of all its records of kind 3
  pub policies : (bytes : List ℕ)
      → ((policy_of bytes).access ≡ rules_of 1 bytes) × (((policy_of bytes).disclosure ≡ rules_of 2 bytes) × ((policy_of bytes).weights ≡ rules_of 3 bytes))
  -- the records that are no weights: all but those of kind 3, and these only
  pub unweighted_ones : (ds : List Record) (P : Record → Type 0) → Every P (unweighted ds) ↔ Every (λ d. d.kind ≢ 3 → P d) ds
  -- records of kind 3 are no rules: policies that are alike without them have the same rules
  pub weights_aside : (bytes others : List ℕ) → unweighted (records_of bytes) ≡ unweighted (records_of others)
      → ((policy_of bytes).access ≡ (policy_of others).access) × ((policy_of bytes).disclosure ≡ (policy_of others).disclosure)
  -- what the program's record means is one-to-one
  pub one_to_one : (x y : program.Record) → record_of x ≡ record_of y → x ≡ y
