-- The theorems of policies: the first half of demand 1, the written form spelled out, each refusal by its number, levels that are found, loops that leave
-- none, and weights. Assumes nothing.
use Rattle.std.specs.Prelude.{◌≡◌, ◌↔◌, ◌⊎◌, ◌≢◌, true, List, ◌%◌, ◌*◌, ◌+◌, ◌<◌, ◌≤◌, ℕ, length}
use Rattle.std.proofs.Math.Option.{Option, none, some}
use Rattle.encoding.specs.LittleEndian.{Bytes}
use Rattle.lists.specs.Lists.{Every}
use Rattle.atoms.specs.Atoms.{last_credential}
use Rattle.atoms.specs.Sets.{Member, empty}
use Rattle.rules.specs.Model.{model}
use Rattle.rules.specs.Rules.{Levelled, Stratified}
use Rattle.rules.specs.Stable.{OneStable}
use Rattle.rules.specs.Unlocking.{Unlocks, unlocks}
use Rattle.rules.specs.Weights.{weight_in}
use Rattle.strata.specs.Loops.{NegatedLoop}
use Rattle.strata.specs.Strata.{Levelable, level_of}
use Rattle.records.specs.Policies.{policy_of}
use Rattle.records.specs.Records.{Record, record_at, weight_kind}
use Rattle.form.specs.PolicyTest.{policy_refusal}
use Rattle.form.specs.WrittenForm.{BodyAllowed, HeadAllowed, KindAllowed, PolicyNumber, PolicyRefused, Refusal, WeightAllowed, Weighs, WellFormed, at}

-- What the policy's test answers, o. Demand 1: every policy of the written form is accepted, and all else is refused with its number.
pub record Tested (bytes : List ℕ) (o : Option Refusal) : Type 0 where
  pub accepts : (o ≡ none) ↔ WellFormed bytes
  pub refuses : (f : Refusal) → (o ≡ some f) ↔ PolicyRefused bytes f

pub record RecordAllowed (d : Record) : Type 0 where
  pub kind : KindAllowed d
  pub head : HeadAllowed d
  pub body : BodyAllowed d
  pub weight : WeightAllowed d

-- record k gives a weight to a credential that record j gives one
pub record SecondWeight (bytes : List ℕ) (j k : ℕ) : Type 0 where
  pub weighs : (record_at bytes k).kind ≡ weight_kind
  pub before : Weighs (record_at bytes k).rule.head (record_at bytes j)

-- "A policy is 0 to 128 records of 18 bytes, no header; record k is the part that begins at byte 18 times k.", and levels can be found
pub record Written (bytes : List ℕ) : Type 0 where
  pub longest : length bytes ≤ 2304
  pub whole : length bytes % 18 ≡ 0
  pub records : (k : ℕ) → 18 * k + 18 ≤ length bytes → RecordAllowed (record_at bytes k)
  pub weighed_once : (j k : ℕ) → j < k → 18 * k + 18 ≤ length bytes → SecondWeight bytes j k → ⊥
  pub levels : Levelable (policy_of bytes).access

-- the lengths are right, and record k is the first at fault, as Broken says
pub record Faulty (bytes : List ℕ) (k : ℕ) (Broken : Record → Type 0) : Type 0 where
  pub longest : length bytes ≤ 2304
  pub whole : length bytes % 18 ≡ 0
  pub inside : 18 * k + 18 ≤ length bytes
  pub before : (j : ℕ) → j < k → RecordAllowed (record_at bytes j)
  pub weighed_once : (i j : ℕ) → i < j → j < k → SecondWeight bytes i j → ⊥
  pub broken : Broken (record_at bytes k)

-- a length that is no multiple of 18, with k whole records
pub record Ragged (bytes : List ℕ) (k : ℕ) : Type 0 where
  pub longest : length bytes ≤ 2304
  pub ragged : length bytes % 18 ≡ 0 → ⊥
  pub whole_ones : 18 * k ≤ length bytes
  pub no_more : length bytes < 18 * k + 18

-- k records, all in order, have access rules that no choice of levels fits
pub record Unlevelled (bytes : List ℕ) (k : ℕ) : Type 0 where
  pub longest : length bytes ≤ 2304
  pub count : 18 * k ≡ length bytes
  pub records : (j : ℕ) → j < k → RecordAllowed (record_at bytes j)
  pub weighed_once : (i j : ℕ) → i < j → j < k → SecondWeight bytes i j → ⊥
  pub no_levels : (lev : ℕ → ℕ) → Every (Levelled lev) (policy_of bytes).access → ⊥

-- When each number is given, with which record number.
pub record Numbers (bytes : List ℕ) (o : Option Refusal) : Type 0 where
  -- "1: more than 2,304 bytes; record number 128."
  pub one : (k : ℕ) → (o ≡ some (at 1 k)) ↔ ((2304 < length bytes) × (k ≡ 128))
  -- "2: length not a multiple of 18; number of whole records."
  pub two : (k : ℕ) → (o ≡ some (at 2 k)) ↔ Ragged bytes k
  -- "3: kind neither 1 nor 2.", nor 3
  pub three : (k : ℕ) → (o ≡ some (at 3 k)) ↔ Faulty bytes k (λ d. KindAllowed d → ⊥)
  -- "4: head not allowed for the kind."
  pub four : (k : ℕ) → (o ≡ some (at 4 k)) ↔ Faulty bytes k (λ d. KindAllowed d × (HeadAllowed d → ⊥))
  -- "5: body atom not allowed for the kind."
  pub five : (k : ℕ) → (o ≡ some (at 5 k)) ↔ Faulty bytes k (λ d. KindAllowed d × (HeadAllowed d × (BodyAllowed d → ⊥)))
  -- "Number 6 now says that no choice of a whole number as each atom's level gives each access head at least its positive atoms' level and more than its
  -- negated atoms' level, and is given exactly then, after all records passed the rest, with the count of records as its number."
  pub six : (k : ℕ) → (o ≡ some (at 6 k)) ↔ Unlevelled bytes k
  -- "12, weight above 15 or negated set not empty"
  pub twelve : (k : ℕ) → (o ≡ some (at 12 k))
      ↔ Faulty bytes k (λ d. (d.kind ≡ weight_kind) × ((d.rule.head ≤ last_credential) × ((15 < d.rule.positive) ⊎ (d.rule.negated ≢ empty))))
  -- "13, a second weight for one credential, even by an equal record come twice"
  pub thirteen : (k : ℕ) → (o ≡ some (at 13 k)) ↔ Faulty bytes k (λ d. RecordAllowed d × ((j : ℕ) × (j < k) × SecondWeight bytes j k))
  -- "The policy's test gives only 1 to 6", and these two
  pub only : (n k : ℕ) → o ≡ some (at n k) → PolicyNumber n

-- What credentials weigh under a policy.
pub record Weights (bytes : List ℕ) : Type 0 where
  -- "A record of kind 3 gives a credential (head) a weight 0 to 15 in its positive set's number"
  pub named : (j : ℕ) → 18 * j + 18 ≤ length bytes → (k : ℕ) → Weighs k (record_at bytes j) → weight_in (policy_of bytes) k ≡ (record_at bytes j).rule.positive
  -- "unnamed ones weigh 1"
  pub unnamed : (k : ℕ) → ((j : ℕ) → 18 * j + 18 ≤ length bytes → Weighs k (record_at bytes j) → ⊥) → weight_in (policy_of bytes) k ≡ 1
  pub most : (k : ℕ) → weight_in (policy_of bytes) k ≤ 15

pub record Theorems : Type 0 where
  pub tested : (bytes : List ℕ) → Bytes bytes → Tested bytes (policy_refusal bytes)
  pub numbers : (bytes : List ℕ) → Bytes bytes → Numbers bytes (policy_refusal bytes)
  pub written : (bytes : List ℕ) → WellFormed bytes ↔ Written bytes
  -- "Kind 3 passes 3", beside 1 and 2, and no other does
  pub kinds : (d : Record) → KindAllowed d ↔ ((1 ≤ d.kind) × (d.kind ≤ 3))
  -- what is asked of a record of each kind by itself, and nothing else: "An access head is 16 to 63.", "Atom 63 stands in no body."
  pub access_records : (d : Record) → d.kind ≡ 1
      → RecordAllowed d ↔ (((16 ≤ d.rule.head) × (d.rule.head ≤ 63)) × ((Member 63 d.rule.positive → ⊥) × (Member 63 d.rule.negated → ⊥)))
  -- "A disclosure head is 0 to 15", "its body has only credentials, none negated"
  pub disclosure_records : (d : Record) → d.kind ≡ 2
      → RecordAllowed d ↔ ((d.rule.head ≤ 15) × (((k : ℕ) → Member k d.rule.positive → k ≤ 15) × (d.rule.negated ≡ 0)))
  -- kind 3 "has heads 0 to 15 by 4, and is tested by 12 and 13 instead of 5 and 6"
  pub weight_records : (d : Record) → d.kind ≡ 3 → RecordAllowed d ↔ ((d.rule.head ≤ 15) × ((d.rule.positive ≤ 15) × (d.rule.negated ≡ 0)))
  -- an accepted policy's access rules keep levels, these among them
  pub stratified : (bytes : List ℕ) → Bytes bytes → WellFormed bytes → Every (Stratified (level_of (policy_of bytes).access)) (policy_of bytes).access
  -- 6 is for loops through a negation: where it is given there is one, and in an accepted policy there is none
  pub looped : (bytes : List ℕ) → Bytes bytes → (k : ℕ) → policy_refusal bytes ≡ some (at 6 k) → NegatedLoop (policy_of bytes).access
  pub loop_free : (bytes : List ℕ) → WellFormed bytes → NegatedLoop (policy_of bytes).access → ⊥
  pub weights : (bytes : List ℕ) → WellFormed bytes → Weights bytes
  -- "For every accepted policy and every C just one stable set exists; that is the model."
  pub models : (bytes : List ℕ) → Bytes bytes → WellFormed bytes → (C : ℕ)
      → OneStable (policy_of bytes).access C (model (policy_of bytes).access C)
  -- "C unlocks service r if r is in the model and 63 is not."
  pub unlocking : (bytes : List ℕ) → Bytes bytes → WellFormed bytes → (r C : ℕ) → (unlocks (policy_of bytes) r C ≡ true) ↔ Unlocks (policy_of bytes) r C
