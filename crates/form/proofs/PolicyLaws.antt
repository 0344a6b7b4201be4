-- An accepted policy: how many records it has at most; its access rules keep the levels that are found, so they have one stable set over every set of credentials;
-- what the heads and bodies of its rules and its weights are. Assumes nothing.
use mathlib.Core.Path.{◌≡◌}
use mathlib.Core.Logic.{◌↔◌, inl, inr}
use mathlib.Core.Bool.{true}
use mathlib.Core.List.{List}
use mathlib.Core.Option.{none}
use Prim.Native.Nat.{◌<◌, ◌≤◌, ℕ}
use lib.ListN.{length}
use native.Mathlib.Omega.{arith}
use Rattle.encoding.specs.LittleEndian.{Bytes}
use Rattle.lists.specs.Lists.{Every}
use Rattle.validation.specs.Tests.{first_failed}
use Rattle.validation.proofs.FirstLaws.{first_none}
use Rattle.atoms.specs.Atoms.{first_derived, last_credential, violation}
use Rattle.rules.specs.Model.{model}
use Rattle.rules.specs.Rules.{Stratified}
use Rattle.rules.specs.Stable.{OneStable}
use Rattle.rules.specs.Unlocking.{Unlocks, unlocks}
use Rattle.rules.proofs.TheoremsProof as rules
use Rattle.strata.specs.Loops.{NegatedLoop}
use Rattle.strata.specs.Strata.{Levelable, level_of, stratifiable}
use Rattle.strata.specs.Theorems.{Over64}
use Rattle.strata.proofs.LoopLaws.{loop_none, loops_iff}
use Rattle.strata.proofs.StrataLaws.{exists, levels}
use Rattle.records.specs.Policies.{policy_of}
use Rattle.records.specs.Records.{access_kind, disclosure_kind, record_at, rules_of, weight_kind, whole_records}
use Rattle.records.proofs.ReadLaws.{record_sized}
use Rattle.records.proofs.RuleLaws.{every_rule}
use Rattle.form.specs.PolicyTest.{tests_from}
use Rattle.form.specs.Theorems.{RecordAllowed, Unlevelled, Weights}
use Rattle.form.specs.WrittenForm.{DisclosureBody, KindAllowed, RecordForms, WellFormed}
use Rattle.form.proofs.FormLaws.{form_iff}
use Rattle.form.proofs.RefusalLaws.{decide_from, rules_sized}
use Rattle.form.proofs.WeightLaws.{weights}
use Rattle.form.proofs.WrittenLaws.{from_hold, written_iff}

pub most_bytes : (bytes : List ℕ) → WellFormed bytes → length bytes ≤ 2304
most_bytes bytes w = ((written_iff bytes).0 w).longest

pub most_records : (bytes : List ℕ) → WellFormed bytes → whole_records bytes ≤ 128
most_records bytes w = omega (arith, most_bytes bytes w)

allowed_at : (bytes : List ℕ) → WellFormed bytes → (j : ℕ) → j < whole_records bytes → RecordAllowed (record_at bytes j)
allowed_at bytes w j l = ((written_iff bytes).0 w).records j (omega arith)

-- levels can be found for its access rules
pub access_levels_lem : (bytes : List ℕ) → WellFormed bytes → Levelable (rules_of access_kind bytes)
access_levels_lem bytes w = ((written_iff bytes).0 w).levels

-- so no loop goes through a negation
pub loop_free : (bytes : List ℕ) → WellFormed bytes → NegatedLoop (policy_of bytes).access → ⊥
loop_free bytes w o = let l = access_levels_lem bytes w in loop_none (policy_of bytes).access o l.lev l.levels

-- "An access head is 16 to 63."
pub access_head_lem : (bytes : List ℕ) → WellFormed bytes → (j : ℕ) → j < whole_records bytes → (record_at bytes j).kind ≡ access_kind
    → (first_derived ≤ (record_at bytes j).rule.head) × ((record_at bytes j).rule.head ≤ violation)
access_head_lem bytes w j l e = (allowed_at bytes w j l).head.0 e

-- the same where all records have passed their tests, levels being looked for
pub passed_head : (bytes : List ℕ) → first_failed (tests_from bytes 0 (whole_records bytes)) ≡ none → (j : ℕ) → j < whole_records bytes
    → (record_at bytes j).kind ≡ access_kind → (first_derived ≤ (record_at bytes j).rule.head) × ((record_at bytes j).rule.head ≤ violation)
passed_head bytes p j l e =
    let n = whole_records bytes in
    let h = (first_none (tests_from bytes 0 n) (RecordForms bytes 0 n) (decide_from bytes 0 n)).0 p in
    ((form_iff bytes j).0 ((from_hold bytes 0 n).0 h j (omega arith) (omega arith))).0.head.0 e

-- every head is an atom
pub head_atom : (bytes : List ℕ) → WellFormed bytes → (j : ℕ) → j < whole_records bytes → (record_at bytes j).rule.head ≤ violation
head_atom bytes w j l = go r.kind
  where
    r : RecordAllowed (record_at bytes j)
    r = allowed_at bytes w j l

    go : KindAllowed (record_at bytes j) → (record_at bytes j).rule.head ≤ violation
    go (inl e) = (r.head.0 e).1
    go (inr (inl e)) = omega (arith, r.head.1.0 e)
    go (inr (inr e)) = omega (arith, r.head.1.1 e)

-- a weight is one of a credential, and at most 15
pub weight_record : (bytes : List ℕ) → WellFormed bytes → (j : ℕ) → j < whole_records bytes → (record_at bytes j).kind ≡ weight_kind
    → ((record_at bytes j).rule.head ≤ last_credential) × ((record_at bytes j).rule.positive ≤ 15)
weight_record bytes w j l e = let r = allowed_at bytes w j l in (r.head.1.1 e, (r.weight e).0)

pub policy_weights : (bytes : List ℕ) → WellFormed bytes → Weights bytes
policy_weights bytes w = weights bytes ((written_iff bytes).0 w)

-- where no levels fit, a loop goes through a negation
pub looped : (bytes : List ℕ) → Bytes bytes → (k : ℕ) → Unlevelled bytes k → NegatedLoop (policy_of bytes).access
looped bytes b k x = (loops_iff (policy_of bytes).access (rules_sized bytes b access_kind)).0 x.no_levels

module _ (bytes : List ℕ) (b : Bytes bytes) (w : WellFormed bytes) where
  allowed : (j : ℕ) → j < whole_records bytes → RecordAllowed (record_at bytes j)
  allowed = allowed_at bytes w

  pub over_atoms : Every Over64 (policy_of bytes).access
  over_atoms = (every_rule access_kind bytes Over64).1 (λ j l e. record { headed = ((allowed j l).head.0 e).1; sized = (record_sized bytes b j).negated })

  pub passes : stratifiable (policy_of bytes).access ≡ true
  passes = (exists (policy_of bytes).access (rules_sized bytes b access_kind)).1 (access_levels_lem bytes w)

  pub stratified : Every (Stratified (level_of (policy_of bytes).access)) (policy_of bytes).access
  stratified = (levels (policy_of bytes).access over_atoms passes).0

  pub one_model : (C : ℕ) → OneStable (policy_of bytes).access C (model (policy_of bytes).access C)
  one_model C = (rules.theorems).models (level_of (policy_of bytes).access) (policy_of bytes).access stratified C

  pub unlocks_iff : (r C : ℕ) → (unlocks (policy_of bytes) r C ≡ true) ↔ Unlocks (policy_of bytes) r C
  unlocks_iff = (rules.theorems).unlocking (level_of (policy_of bytes).access) (policy_of bytes) stratified

  -- its disclosure rules have credentials as heads, and bodies of credentials alone
  pub disclosure_heads : Every (λ r. r.head ≤ last_credential) (policy_of bytes).disclosure
  disclosure_heads = (every_rule disclosure_kind bytes (λ r. r.head ≤ last_credential)).1 (λ j l e. (allowed j l).head.1.0 e)

  pub disclosure_bodies : Every DisclosureBody (policy_of bytes).disclosure
  disclosure_bodies = (every_rule disclosure_kind bytes DisclosureBody).1 (λ j l e. (allowed j l).body.1 e)
