-- Document 01, "Who can be turned back", and document 02, R-2 and R-4: the policy's test, computed. specs/Theorems says that it accepts exactly the written form
-- and gives every other policy its refusal. Assumes nothing.
use Rattle.std.specs.Prelude.{◌≡◌, Bool, ◌&&◌, ◌||◌, cond, false, not, true, List, [], ◌++◌, ◌∷◌, ◌%◌, ◌^◌, suc, zero, ℕ, eqb, leb, ltb, length}
use Rattle.std.proofs.Math.Option.{Option}
use Rattle.validation.specs.Tests.{first_failed, relabelled}
use Rattle.atoms.specs.Atoms.{first_derived, last_credential, violation}
use Rattle.atoms.specs.Sets.{empty, member}
use Rattle.rules.specs.Rules.{Rule}
use Rattle.strata.specs.Strata.{stratifiable}
use Rattle.records.specs.Records.{Record, access_kind, disclosure_kind, record_at, records_before, rules_of, weight_kind, whole_records}
use Rattle.form.specs.WrittenForm.{Refusal, at}

-- ---- the tests of a record

-- "An access head is 16 to 63."
abbrev pub access_head : Rule → Bool
access_head r = leb first_derived r.head && leb r.head violation

-- "A disclosure head is 0 to 15"; kind 3 "has heads 0 to 15 by 4"
abbrev pub credential_head : Rule → Bool
credential_head r = leb r.head last_credential

-- "Atom 63 stands in no body."
abbrev pub access_body : Rule → Bool
access_body r = not (member violation r.positive) && not (member violation r.negated)

-- "its body has only credentials, none negated"; "a set of credentials is a 16-bit number"
abbrev pub disclosure_body : Rule → Bool
disclosure_body r = ltb r.positive (2 ^ 16) && eqb r.negated empty

-- "12, weight above 15 or negated set not empty": neither
abbrev pub weight_body : Rule → Bool
weight_body r = leb r.positive 15 && eqb r.negated empty

-- one of the records gives credential k a weight
unfoldable pub weighs : ℕ → List Record → Bool
weighs k [] = false
weighs k (d ∷ ds) = (eqb d.kind weight_kind && eqb d.rule.head k) || weighs k ds

-- a of an access record, b of a disclosure record, c of a weight
abbrev pub by_kind : Record → Bool → Bool → Bool → Bool
by_kind d a b c = cond (eqb d.kind access_kind) a (cond (eqb d.kind disclosure_kind) b (cond (eqb d.kind weight_kind) c true))

-- the tests of the record d in order, after the records `before`, each beside its number
abbrev pub record_tests : List Record → Record → List (Bool × ℕ)
record_tests before d =
    (eqb d.kind access_kind || (eqb d.kind disclosure_kind || eqb d.kind weight_kind), 3)
    ∷ (by_kind d (access_head d.rule) (credential_head d.rule) (credential_head d.rule), 4)
    ∷ (by_kind d (access_body d.rule) (disclosure_body d.rule) true, 5)
    ∷ (by_kind d true true (weight_body d.rule), 12)
    ∷ (by_kind d true true (not (weighs d.rule.head before)), 13)
    ∷ []

-- ---- the tests of a policy, in the order of PolicyForm

-- "1: more than 2,304 bytes; record number 128." "2: length not a multiple of 18; number of whole records."
abbrev pub length_tests : List ℕ → List (Bool × Refusal)
length_tests bytes = (leb (length bytes) 2304, at 1 128) ∷ (eqb (length bytes % 18) 0, at 2 (whole_records bytes)) ∷ []

-- a record's tests, each beside a refusal at record k
abbrev pub at_record : ℕ → List (Bool × ℕ) → List (Bool × Refusal)
at_record k ts = relabelled (λ m. at m k) ts

-- s has the credentials that the records weigh, and no others
abbrev pub Weighed : List Record → ℕ → Type 0
Weighed ds s = (k : ℕ) → member k s ≡ weighs k ds

-- o is the refusal of record k, which says d, whatever records come before it, if they weigh the credentials in s and no others
abbrev pub AnswersRecord : ℕ → Record → ℕ → Option Refusal → Type 0
AnswersRecord s d k o = (before : List Record) → Weighed before s → o ≡ first_failed (at_record k (record_tests before d))

-- the tests of record k
abbrev pub tests_at : List ℕ → ℕ → List (Bool × Refusal)
tests_at bytes k = at_record k (record_tests (records_before bytes k) (record_at bytes k))

-- "records are tested in turn": record k and those after it, n in all
unfoldable pub tests_from : List ℕ → ℕ → ℕ → List (Bool × Refusal)
tests_from bytes k zero = []
tests_from bytes k (suc n) = tests_at bytes k ++ tests_from bytes (suc k) n

-- those of the policy as a whole, "after all records passed the rest": "The gate finds levels itself.", or 6, "with the count of records as its number"
abbrev pub whole_tests : List ℕ → List (Bool × Refusal)
whole_tests bytes = (stratifiable (rules_of access_kind bytes), at 6 (whole_records bytes)) ∷ []

unfoldable pub policy_tests : List ℕ → List (Bool × Refusal)
policy_tests bytes = length_tests bytes ++ (tests_from bytes 0 (whole_records bytes) ++ whole_tests bytes)

-- the policy's test: its refusal, or none where it is accepted
unfoldable pub policy_refusal : List ℕ → Option Refusal
policy_refusal bytes = first_failed (policy_tests bytes)
