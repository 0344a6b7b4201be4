-- Document 01, "Atoms and records" and "Who can be turned back", and document 02, R-2 and R-4: the written form of a policy, as statements in the order in which
-- they are tested, each beside the refusal that is given where it does not hold. No test is made here; specs/PolicyTest has the tests, and
-- specs/Theorems says that they give what is said here. Assumes nothing.
use Rattle.std.specs.Prelude.{◌≡◌, ◌⊎◌, List, [], ◌++◌, ◌∷◌, ◌%◌, ◌≤◌, suc, zero, ℕ, length}
use Rattle.lists.specs.Lists.{Every}
use Rattle.validation.specs.Statements.{AllHold, FirstBroken}
use Rattle.validation.specs.Tests.{relabelled}
use Rattle.atoms.specs.Atoms.{first_derived, last_credential, violation}
use Rattle.atoms.specs.Sets.{Member}
use Rattle.rules.specs.Rules.{Rule}
use Rattle.strata.specs.Strata.{Levelable}
use Rattle.records.specs.Records.{Record, access_kind, disclosure_kind, record_at, records_before, rules_of, weight_kind, whole_records}

-- ---- a record

-- "Byte 0 is the kind: 1 access, 2 disclosure."; "Kind 3 passes 3"
abbrev pub KindAllowed : Record → Type 0
KindAllowed d = (d.kind ≡ access_kind) ⊎ ((d.kind ≡ disclosure_kind) ⊎ (d.kind ≡ weight_kind))

-- "An access head is 16 to 63." "A disclosure head is 0 to 15"; kind 3 "has heads 0 to 15 by 4"
abbrev pub HeadAllowed : Record → Type 0
HeadAllowed d =
    (d.kind ≡ access_kind → (first_derived ≤ d.rule.head) × (d.rule.head ≤ violation))
    × ((d.kind ≡ disclosure_kind → d.rule.head ≤ last_credential) × (d.kind ≡ weight_kind → d.rule.head ≤ last_credential))

-- "Atom 63 stands in no body."
abbrev pub AccessBody : Rule → Type 0
AccessBody r = (Member violation r.positive → ⊥) × (Member violation r.negated → ⊥)

-- "its body has only credentials, none negated"
abbrev pub DisclosureBody : Rule → Type 0
DisclosureBody r = ((k : ℕ) → Member k r.positive → k ≤ last_credential) × ((k : ℕ) → Member k r.negated → ⊥)

-- kind 3 "is tested by 12 and 13 instead of 5 and 6"
abbrev pub BodyAllowed : Record → Type 0
BodyAllowed d = (d.kind ≡ access_kind → AccessBody d.rule) × (d.kind ≡ disclosure_kind → DisclosureBody d.rule)

-- not what is refused with "12, weight above 15 or negated set not empty", where the weight is the "positive set's number"
abbrev pub WeightBody : Rule → Type 0
WeightBody r = (r.positive ≤ 15) × ((k : ℕ) → Member k r.negated → ⊥)

abbrev pub WeightAllowed : Record → Type 0
WeightAllowed d = d.kind ≡ weight_kind → WeightBody d.rule

-- d gives credential k a weight
pub record Weighs (k : ℕ) (d : Record) : Type 0 where
  pub kind : d.kind ≡ weight_kind
  pub head : d.rule.head ≡ k

-- not what is refused with "13, a second weight for one credential, even by an equal record come twice"
abbrev pub FirstWeight : List Record → Record → Type 0
FirstWeight before d = d.kind ≡ weight_kind → Every (λ b. Weighs d.rule.head b → ⊥) before

-- what the record d is held to, after the records `before`, each beside its number: "3: kind neither 1 nor 2.", which kind 3 passes now, "4: head not
-- allowed for the kind.", "5: body atom not allowed for the kind.", and 12 and 13
abbrev pub RecordForm : List Record → Record → List (Type 0 × ℕ)
RecordForm before d =
    (KindAllowed d, 3)
    ∷ (HeadAllowed d, 4)
    ∷ (BodyAllowed d, 5)
    ∷ (WeightAllowed d, 12)
    ∷ (FirstWeight before d, 13)
    ∷ []

-- ---- a policy

-- a refusal's number, "with a record number counted from 0"
pub data Refusal : Type 0 where
  at : ℕ → ℕ → Refusal

abbrev pub refusal_number : Refusal → ℕ
refusal_number (at n k) = n

abbrev pub record_number : Refusal → ℕ
record_number (at n k) = k

-- "The policy's test gives only 1 to 6", and 12 and 13 "wherever a policy is tested"
abbrev pub PolicyNumber : ℕ → Type 0
PolicyNumber n = ((1 ≤ n) × (n ≤ 6)) ⊎ ((n ≡ 12) ⊎ (n ≡ 13))

-- "1: more than 2,304 bytes; record number 128." "2: length not a multiple of 18; number of whole records." How many these are is said by bounds in
-- `whole_records_lem` (records' specs/Theorems), and of refusal 2 in `Ragged` (specs/Theorems).
abbrev pub Lengths : List ℕ → List (Type 0 × Refusal)
Lengths bytes = (length bytes ≤ 2304, at 1 128) ∷ (length bytes % 18 ≡ 0, at 2 (whole_records bytes)) ∷ []

-- "records are tested in turn", each by 3 to 5, 12 and 13: record k and those after it, n in all
unfoldable pub RecordForms : List ℕ → ℕ → ℕ → List (Type 0 × Refusal)
RecordForms bytes k zero = []
RecordForms bytes k (suc n) = relabelled (λ m. at m k) (RecordForm (records_before bytes k) (record_at bytes k)) ++ RecordForms bytes (suc k) n

-- what the policy as a whole is held to, once each record keeps its form: "Number 6 now says that no choice of a whole number as each atom's level gives
-- each access head at least its positive atoms' level and more than its negated atoms' level, and is given exactly then, after all records passed the rest,
-- with the count of records as its number."
abbrev pub WholeForm : List ℕ → List (Type 0 × Refusal)
WholeForm bytes = (Levelable (rules_of access_kind bytes), at 6 (whole_records bytes)) ∷ []

-- all of it, in order
unfoldable pub PolicyForm : List ℕ → List (Type 0 × Refusal)
PolicyForm bytes = Lengths bytes ++ (RecordForms bytes 0 (whole_records bytes) ++ WholeForm bytes)

-- "A policy is 0 to 128 records of 18 bytes, no header", each in its form, and levels can be found
unfoldable pub WellFormed : List ℕ → Type 0
WellFormed bytes = AllHold (PolicyForm bytes)

-- "Only the first that applies is given"
unfoldable pub PolicyRefused : List ℕ → Refusal → Type 0
PolicyRefused bytes f = FirstBroken (PolicyForm bytes) f
