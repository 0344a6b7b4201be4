-- The policy's test as it was before R-4, computed. Assumes nothing.
use Rattle.std.specs.Prelude.{Bool, ◌&&◌, ◌||◌, not, true, List, [], ◌++◌, ◌∷◌, suc, zero, ℕ, eqb, leb, ltb}
use Rattle.std.proofs.Math.Option.{Option}
use Rattle.validation.specs.Tests.{first_failed}
use Rattle.atoms.specs.Sets.{member}
use Rattle.rules.specs.Rules.{Rule}
use Rattle.records.specs.Records.{Record, access_kind, disclosure_kind, record_at, records_before, weight_kind, whole_records}
use Rattle.form.specs.PolicyTest.{access_body, access_head, at_record, by_kind, credential_head, disclosure_body, length_tests, weighs, weight_body}
use Rattle.form.specs.WrittenForm.{Refusal}
use Rattle.former.specs.FormerForm.{level}

-- f passes for every atom below n that s has
unfoldable pub for_atoms : ℕ → ℕ → (ℕ → Bool) → Bool
for_atoms zero s f = true
for_atoms (suc n) s f = (not (member n s) || f n) && for_atoms n s f

-- "no positive atom's level is above the head's, and every negated atom's level is smaller than the head's"
unfoldable pub access_levels : Rule → Bool
access_levels r =
    for_atoms 64 r.positive (λ a. leb (level a) (level r.head))
    && for_atoms 64 r.negated (λ a. ltb (level a) (level r.head))

-- the tests of a record, in the order of FormerRecordForm
abbrev pub former_record_tests : List Record → Record → List (Bool × ℕ)
former_record_tests before d =
    (eqb d.kind access_kind || (eqb d.kind disclosure_kind || eqb d.kind weight_kind), 3)
    ∷ (by_kind d (access_head d.rule) (credential_head d.rule) (credential_head d.rule), 4)
    ∷ (by_kind d (access_body d.rule) (disclosure_body d.rule) true, 5)
    ∷ (by_kind d (access_levels d.rule) true true, 6)
    ∷ (by_kind d true true (weight_body d.rule), 12)
    ∷ (by_kind d true true (not (weighs d.rule.head before)), 13)
    ∷ []

unfoldable pub former_tests_from : List ℕ → ℕ → ℕ → List (Bool × Refusal)
former_tests_from bytes k zero = []
former_tests_from bytes k (suc n) = at_record k (former_record_tests (records_before bytes k) (record_at bytes k)) ++ former_tests_from bytes (suc k) n

unfoldable pub former_tests : List ℕ → List (Bool × Refusal)
former_tests bytes = length_tests bytes ++ former_tests_from bytes 0 (whole_records bytes)

-- the refusal of a policy, or none where it was accepted
unfoldable pub former_refusal : List ℕ → Option Refusal
former_refusal bytes = first_failed (former_tests bytes)
