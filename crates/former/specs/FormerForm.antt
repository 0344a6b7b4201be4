-- Document 01, "Atoms and records" and "Who can be turned back", and document 02, R-2: the written form of a policy as it was before R-4, when an atom's
-- level went by its number and each record was held to 6. It is kept for what R-4 says of policies accepted before (specs/Theorems). Assumes nothing.
use Rattle.std.specs.Prelude.{◌≡◌, cond, List, [], ◌++◌, ◌∷◌, ◌/◌, suc, zero, ℕ, eqb}
use Rattle.validation.specs.Statements.{AllHold, FirstBroken}
use Rattle.validation.specs.Tests.{relabelled}
use Rattle.atoms.specs.Atoms.{violation}
use Rattle.rules.specs.Rules.{Levelled}
use Rattle.records.specs.Records.{Record, access_kind, record_at, records_before, whole_records}
use Rattle.form.specs.WrittenForm.{BodyAllowed, FirstWeight, HeadAllowed, KindAllowed, Lengths, Refusal, WeightAllowed, at}

-- "The level of atoms 0 to 62 is the number divided by 8, rounded down; of 63 it is 8."
abbrev pub level : ℕ → ℕ
level a = cond (eqb a violation) 8 (a / 8)

-- "In an access rule no positive atom's level is above the head's, and every negated atom's level is smaller than the head's."
abbrev pub LevelsAllowed : Record → Type 0
LevelsAllowed d = d.kind ≡ access_kind → Levelled level d.rule

-- what a record was held to: as it is now (form's specs/WrittenForm), and between 5 and 12 "6: level broken."
abbrev pub FormerRecordForm : List Record → Record → List (Type 0 × ℕ)
FormerRecordForm before d =
    (KindAllowed d, 3)
    ∷ (HeadAllowed d, 4)
    ∷ (BodyAllowed d, 5)
    ∷ (LevelsAllowed d, 6)
    ∷ (WeightAllowed d, 12)
    ∷ (FirstWeight before d, 13)
    ∷ []

-- "records are tested in turn, each by 3 to 6", 12 and 13: record k and those after it, n in all
unfoldable pub FormerRecordForms : List ℕ → ℕ → ℕ → List (Type 0 × Refusal)
FormerRecordForms bytes k zero = []
FormerRecordForms bytes k (suc n) =
    relabelled (λ m. at m k) (FormerRecordForm (records_before bytes k) (record_at bytes k)) ++ FormerRecordForms bytes (suc k) n

-- "so a 6 at record 0 comes before a 3 at record 1"; nothing was asked of the policy as a whole
unfoldable pub FormerForm : List ℕ → List (Type 0 × Refusal)
FormerForm bytes = Lengths bytes ++ FormerRecordForms bytes 0 (whole_records bytes)

unfoldable pub FormerlyWellFormed : List ℕ → Type 0
FormerlyWellFormed bytes = AllHold (FormerForm bytes)

unfoldable pub FormerlyRefused : List ℕ → Refusal → Type 0
FormerlyRefused bytes f = FirstBroken (FormerForm bytes) f
