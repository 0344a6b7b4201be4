-- The tests that a record of each kind takes. Assumes nothing.
use mathlib.Core.Path.{◌≡◌}
use mathlib.Core.Bool.{not}
use mathlib.Core.List.{List, [], ◌∷◌}
use mathlib.Core.Option.{some}
use Prim.Native.Nat.{ℕ}
use borrow.Author.Tests.{ne_eqb}
use Rattle.validation.specs.Tests.{first_failed, relabelled}
use Rattle.records.specs.Records.{Record, access_kind, disclosure_kind, weight_kind}
use Rattle.form.specs.PolicyTest.{access_body, access_head, at_record, credential_head, disclosure_body, record_tests, weighs, weight_body}
use Rattle.form.specs.WrittenForm.{at}

module _ (before : List Record) (d : Record) (k : ℕ) where
  pub access_refusal : d.kind ≡ access_kind → first_failed (at_record k (record_tests before d))
      ≡ first_failed (at_record k ((access_head d.rule, 4) ∷ (access_body d.rule, 5) ∷ []))
  unfolding first_failed relabelled
  access_refusal e = rw e

  pub disclosure_refusal : d.kind ≡ disclosure_kind → first_failed (at_record k (record_tests before d))
      ≡ first_failed (at_record k ((credential_head d.rule, 4) ∷ (disclosure_body d.rule, 5) ∷ []))
  unfolding first_failed relabelled
  disclosure_refusal e = rw e

  pub weight_refusal : d.kind ≡ weight_kind → first_failed (at_record k (record_tests before d))
      ≡ first_failed (at_record k ((credential_head d.rule, 4) ∷ (weight_body d.rule, 12) ∷ (not (weighs d.rule.head before), 13) ∷ []))
  unfolding first_failed relabelled
  weight_refusal e = rw e

  pub other_refusal : (d.kind ≡ access_kind → ⊥) → (d.kind ≡ disclosure_kind → ⊥) → (d.kind ≡ weight_kind → ⊥)
      → first_failed (at_record k (record_tests before d)) ≡ some (at 3 k)
  unfolding first_failed relabelled
  other_refusal m n o = simp (ne_eqb d.kind access_kind m, ne_eqb d.kind disclosure_kind n, ne_eqb d.kind weight_kind o)
