-- What the loop over the records needs: one record at a time, what is left, and the policy's test from its parts. Assumes nothing.
use mathlib.Core.Path.{◌∙◌, ◌≡◌, ap, refl, sym}
use mathlib.Core.Bool.{cond}
use mathlib.Core.List.{List}
use mathlib.Core.Option.{Option, none, or_else, some}
use Prim.Native.Nat.{◌%◌, ◌+◌, ◌-◌, ◌<◌, ◌≤◌, suc, ℕ}
use lib.Dec.{eqb, leb}
use lib.ListN.{length}
use borrow.Author.Tests.{eq-eqb, le-leb, lt-leb, ne_eqb}
use native.Mathlib.Numerals.{add-one}
use native.Mathlib.Omega.{arith}
use Rattle.validation.specs.Tests.{first_failed}
use Rattle.validation.proofs.FirstLaws.{first_append}
use Rattle.records.specs.Records.{Record, record_at, records_from, whole_records}
use Rattle.levels.specs.Levels.{AccessHeads}
use Rattle.form.specs.PolicyTest.{AnswersRecord, Weighed, at_record, policy_refusal, policy_tests, record_tests, tests_at, tests_from, whole_tests}
use Rattle.form.specs.WrittenForm.{Refusal, at}
use Rattle.form.proofs.PolicyLaws.{passed_head}

-- the answer for record k, where the set has the credentials that the records before it weigh
pub answered : (bytes : List ℕ) (k s : ℕ) (d : Record) (o : Option Refusal) → AnswersRecord s d k o → Weighed (records_from bytes 0 k) s → d ≡ record_at bytes k
    → o ≡ first_failed (tests_at bytes k)
answered bytes k s d o a w e = a (records_from bytes 0 k) w ∙ ap (λ (r : Record). first_failed (at_record k (record_tests (records_from bytes 0 k) r))) e

module _ (bytes : List ℕ) (k n : ℕ) (l : k < n) where
  records_next : first_failed (tests_from bytes k (n - k))
      ≡ or_else (first_failed (tests_at bytes k)) (first_failed (tests_from bytes (k + 1) (n - (k + 1))))
  unfolding tests_from
  records_next =
      let e : n - k ≡ suc (n - (k + 1)) = omega arith in
      ap (λ (m : ℕ). first_failed (tests_from bytes k m)) e
      ∙ first_append (tests_at bytes k) (tests_from bytes (suc k) (n - (k + 1)))
      ∙ rw (add-one k)

  -- the record is accepted: go on
  pub records_accepted : none ≡ first_failed (tests_at bytes k)
      → first_failed (tests_from bytes k (n - k)) ≡ first_failed (tests_from bytes (k + 1) (n - (k + 1)))
  unfolding or_else
  records_accepted e = records_next ∙ ap (λ (o : Option Refusal). or_else o (first_failed (tests_from bytes (k + 1) (n - (k + 1))))) (sym e)

  -- the record is refused: stop
  pub records_refused : (f : Refusal) → some f ≡ first_failed (tests_at bytes k) → some f ≡ first_failed (tests_from bytes k (n - k))
  unfolding or_else
  records_refused f e = sym (records_next ∙ ap (λ (o : Option Refusal). or_else o (first_failed (tests_from bytes (k + 1) (n - (k + 1))))) (sym e))

-- no record is left
pub records_done : (bytes : List ℕ) (k n : ℕ) → n ≤ k → none ≡ first_failed (tests_from bytes k (n - k))
unfolding tests_from first_failed
records_done bytes k n l = let e : n - k ≡ 0 = omega arith in ap (λ (m : ℕ). first_failed (tests_from bytes k m)) (sym e)

-- the lengths, the records, and then the policy as a whole
pub refusal_parts : (bytes : List ℕ) → policy_refusal bytes
    ≡ cond (leb (length bytes) 2304)
    (cond (eqb (length bytes % 18) 0) (or_else (first_failed (tests_from bytes 0 (whole_records bytes))) (first_failed (whole_tests bytes))) (some (at 2 (whole_records bytes))))
    (some (at 1 128))
unfolding policy_refusal policy_tests first_failed
refusal_parts bytes = rw (first_append (tests_from bytes 0 (whole_records bytes)) (whole_tests bytes)) refl

module _ (bytes : List ℕ) where
  pub too_long : 2304 < length bytes → some (at 1 128) ≡ policy_refusal bytes
  too_long l = sym (simp (refusal_parts, lt-leb _ 2304 l))

  pub not_whole : length bytes ≤ 2304 → (length bytes % 18 ≡ 0 → ⊥) → some (at 2 (whole_records bytes)) ≡ policy_refusal bytes
  not_whole l n = sym (simp (refusal_parts, le-leb _ 2304 l, ne_eqb _ 0 n))

  -- of a policy with the right length: a record's refusal, or else what the last test gives
  module _ (l : length bytes ≤ 2304) (e : length bytes % 18 ≡ 0) where
    by_records : policy_refusal bytes ≡ or_else (first_failed (tests_from bytes 0 (whole_records bytes))) (first_failed (whole_tests bytes))
    by_records = simp (refusal_parts, le-leb _ 2304 l, eq-eqb _ 0 e)

    pub by_record : (f : Refusal) → some f ≡ first_failed (tests_from bytes 0 (whole_records bytes)) → some f ≡ policy_refusal bytes
    unfolding or_else
    by_record f r = sym (by_records ∙ ap (λ (o : Option Refusal). or_else o (first_failed (whole_tests bytes))) (sym r))

    pub by_levels : (o : Option Refusal) → none ≡ first_failed (tests_from bytes 0 (whole_records bytes)) → o ≡ first_failed (whole_tests bytes)
        → o ≡ policy_refusal bytes
    unfolding or_else
    by_levels o r w = w ∙ sym (by_records ∙ ap (λ (p : Option Refusal). or_else p (first_failed (whole_tests bytes))) (sym r))

-- ---- an access record that passes has an atom for its head

pub access_heads : (bytes : List ℕ) → none ≡ first_failed (tests_from bytes 0 (whole_records bytes)) → AccessHeads bytes
access_heads bytes e j l k = (passed_head bytes (sym e) j (omega arith) k).1
