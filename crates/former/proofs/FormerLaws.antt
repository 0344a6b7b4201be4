-- The test of then decides the form of then; what that form accepts is accepted now, and what it refuses otherwise than by 6 is refused as before. Assumes
-- nothing.
use mathlib.Core.Path.{◌∙◌, ◌≡◌, refl, subst}
use mathlib.Core.Logic.{◌⊎◌, ◌≢◌, inl, inr}
use mathlib.Core.Bool.{true}
use mathlib.Core.List.{List, ◌++◌}
use Prim.Native.Nat.{◌%◌, ◌+◌, ◌<◌, ◌≤◌, suc, zero, ℕ}
use lib.ListN.{length}
use native.Mathlib.Nat.{eq-or-lt_of_le}
use native.Mathlib.Omega.{arith}
use Rattle.encoding.specs.LittleEndian.{Bytes}
use Rattle.lists.specs.Lists.{Every}
use Rattle.validation.specs.Statements.{AllHold, DecideAll, Decides, FirstBroken}
use Rattle.validation.specs.Tests.{relabelled}
use Rattle.validation.proofs.DecideLaws.{decides_eq, decides_le}
use Rattle.validation.proofs.FirstLaws.{broken_append, broken_relabelled, decide_append, decide_relabelled, first_none, first_some, hold_append, hold_relabelled}
use Rattle.rules.specs.Rules.{Levelled, Stratified}
use Rattle.records.specs.Records.{Record, access_kind, disclosure_kind, record_at, records_before, rules_of, weight_kind, whole_records}
use Rattle.records.specs.Theorems.{Sized}
use Rattle.records.proofs.ReadLaws.{record_sized}
use Rattle.records.proofs.RuleLaws.{every_rule}
use Rattle.form.specs.PolicyTest.{at_record, by_kind, length_tests}
use Rattle.form.specs.WrittenForm.{Lengths, PolicyForm, PolicyRefused, RecordForm, RecordForms, WellFormed, WholeForm, at}
use Rattle.form.proofs.FormLaws.{number_is}
use Rattle.form.proofs.PolicyLaws.{access_head_lem}
use Rattle.form.proofs.RecordLaws.{always, decide_record, decides_kind}
use Rattle.former.specs.FormerForm.{FormerForm, FormerRecordForm, FormerRecordForms, FormerlyRefused, FormerlyWellFormed, LevelsAllowed, level}
use Rattle.former.specs.FormerTest.{access_levels, former_record_tests, former_refusal, former_tests, former_tests_from}
use Rattle.former.specs.Theorems.{FormerlyTested}
use Rattle.former.proofs.LevelLaws.{decides_levels}

-- ---- the test of then

decide_levels : (d : Record) → Sized d → Decides (by_kind d (access_levels d.rule) true true) (LevelsAllowed d)
decide_levels d w = (λ e. (levels.0 e).0, λ l. levels.1 (l, (λ _. tt, λ _. tt)))
  where
    levels : Decides (by_kind d (access_levels d.rule) true true)
        ((d.kind ≡ access_kind → Levelled level d.rule) × ((d.kind ≡ disclosure_kind → Unit {0}) × (d.kind ≡ weight_kind → Unit {0})))
    levels = decides_kind d (access_levels d.rule) true true (decides_levels d.rule w.positive w.negated) always always

decide_former_record : (before : List Record) (d : Record) → Sized d → DecideAll (former_record_tests before d) (FormerRecordForm before d)
decide_former_record before d w = let (a, _, (b, _, (c, _, rest))) = decide_record before d in
    (a, refl, (b, refl, (c, refl, (decide_levels d w, refl, rest))))

module _ (bytes : List ℕ) (b : Bytes bytes) where
  decide_from : (k n : ℕ) → DecideAll (former_tests_from bytes k n) (FormerRecordForms bytes k n)
  unfolding former_tests_from FormerRecordForms
  decide_from k zero = tt
  decide_from k (suc n) =
      let d = record_at bytes k in
      let before = records_before bytes k in
      decide_append (at_record k (former_record_tests before d)) (former_tests_from bytes (suc k) n)
      (relabelled (λ m. at m k) (FormerRecordForm before d)) (FormerRecordForms bytes (suc k) n)
      (decide_relabelled (λ m. at m k) (former_record_tests before d) (FormerRecordForm before d) (decide_former_record before d (record_sized bytes b k)))
      (decide_from (suc k) n)

  decide_former : DecideAll (former_tests bytes) (FormerForm bytes)
  unfolding former_tests FormerForm
  decide_former =
      let n = whole_records bytes in
      decide_append (length_tests bytes) (former_tests_from bytes 0 n) (Lengths bytes) (FormerRecordForms bytes 0 n)
      (decides_le (length bytes) 2304, refl, (decides_eq (length bytes % 18) 0, refl, tt)) (decide_from 0 n)

  pub formerly_tested : FormerlyTested bytes (former_refusal bytes)
  unfolding former_refusal FormerlyWellFormed FormerlyRefused
  formerly_tested = record {
    accepts = first_none (former_tests bytes) (FormerForm bytes) decide_former;
    refuses = first_some (former_tests bytes) (FormerForm bytes) decide_former;
  }

-- ---- what was accepted

module _ (bytes : List ℕ) where
  abbrev then : ℕ → List (Type 0 × ℕ)
  then k = FormerRecordForm (records_before bytes k) (record_at bytes k)

  abbrev today : ℕ → List (Type 0 × ℕ)
  today k = RecordForm (records_before bytes k) (record_at bytes k)

  -- record k and those after it, n in all
  from_hold : (k n : ℕ) → AllHold (FormerRecordForms bytes k n)
      → AllHold (RecordForms bytes k n) × ((j : ℕ) → k ≤ j → j < k + n → LevelsAllowed (record_at bytes j))
  unfolding FormerRecordForms RecordForms
  from_hold k zero h = (tt, λ j l m. absurd (omega arith))
  from_hold k (suc n) h = go ((hold_append (relabelled (λ m. at m k) (then k)) (FormerRecordForms bytes (suc k) n)).0 h) (from_hold (suc k) n)
    where
      each : LevelsAllowed (record_at bytes k) → ((j : ℕ) → suc k ≤ j → j < suc k + n → LevelsAllowed (record_at bytes j))
          → (j : ℕ) → (k ≡ j) ⊎ (k < j) → j < k + suc n → LevelsAllowed (record_at bytes j)
      each l g j (inl e) m = subst (λ (i : ℕ). LevelsAllowed (record_at bytes i)) e l
      each l g j (inr i) m = g j i (omega arith)

      go : AllHold (relabelled (λ m. at m k) (then k)) × AllHold (FormerRecordForms bytes (suc k) n)
          → (AllHold (FormerRecordForms bytes (suc k) n)
          → AllHold (RecordForms bytes (suc k) n) × ((j : ℕ) → suc k ≤ j → j < suc k + n → LevelsAllowed (record_at bytes j)))
          → AllHold (RecordForms bytes k (suc n)) × ((j : ℕ) → k ≤ j → j < k + suc n → LevelsAllowed (record_at bytes j))
      go (x, y) ih =
          let (a, (b, (c, (l, rest)))) = (hold_relabelled (λ m. at m k) (then k)).0 x in
          let (z, g) = ih y in (
            (hold_append (relabelled (λ m. at m k) (today k)) (RecordForms bytes (suc k) n)).1
                ((hold_relabelled (λ m. at m k) (today k)).1 (a, (b, (c, rest))), z),
            λ j i m. each l g j (eq-or-lt_of_le i) m,
          )

  parts : FormerlyWellFormed bytes
      → AllHold (Lengths bytes) × (AllHold (RecordForms bytes 0 (whole_records bytes)) × Every (Levelled level) (rules_of access_kind bytes))
  unfolding FormerlyWellFormed FormerForm
  parts w =
      let (l, h) = (hold_append (Lengths bytes) (FormerRecordForms bytes 0 (whole_records bytes))).0 w in
      let (r, g) = from_hold 0 (whole_records bytes) h in
      (l, (r, (every_rule access_kind bytes (Levelled level)).1 (λ j i e. g j (omega arith) (omega arith) e)))

  -- it is accepted now, since its levels by number are a choice of levels
  pub still_accepted : FormerlyWellFormed bytes → WellFormed bytes
  unfolding WellFormed PolicyForm
  still_accepted w =
      let (l, (r, g)) = parts w in
      let n = whole_records bytes in
      (hold_append (Lengths bytes) (RecordForms bytes 0 n ++ WholeForm bytes)).1
      (l, (hold_append (RecordForms bytes 0 n) (WholeForm bytes)).1 (r, (record { lev = level; levels = g }, tt)))

  pub by_level : FormerlyWellFormed bytes → Every (Levelled level) (rules_of access_kind bytes)
  by_level w = (parts w).1.1

  -- ---- what was refused, but not by 6

  -- the statement beside 6 is left out
  without_6 : (k m : ℕ) → m ≢ 6 → FirstBroken (then k) m → FirstBroken (today k) m
  without_6 k m n (inl x) = inl x
  without_6 k m n (inr (a, inl x)) = inr (a, inl x)
  without_6 k m n (inr (a, inr (b, inl x))) = inr (a, inr (b, inl x))
  without_6 k m n (inr (a, inr (b, inr (c, inl (_, e))))) = absurd (n e)
  without_6 k m n (inr (a, inr (b, inr (c, inr (_, x))))) = inr (a, inr (b, inr (c, x)))

  from_broken : (m p : ℕ) → m ≢ 6 → (k n : ℕ) → FirstBroken (FormerRecordForms bytes k n) (at m p) → FirstBroken (RecordForms bytes k n) (at m p)
  unfolding FormerRecordForms RecordForms
  from_broken m p ne k zero x = absurd x
  from_broken m p ne k (suc n) x =
      go ((broken_append (relabelled (λ m. at m k) (then k)) (FormerRecordForms bytes (suc k) n) (at m p)).0 x) (from_broken m p ne (suc k) n)
    where
      go : FirstBroken (relabelled (λ m. at m k) (then k)) (at m p)
          ⊎ (AllHold (relabelled (λ m. at m k) (then k)) × FirstBroken (FormerRecordForms bytes (suc k) n) (at m p))
          → (FirstBroken (FormerRecordForms bytes (suc k) n) (at m p) → FirstBroken (RecordForms bytes (suc k) n) (at m p))
          → FirstBroken (RecordForms bytes k (suc n)) (at m p)
      go (inl y) ih =
          let (a, (z, e)) = (broken_relabelled (λ m. at m k) (then k) (at m p)).0 y in
          (broken_append (relabelled (λ m. at m k) (today k)) (RecordForms bytes (suc k) n) (at m p)).1
          (inl ((broken_relabelled (λ m. at m k) (today k) (at m p)).1 (a, (without_6 k a (λ i. ne (number_is e ∙ i)) z, e))))
      go (inr (h, y)) ih =
          let (a, (b, (c, (_, rest)))) = (hold_relabelled (λ m. at m k) (then k)).0 h in
          (broken_append (relabelled (λ m. at m k) (today k)) (RecordForms bytes (suc k) n) (at m p)).1
          (inr ((hold_relabelled (λ m. at m k) (today k)).1 (a, (b, (c, rest))), ih y))

  pub still_refused : (m p : ℕ) → m ≢ 6 → FormerlyRefused bytes (at m p) → PolicyRefused bytes (at m p)
  unfolding FormerlyRefused FormerForm PolicyRefused PolicyForm
  still_refused m p ne x = go ((broken_append (Lengths bytes) (FormerRecordForms bytes 0 (whole_records bytes)) (at m p)).0 x)
    where
      n : ℕ
      n = whole_records bytes

      go : FirstBroken (Lengths bytes) (at m p) ⊎ (AllHold (Lengths bytes) × FirstBroken (FormerRecordForms bytes 0 (whole_records bytes)) (at m p))
          → FirstBroken (PolicyForm bytes) (at m p)
      go (inl y) = (broken_append (Lengths bytes) (RecordForms bytes 0 n ++ WholeForm bytes) (at m p)).1 (inl y)
      go (inr (h, y)) =
          (broken_append (Lengths bytes) (RecordForms bytes 0 n ++ WholeForm bytes) (at m p)).1
          (inr (h, (broken_append (RecordForms bytes 0 n) (WholeForm bytes) (at m p)).1 (inl (from_broken m p ne 0 n y))))

-- ---- the access rules of a policy that was accepted

pub by_number-stratified : (bytes : List ℕ) → Bytes bytes → FormerlyWellFormed bytes → Every (Stratified level) (rules_of access_kind bytes)
by_number-stratified bytes b w = (every_rule access_kind bytes (Stratified level)).1 (λ j l e. record {
  levelled = (every_rule access_kind bytes (Levelled level)).0 (by_level bytes w) j l e;
  headed = (access_head_lem bytes (still_accepted bytes w) j l e).1;
  sized = (record_sized bytes b j).negated;
})
