-- Which record of a policy is the first at fault, or whether the policy as a whole is. Assumes nothing.
use mathlib.Core.Path.{◌≡◌, ap, subst, sym}
use mathlib.Core.Logic.{◌↔◌, ◌⊎◌, inl, inr}
use mathlib.Core.List.{List, ◌++◌}
use Prim.Native.Nat.{◌+◌, ◌<◌, ◌≤◌, suc, zero, ℕ}
use native.Mathlib.Nat.{eq-or-lt_of_le}
use native.Mathlib.Omega.{arith}
use Rattle.validation.specs.Statements.{AllHold, FirstBroken}
use Rattle.validation.specs.Tests.{relabelled}
use Rattle.validation.proofs.FirstLaws.{broken_append, broken_relabelled, hold_relabelled}
use Rattle.records.specs.Records.{Record, record_at, records_from, whole_records}
use Rattle.form.specs.Theorems.{RecordAllowed, SecondWeight}
use Rattle.form.specs.WrittenForm.{FirstWeight, Lengths, PolicyForm, PolicyRefused, RecordForm, RecordForms, Refusal, WholeForm, at}
use Rattle.form.proofs.WeightLaws.{first_iff}

pub number_is : {n k m j : ℕ} → at n k ≡ at m j → n ≡ m
number_is e = cc

pub place_is : {n k m j : ℕ} → at n k ≡ at m j → k ≡ j
place_is e = cc

-- ---- one record

allowed_iff : (before : List Record) (d : Record) → AllHold (RecordForm before d) ↔ (RecordAllowed d × FirstWeight before d)
allowed_iff before d = (λ h. search h, λ h. search h)

module _ (bytes : List ℕ) where
  abbrev pub FormAt : ℕ → List (Type 0 × ℕ)
  FormAt k = RecordForm (records_from bytes 0 k) (record_at bytes k)

  abbrev pub labelled : ℕ → List (Type 0 × Refusal)
  labelled k = relabelled (λ m. at m k) (FormAt k)

  -- record k is allowed, and gives no second weight
  pub form_iff : (k : ℕ) → AllHold (FormAt k) ↔ (RecordAllowed (record_at bytes k) × ((j : ℕ) → j < k → SecondWeight bytes j k → ⊥))
  form_iff k =
      let i = allowed_iff (records_from bytes 0 k) (record_at bytes k) in
      let f = first_iff bytes k in
      (λ h. let (r, x) = i.0 h in (r, f.0 x), λ (r, x). i.1 (r, f.1 x))

  -- ---- record k and those after it, n in all

  -- record p is the first of them that breaks its form, and m the first number that it breaks
  pub record FirstFrom (k n m p : ℕ) : Type 0 where
    pub from : k ≤ p
    pub inside : p < k + n
    pub before : (j : ℕ) → k ≤ j → j < p → AllHold (FormAt j)
    pub broken : FirstBroken (FormAt p) m

  first_here : (k n m p : ℕ) → FirstBroken (labelled k) (at m p) → FirstFrom k (suc n) m p
  first_here k n m p x =
      let (a, (y, e)) = (broken_relabelled (λ m. at m k) (FormAt k) (at m p)).0 x in
      let i : p ≡ k = place_is e in
      record {
        from = omega arith;
        inside = omega arith;
        before = λ j l g. absurd (omega arith);
        broken = subst (λ (q : ℕ). FirstBroken (FormAt q) m) (sym i) (subst (FirstBroken (FormAt k)) (sym (number_is e)) y);
      }

  first_later : (k n m p : ℕ) → AllHold (FormAt k) → FirstFrom (suc k) n m p → FirstFrom k (suc n) m p
  first_later k n m p h x = record {
    from = omega (arith, x.from);
    inside = omega (arith, x.inside);
    before = λ j l i. before j (eq-or-lt_of_le l) i;
    broken = x.broken;
  }
    where
      before : (j : ℕ) → (k ≡ j) ⊎ (k < j) → j < p → AllHold (FormAt j)
      before j (inl e) i = subst (λ (q : ℕ). AllHold (FormAt q)) e h
      before j (inr l) i = x.before j l i

  first_cases : (k n m p : ℕ) → FirstFrom k (suc n) m p → FirstBroken (labelled k) (at m p) ⊎ (AllHold (labelled k) × FirstFrom (suc k) n m p)
  first_cases k n m p x = go (eq-or-lt_of_le x.from)
    where
      go : (k ≡ p) ⊎ (k < p) → FirstBroken (labelled k) (at m p) ⊎ (AllHold (labelled k) × FirstFrom (suc k) n m p)
      go (inl e) =
          inl ((broken_relabelled (λ m. at m k) (FormAt k) (at m p)).1
          (m, (subst (λ (q : ℕ). FirstBroken (FormAt q) m) (sym e) x.broken, ap (at m) (sym e))))
      go (inr l) = inr (
        (hold_relabelled (λ m. at m k) (FormAt k)).1 (x.before k (omega arith) l),
        record { from = l; inside = omega (arith, x.inside); before = λ j i. x.before j (omega arith); broken = x.broken },
      )

  from_broken : (m p k n : ℕ) → FirstBroken (RecordForms bytes k n) (at m p) ↔ FirstFrom k n m p
  unfolding RecordForms
  from_broken m p k zero = (λ x. absurd x, λ x. absurd (omega (arith, x.from, x.inside)))
  from_broken m p k (suc n) = go (from_broken m p (suc k) n)
    where
      go : FirstBroken (RecordForms bytes (suc k) n) (at m p) ↔ FirstFrom (suc k) n m p → FirstBroken (RecordForms bytes k (suc n)) (at m p) ↔ FirstFrom k (suc n) m p
      go ih = (λ x. forth (cases.0 x), λ x. cases.1 (back (first_cases k n m p x)))
        where
          cases : FirstBroken (RecordForms bytes k (suc n)) (at m p)
              ↔ (FirstBroken (labelled k) (at m p) ⊎ (AllHold (labelled k) × FirstBroken (RecordForms bytes (suc k) n) (at m p)))
          cases = broken_append (labelled k) (RecordForms bytes (suc k) n) (at m p)

          forth : FirstBroken (labelled k) (at m p) ⊎ (AllHold (labelled k) × FirstBroken (RecordForms bytes (suc k) n) (at m p)) → FirstFrom k (suc n) m p
          forth (inl x) = first_here k n m p x
          forth (inr (h, x)) = first_later k n m p ((hold_relabelled (λ m. at m k) (FormAt k)).0 h) (ih.0 x)

          back : FirstBroken (labelled k) (at m p) ⊎ (AllHold (labelled k) × FirstFrom (suc k) n m p)
              → FirstBroken (labelled k) (at m p) ⊎ (AllHold (labelled k) × FirstBroken (RecordForms bytes (suc k) n) (at m p))
          back (inl x) = inl x
          back (inr (h, x)) = inr (h, ih.1 x)

  -- ---- the policy

  abbrev all : List (Type 0 × Refusal)
  all = RecordForms bytes 0 (whole_records bytes)

  -- where the lengths are right: a record is the first at fault, or none is, and the policy as a whole
  abbrev pub AfterLengths : ℕ → ℕ → Type 0
  AfterLengths m p = FirstFrom 0 (whole_records bytes) m p ⊎ (AllHold (RecordForms bytes 0 (whole_records bytes)) × FirstBroken (WholeForm bytes) (at m p))

  pub refused_iff : (m p : ℕ)
      → PolicyRefused bytes (at m p) ↔ (FirstBroken (Lengths bytes) (at m p) ⊎ (AllHold (Lengths bytes) × AfterLengths m p))
  unfolding PolicyRefused PolicyForm
  refused_iff m p = (λ x. forth (lengths.0 x), λ x. lengths.1 (back x))
    where
      lengths : FirstBroken (PolicyForm bytes) (at m p)
          ↔ (FirstBroken (Lengths bytes) (at m p) ⊎ (AllHold (Lengths bytes) × FirstBroken (RecordForms bytes 0 (whole_records bytes) ++ WholeForm bytes) (at m p)))
      lengths = broken_append (Lengths bytes) (RecordForms bytes 0 (whole_records bytes) ++ WholeForm bytes) (at m p)

      records : FirstBroken (RecordForms bytes 0 (whole_records bytes) ++ WholeForm bytes) (at m p)
          ↔ (FirstBroken all (at m p) ⊎ (AllHold all × FirstBroken (WholeForm bytes) (at m p)))
      records = broken_append all (WholeForm bytes) (at m p)

      there : FirstBroken all (at m p) ⊎ (AllHold all × FirstBroken (WholeForm bytes) (at m p)) → AfterLengths m p
      there (inl x) = inl ((from_broken m p 0 (whole_records bytes)).0 x)
      there (inr x) = inr x

      from : AfterLengths m p → FirstBroken all (at m p) ⊎ (AllHold all × FirstBroken (WholeForm bytes) (at m p))
      from (inl x) = inl ((from_broken m p 0 (whole_records bytes)).1 x)
      from (inr x) = inr x

      forth : FirstBroken (Lengths bytes) (at m p) ⊎ (AllHold (Lengths bytes) × FirstBroken (RecordForms bytes 0 (whole_records bytes) ++ WholeForm bytes) (at m p))
          → FirstBroken (Lengths bytes) (at m p) ⊎ (AllHold (Lengths bytes) × AfterLengths m p)
      forth (inl x) = inl x
      forth (inr (h, x)) = inr (h, there (records.0 x))

      back : FirstBroken (Lengths bytes) (at m p) ⊎ (AllHold (Lengths bytes) × AfterLengths m p)
          → FirstBroken (Lengths bytes) (at m p) ⊎ (AllHold (Lengths bytes) × FirstBroken (RecordForms bytes 0 (whole_records bytes) ++ WholeForm bytes) (at m p))
      back (inl x) = inl x
      back (inr (h, x)) = inr (h, records.1 (from x))
