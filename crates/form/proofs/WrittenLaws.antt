-- The written form of a policy, by its parts. Assumes nothing.
use mathlib.Core.Path.{◌≡◌, subst}
use mathlib.Core.Logic.{◌↔◌, ◌⊎◌, inl, inr}
use mathlib.Core.List.{List, ◌++◌}
use Prim.Native.Nat.{◌+◌, ◌<◌, ◌≤◌, suc, zero, ℕ}
use native.Mathlib.Nat.{eq-or-lt_of_le}
use native.Mathlib.Omega.{arith}
use Rattle.validation.specs.Statements.{AllHold}
use Rattle.validation.proofs.FirstLaws.{hold_append, hold_relabelled}
use Rattle.records.specs.Records.{whole_records}
use Rattle.form.specs.Theorems.{Written}
use Rattle.form.specs.WrittenForm.{Lengths, PolicyForm, RecordForms, WellFormed, WholeForm, at}
use Rattle.form.proofs.FormLaws.{FormAt, form_iff, labelled}

module _ (bytes : List ℕ) where
  -- record k and those after it, n in all
  pub from_hold : (k n : ℕ) → AllHold (RecordForms bytes k n) ↔ ((j : ℕ) → k ≤ j → j < k + n → AllHold (FormAt bytes j))
  unfolding RecordForms
  from_hold k zero = (λ h j l m. absurd (omega arith), λ f. tt)
  from_hold k (suc n) = go (from_hold (suc k) n)
    where
      go : AllHold (RecordForms bytes (suc k) n) ↔ ((j : ℕ) → suc k ≤ j → j < suc k + n → AllHold (FormAt bytes j))
          → AllHold (RecordForms bytes k (suc n)) ↔ ((j : ℕ) → k ≤ j → j < k + suc n → AllHold (FormAt bytes j))
      go ih = (
        λ h j l m. forth (both.0 h) j (eq-or-lt_of_le l) m,
        λ f. both.1 (here.1 (f k (omega arith) (omega arith)), ih.1 (λ j l m. f j (omega arith) (omega arith))),
      )
        where
          both : AllHold (RecordForms bytes k (suc n)) ↔ (AllHold (labelled bytes k) × AllHold (RecordForms bytes (suc k) n))
          both = hold_append (labelled bytes k) (RecordForms bytes (suc k) n)

          here : AllHold (labelled bytes k) ↔ AllHold (FormAt bytes k)
          here = hold_relabelled (λ m. at m k) (FormAt bytes k)

          forth : AllHold (labelled bytes k) × AllHold (RecordForms bytes (suc k) n) → (j : ℕ) → (k ≡ j) ⊎ (k < j) → j < k + suc n
              → AllHold (FormAt bytes j)
          forth h j (inl e) m = subst (λ (i : ℕ). AllHold (FormAt bytes i)) e (here.0 h.0)
          forth h j (inr l) m = ih.0 h.1 j l (omega arith)

  -- the written form, by its parts
  pub written_iff : WellFormed bytes ↔ Written bytes
  unfolding WellFormed PolicyForm
  written_iff = (forth, back)
    where
      lengths : AllHold (PolicyForm bytes) ↔ (AllHold (Lengths bytes) × AllHold (RecordForms bytes 0 (whole_records bytes) ++ WholeForm bytes))
      lengths = hold_append (Lengths bytes) (RecordForms bytes 0 (whole_records bytes) ++ WholeForm bytes)

      records : AllHold (RecordForms bytes 0 (whole_records bytes) ++ WholeForm bytes)
          ↔ (AllHold (RecordForms bytes 0 (whole_records bytes)) × AllHold (WholeForm bytes))
      records = hold_append (RecordForms bytes 0 (whole_records bytes)) (WholeForm bytes)

      forth : AllHold (PolicyForm bytes) → Written bytes
      forth w =
          let h = lengths.0 w in
          let f = (from_hold 0 (whole_records bytes)).0 (records.0 h.1).0 in
          record {
            longest = h.0.0;
            whole = h.0.1.0;
            records = λ k l. ((form_iff bytes k).0 (f k (omega arith) (omega arith))).0;
            weighed_once = λ j k i l. ((form_iff bytes k).0 (f k (omega arith) (omega arith))).1 j i;
            levels = (records.0 h.1).1.0;
          }

      back : Written bytes → AllHold (PolicyForm bytes)
      back w = lengths.1 (
        (w.longest, (w.whole, tt)),
        records.1 (
          (from_hold 0 (whole_records bytes)).1 (λ k _ l. (form_iff bytes k).1 (w.records k (omega arith), λ j i. w.weighed_once j k i (omega arith))),
          (w.levels, tt),
        ),
      )
