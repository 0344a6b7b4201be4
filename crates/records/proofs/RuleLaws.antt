-- A policy's rules of one kind are those of all its records of that kind, and no others. Assumes nothing.
use mathlib.Core.Path.{◌∙◌, ◌≡◌, refl, subst, sym}
use mathlib.Core.Logic.{◌↔◌, ◌⊎◌, inl, inr}
use mathlib.Core.Bool.{Bool, cond, false, true, true≢false}
use mathlib.Core.List.{List, [], ◌∷◌}
use Prim.Native.Nat.{◌*◌, ◌+◌, ◌<◌, ◌≤◌, suc, zero, ℕ}
use lib.ListN.{length}
use lib.Dec.{eqb}
use native.Mathlib.Nat.{eq-or-lt_of_le}
use native.Mathlib.Omega.{arith}
use Rattle.lists.specs.Lists.{Every}
use Rattle.validation.proofs.TestLaws.{eqb_true, true_eqb}
use Rattle.rules.specs.Rules.{Rule}
use Rattle.records.specs.Records.{Record, of_kind, record_at, records_before, records_from, records_of, rules_of, whole_records}

-- what holds of each record holds of the record at each place
every_record : (P : Record → Type 0) (bytes : List ℕ) (k n : ℕ)
    → Every P (records_from bytes k n) ↔ ((j : ℕ) → k ≤ j → j < k + n → P (record_at bytes j))
unfolding records_from
every_record P bytes k zero = (λ h j l m. absurd (omega arith), λ f. tt)
every_record P bytes k (suc n) = go (every_record P bytes (suc k) n)
  where
    go : Every P (records_from bytes (suc k) n) ↔ ((j : ℕ) → suc k ≤ j → j < suc k + n → P (record_at bytes j))
        → (P (record_at bytes k) × Every P (records_from bytes (suc k) n)) ↔ ((j : ℕ) → k ≤ j → j < k + suc n → P (record_at bytes j))
    go ih = (
      λ h j l m. forth h j (eq-or-lt_of_le l) m,
      λ f. (f k (omega arith) (omega arith), ih.1 (λ j l m. f j (omega arith) (omega arith))),
    )
      where
        forth : P (record_at bytes k) × Every P (records_from bytes (suc k) n) → (j : ℕ) → (k ≡ j) ⊎ (k < j) → j < k + suc n → P (record_at bytes j)
        forth h j (inl e) m = subst (λ (i : ℕ). P (record_at bytes i)) e h.0
        forth h j (inr l) m = ih.0 h.1 j l (omega arith)

every_kind : (P : Rule → Type 0) (k : ℕ) (ds : List Record) → Every P (of_kind k ds) ↔ Every (λ d. d.kind ≡ k → P d.rule) ds
unfolding of_kind
every_kind P k [] = (λ h. tt, λ h. tt)
every_kind P k (d ∷ ds) = go (eqb d.kind k) refl (every_kind P k ds)
  where
    go : (b : Bool) → eqb d.kind k ≡ b → Every P (of_kind k ds) ↔ Every (λ d. d.kind ≡ k → P d.rule) ds
        → Every P (cond b (d.rule ∷ of_kind k ds) (of_kind k ds)) ↔ ((d.kind ≡ k → P d.rule) × Every (λ d. d.kind ≡ k → P d.rule) ds)
    go true e ih = (λ h. (λ _. h.0, ih.0 h.1), λ h. (h.0 (eqb_true d.kind k e), ih.1 h.1))
    go false e ih = (λ h. (λ f. absurd (true≢false (sym (true_eqb f) ∙ e)), ih.0 h), λ h. ih.1 h.1)

pub every_rule : (k : ℕ) (bytes : List ℕ) (P : Rule → Type 0)
    → Every P (rules_of k bytes) ↔ ((j : ℕ) → j < whole_records bytes → (record_at bytes j).kind ≡ k → P (record_at bytes j).rule)
unfolding rules_of records_of
every_rule k bytes P =
    let i = every_kind P k (records_of bytes) in
    let r = every_record (λ d. d.kind ≡ k → P d.rule) bytes 0 (whole_records bytes) in
    (λ h j l. r.0 (i.0 h) j (omega arith) (omega arith), λ f. i.1 (r.1 (λ j _ l. f j (omega arith))))

-- how many whole records there are, by bounds
pub whole_records_lem : (bytes : List ℕ) (k : ℕ) → (whole_records bytes ≡ k) ↔ ((18 * k ≤ length bytes) × (length bytes < 18 * k + 18))
whole_records_lem bytes k = (λ e. (omega (arith, e), omega (arith, e)), λ h. omega (arith, h.0, h.1))

-- a record is there where its last byte is
pub every_whole : (k : ℕ) (bytes : List ℕ) (P : Rule → Type 0)
    → Every P (rules_of k bytes) ↔ ((j : ℕ) → 18 * j + 18 ≤ length bytes → (record_at bytes j).kind ≡ k → P (record_at bytes j).rule)
every_whole k bytes P =
    let i = every_rule k bytes P in
    let w = (whole_records_lem bytes (whole_records bytes)).0 refl in
    (λ h j l. i.0 h j (omega (arith, w.0, w.1)), λ f. i.1 (λ j l. f j (omega (arith, w.0, w.1))))

pub every_before : (bytes : List ℕ) (k : ℕ) (P : Record → Type 0) → Every P (records_before bytes k) ↔ ((j : ℕ) → j < k → P (record_at bytes j))
every_before bytes k P = let i = every_record P bytes 0 k in (λ h j l. i.0 h j (omega arith) (omega arith), λ f. i.1 (λ j _ l. f j (omega arith)))
