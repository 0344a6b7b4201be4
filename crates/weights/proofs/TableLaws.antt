-- A table of weights, record by record. Assumes nothing.
use mathlib.Core.Path.{◌∙◌, ◌≡◌, ap, refl, subst, sym}
use mathlib.Core.Logic.{◌≢◌}
use mathlib.Core.Bool.{Bool, cond, false, true, true≢false}
use mathlib.Core.List.{List, [], ◌∷◌}
use Prim.Native.Nat.{◌*◌, ◌-◌, ◌<◌, ◌≤◌, suc, ℕ}
use lib.Dec.{eqb}
use lib.ListN.{drop, get_or, get_or-replicate, length, length-set, replicate, set}
use lib.Seq.{get_or-drop, get_or-set_other, get_or-set_same, get_or-take}
use borrow.Author.Tests.{ne_eqb}
use native.Mathlib.Omega.{arith}
use Rattle.validation.proofs.TestLaws.{eqb_true, true_eqb}
use Rattle.atoms.specs.Atoms.{last_credential}
use Rattle.rules.specs.Weights.{WeightTable, weight_among}
use Rattle.records.specs.Policies.{policy_of}
use Rattle.records.specs.Records.{Record, of_kind, read_record, record_at, records_from, records_of, rules_of, weight_kind, whole_records}
use Rattle.form.specs.WrittenForm.{WellFormed}
use Rattle.form.proofs.PolicyLaws.{weight_record}

-- ws has at place k what the records give credential k
abbrev Table : List Record → List ℕ → Type 0
Table ds ws = (k : ℕ) → k ≤ last_credential → get_or ws k 0 ≡ weight_among (of_kind weight_kind ds) k

-- no record: each weighs 1
table_start : Table [] (replicate 16 1)
unfolding weight_among of_kind
table_start k l = get_or-replicate 16 k 1 0 (omega arith)

-- the kind of record k is its first byte
pub kind_byte : (bytes : List ℕ) (k : ℕ) → (record_at bytes k).kind ≡ get_or bytes (18 * k) 0
unfolding read_record
kind_byte bytes k =
    get_or-take 18 (drop (18 * k) bytes) 0 0 (omega arith) ∙ get_or-drop (18 * k) bytes 0 0 ∙ ap (λ (i : ℕ). get_or bytes i 0) (omega arith)

-- a record whose first byte says a weight names a credential, and has a small number for its positive set
pub weight_read : (bytes : List ℕ) → WellFormed bytes → (k : ℕ) → k < whole_records bytes → get_or bytes (18 * k) 0 ≡ weight_kind
    → (d : Record) → d ≡ record_at bytes k → (d.rule.head ≤ last_credential) × (d.rule.positive ≤ 15)
weight_read bytes w k l e d is =
    subst (λ (x : Record). (x.rule.head ≤ last_credential) × (x.rule.positive ≤ 15)) (sym is) (weight_record bytes w k l (kind_byte bytes k ∙ e))

module _ (d : Record) (ds : List Record) (ws : List ℕ) (h : Table ds ws) where
  -- a record of another kind
  table_other : d.kind ≢ weight_kind → Table (d ∷ ds) ws
  unfolding of_kind
  table_other n k l =
      h k l ∙ ap (λ (b : Bool). weight_among (cond b (d.rule ∷ of_kind weight_kind ds) (of_kind weight_kind ds)) k) (sym (ne_eqb d.kind weight_kind n))

  -- a weight
  table_weight : length ws ≡ 16 → d.kind ≡ weight_kind → d.rule.head ≤ last_credential → Table (d ∷ ds) (set ws d.rule.head d.rule.positive)
  unfolding of_kind weight_among
  table_weight long e low k l = go (eqb d.rule.head k) refl
    where
      among : (b : Bool) → eqb d.rule.head k ≡ b
          → cond b d.rule.positive (weight_among (of_kind weight_kind ds) k)
          ≡ weight_among (cond (eqb d.kind weight_kind) (d.rule ∷ of_kind weight_kind ds) (of_kind weight_kind ds)) k
      among b i =
          ap (λ (c : Bool). cond c d.rule.positive (weight_among (of_kind weight_kind ds) k)) (sym i)
          ∙ ap (λ (c : Bool). weight_among (cond c (d.rule ∷ of_kind weight_kind ds) (of_kind weight_kind ds)) k) (sym (true_eqb e))

      go : (b : Bool) → eqb d.rule.head k ≡ b → get_or (set ws d.rule.head d.rule.positive) k 0
          ≡ weight_among (cond (eqb d.kind weight_kind) (d.rule ∷ of_kind weight_kind ds) (of_kind weight_kind ds)) k
      go true i =
          ap (λ (j : ℕ). get_or (set ws d.rule.head d.rule.positive) j 0) (sym (eqb_true d.rule.head k i))
          ∙ get_or-set_same ws d.rule.head d.rule.positive 0 (omega arith) ∙ among true i
      go false i =
          get_or-set_other ws d.rule.head k d.rule.positive 0 (λ n. true≢false (sym (true_eqb (sym n)) ∙ i)) ∙ h k l ∙ among false i

-- the records from record k on have been read
pub record Reading (bytes : List ℕ) (k : ℕ) (ws : List ℕ) : Type 0 where
  pub long : length ws ≡ 16
  pub table : Table (records_from bytes k (whole_records bytes - k)) ws

module _ (bytes : List ℕ) where
  -- none yet
  pub reading_start : Reading bytes (whole_records bytes) (replicate 16 1)
  unfolding records_from
  reading_start =
      let e : whole_records bytes - whole_records bytes ≡ 0 = omega arith in
      record { long = refl; table = rw e table_start }

  module _ (k : ℕ) (ws : List ℕ) (h : Reading bytes k ws) (p : 0 < k) (few : k ≤ whole_records bytes) where
    -- those from the one before on
    abbrev these : List Record
    these = records_from bytes k (whole_records bytes - k)

    one_more : record_at bytes (k - 1) ∷ these ≡ records_from bytes (k - 1) (whole_records bytes - (k - 1))
    unfolding records_from
    one_more =
        let e : whole_records bytes - (k - 1) ≡ suc (whole_records bytes - k) = omega arith in
        let s : suc (k - 1) ≡ k = omega arith in
        rw (e, s) refl

    pub reading_other : get_or bytes (18 * (k - 1)) 0 ≢ weight_kind → Reading bytes (k - 1) ws
    reading_other n = record {
      long = h.long;
      table = subst (λ (ds : List Record). Table ds ws) one_more (table_other (record_at bytes (k - 1)) these ws h.table (λ e. n (sym (kind_byte bytes (k - 1)) ∙ e)));
    }

    pub reading_weight : get_or bytes (18 * (k - 1)) 0 ≡ weight_kind → (d : Record) → d.rule.head ≤ last_credential → d ≡ record_at bytes (k - 1)
        → Reading bytes (k - 1) (set ws d.rule.head d.rule.positive)
    reading_weight e d low is =
        let kind : d.kind ≡ weight_kind = ap (λ (x : Record). x.kind) is ∙ kind_byte bytes (k - 1) ∙ e in
        let one : d ∷ these ≡ records_from bytes (k - 1) (whole_records bytes - (k - 1)) = ap (λ (x : Record). x ∷ these) is ∙ one_more in
        record {
          long = length-set ws d.rule.head d.rule.positive ∙ h.long;
          table = subst (λ (ds : List Record). Table ds (set ws d.rule.head d.rule.positive)) one (table_weight d these ws h.table h.long kind low);
        }

  -- all of them
  pub reading_done : (k : ℕ) (ws : List ℕ) → k ≤ 0 → Reading bytes k ws → WeightTable (policy_of bytes) ws
  unfolding rules_of records_of
  reading_done k ws z h = subst (λ (j : ℕ). Table (records_from bytes j (whole_records bytes)) ws) (omega arith) (subst (λ (n : ℕ). Table (records_from bytes k n) ws) (omega arith) h.table)
