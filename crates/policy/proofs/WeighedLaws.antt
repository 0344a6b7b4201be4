-- The credentials that records weigh, one record after another. Assumes nothing.
use mathlib.Core.Path.{◌∙◌, ◌≡◌, ap, refl, subst, sym}
use mathlib.Core.Logic.{◌⊎◌, inl, inr}
use mathlib.Core.Bool.{Bool, ◌&&◌, ◌||◌, false, true}
use mathlib.Core.List.{List, [], ◌++◌, ◌∷◌}
use mathlib.Core.Option.{some-ne-none, none}
use Prim.Native.Nat.{◌+◌, ◌≤◌, suc, zero, ℕ}
use lib.Dec.{eqb, leb}
use borrow.Author.Tests.{ne_eqb}
use native.Mathlib.Numerals.{add-one}
use native.Mathlib.Omega.{arith}
use Rattle.validation.specs.Statements.{Decides}
use Rattle.validation.specs.Tests.{first_failed, relabelled}
use Rattle.validation.proofs.DecideLaws.{decides_eq, decides_le, decides_or, same_decision}
use Rattle.validation.proofs.TestLaws.{and_true, true_eqb}
use Rattle.atoms.specs.Atoms.{first_derived, last_credential, violation}
use Rattle.atoms.specs.Sets.{Member, bit, empty, member, single, union}
use Rattle.atoms.proofs.SetLaws.{bit_empty, member_single, single_own, union_cases, union_left, union_right}
use Rattle.records.specs.Records.{Record, access_kind, disclosure_kind, record_at, records_from, weight_kind}
use Rattle.form.specs.PolicyTest.{Weighed, access_head, at_record, by_kind, credential_head, record_tests, weighs}
use Rattle.form.specs.WrittenForm.{KindAllowed}

-- ---- one record more

or_false : (b : Bool) → (b || false) ≡ b
or_false true = refl
or_false false = refl

weighs_last : (k : ℕ) (ds : List Record) (d : Record)
    → weighs k (ds ++ (d ∷ [])) ≡ (weighs k ds || (eqb d.kind weight_kind && eqb d.rule.head k))
unfolding weighs
weighs_last k [] d = or_false (eqb d.kind weight_kind && eqb d.rule.head k)
weighs_last k (b ∷ ds) d = go (eqb b.kind weight_kind && eqb b.rule.head k) (weighs_last k ds d)
  where
    go : (x : Bool) → weighs k (ds ++ (d ∷ [])) ≡ (weighs k ds || (eqb d.kind weight_kind && eqb d.rule.head k))
        → (x || weighs k (ds ++ (d ∷ []))) ≡ ((x || weighs k ds) || (eqb d.kind weight_kind && eqb d.rule.head k))
    go true ih = refl
    go false ih = ih

module _ (ds : List Record) (d : Record) (s : ℕ) (h : Weighed ds s) where
  -- a record of another kind weighs nothing
  pub weighed_same : (d.kind ≡ weight_kind → ⊥) → Weighed (ds ++ (d ∷ [])) s
  weighed_same n k = h k ∙ sym (weighs_last k ds d ∙ rw (ne_eqb d.kind weight_kind n) (or_false (weighs k ds)))

  -- a weight weighs its head
  pub weighed_more : d.kind ≡ weight_kind → d.rule.head ≤ violation → Weighed (ds ++ (d ∷ [])) (union s (single d.rule.head))
  weighed_more e l k = same_decision _ _ (forth, back) both ∙ ap (λ (b : Bool). b || eqb c k) (h k) ∙ sym (weighs_last k ds d ∙ rw (true_eqb e) refl)
    where
      c : ℕ
      c = d.rule.head

      both : Decides (member k s || eqb c k) (Member k s ⊎ (c ≡ k))
      both = decides_or _ _ (decides_eq (bit s k) 1) (decides_eq c k)

      cases : Member k s ⊎ Member k (single c) → Member k s ⊎ (c ≡ k)
      cases (inl m) = inl m
      cases (inr m) = inr (sym (member_single c k m))

      forth : member k (union s (single c)) ≡ true → Member k s ⊎ (c ≡ k)
      forth t = cases (union_cases s (single c) k ((decides_eq _ 1).0 t))

      back : Member k s ⊎ (c ≡ k) → member k (union s (single c)) ≡ true
      back (inl m) = true_eqb (union_left s (single c) k m)
      back (inr i) = true_eqb (union_right s (single c) k (subst (λ (j : ℕ). Member j (single c)) i (single_own c l)))

-- ---- the records before the next one

from_last : (bytes : List ℕ) (j n k : ℕ) → k ≡ j + n → records_from bytes j (suc n) ≡ records_from bytes j n ++ (record_at bytes k ∷ [])
unfolding records_from
from_last bytes j zero k e = let h : j ≡ k = omega arith in ap (λ (i : ℕ). record_at bytes i ∷ []) h
from_last bytes j (suc n) k e = ap (◌∷◌ (record_at bytes j)) (from_last bytes (suc j) n k (omega arith))

-- no record is before the first
pub weighed_none : (bytes : List ℕ) → Weighed (records_from bytes 0 0) empty
unfolding records_from weighs
weighed_none bytes k = rw (bit_empty k) refl

-- with what record k weighs too, these are the credentials that the records before the next one weigh
pub weighed_next : (bytes : List ℕ) (k s : ℕ) → Weighed (records_from bytes 0 k ++ (record_at bytes k ∷ [])) s → Weighed (records_from bytes 0 (k + 1)) s
weighed_next bytes k s h = rw (add-one k) (subst (λ (ds : List Record). Weighed ds s) (sym (from_last bytes 0 k k (omega arith))) h)

-- ---- an accepted record

-- the first of its tests passes, and so do the others
passed : {A : Type 0} (t : Bool × A) (ts : List (Bool × A)) → first_failed (t ∷ ts) ≡ none → (t.0 ≡ true) × (first_failed ts ≡ none)
unfolding first_failed
passed (true, a) ts e = (refl, e)
passed (false, a) ts e = absurd (some-ne-none a e)

-- its head is an atom
pub accepted_head : (before : List Record) (d : Record) (k : ℕ) → first_failed (at_record k (record_tests before d)) ≡ none → d.rule.head ≤ violation
unfolding relabelled
accepted_head before d k e = go (kinds.0 (passed _ _ e).0)
  where
    kinds : Decides (eqb d.kind access_kind || (eqb d.kind disclosure_kind || eqb d.kind weight_kind)) (KindAllowed d)
    kinds = decides_or _ _ (decides_eq d.kind access_kind) (decides_or _ _ (decides_eq d.kind disclosure_kind) (decides_eq d.kind weight_kind))

    head : by_kind d (access_head d.rule) (credential_head d.rule) (credential_head d.rule) ≡ true
    head = (passed _ _ (passed _ _ e).1).0

    go : KindAllowed d → d.rule.head ≤ violation
    go (inl i) = (decides_le d.rule.head violation).0 (and_true (leb first_derived d.rule.head) (leb d.rule.head violation) (rw i at head)).1
    go (inr (inl i)) = omega (arith, (decides_le d.rule.head last_credential).0 (rw i at head))
    go (inr (inr i)) = omega (arith, (decides_le d.rule.head last_credential).0 (rw i at head))
