-- The theorems of specs/Theorems. Assumes nothing.
use mathlib.Core.Path.{◌∙◌, ◌≡◌, refl, subst, sym}
use mathlib.Core.Logic.{◌≢◌}
use mathlib.Core.List.{List}
use mathlib.Core.Option.{Option, some-injective, some-ne-none, none, some}
use Prim.Native.Nat.{◌<◌, ℕ}
use native.Mathlib.Decide.{ℕ_discrete}
use Rattle.encoding.specs.LittleEndian.{Bytes}
use Rattle.lists.proofs.ListLaws.{every_imp}
use Rattle.lists.specs.Lists.{Every}
use Rattle.rules.specs.LevelByLevel.{by_level, level_by_level}
use Rattle.rules.specs.Model.{model}
use Rattle.rules.specs.Rules.{Stratified}
use Rattle.rules.proofs.TheoremsProof as rules
use Rattle.records.specs.Policies.{policy_of}
use Rattle.form.specs.PolicyTest.{policy_refusal}
use Rattle.form.specs.WrittenForm.{Refusal, at}
use Rattle.form.proofs.FormLaws.{number_is}
use Rattle.form.proofs.RefusalLaws.{tested}
use Rattle.former.specs.FormerForm.{FormerlyWellFormed, level}
use Rattle.former.specs.FormerTest.{former_refusal}
use Rattle.former.specs.Theorems.{Theorems, Unchanged}
use Rattle.former.proofs.AnswerLaws.{unchanged}
use Rattle.former.proofs.FormerLaws.{by_number-stratified, formerly_tested, still_accepted, still_refused}
use Rattle.former.proofs.LevelLaws.{level_atom, level_down}

module _ (bytes : List ℕ) (b : Bytes bytes) where
  module _ (e : former_refusal bytes ≡ none) where
    formed : FormerlyWellFormed bytes
    formed = (formerly_tested bytes b).accepts.0 e

    strata : Every (Stratified level) (policy_of bytes).access
    strata = by_number-stratified bytes b formed

    by_number : (C : ℕ) → model (policy_of bytes).access C ≡ level_by_level (by_level level 0 9 (policy_of bytes).access) C
    by_number C = sym ((rules.theorems).levels level (policy_of bytes).access strata C 9
        (every_imp (Stratified level) (λ r. level r.head < 9) (λ r s. level_atom r.head s.headed) (policy_of bytes).access strata))

    kept : (policy_refusal bytes ≡ none) × Unchanged bytes
    kept =
        let a : policy_refusal bytes ≡ none = (tested bytes b).accepts.1 (still_accepted bytes formed) in
        (a, unchanged bytes (a ∙ sym e))

  as_before : (n k : ℕ) → n ≢ 6 → former_refusal bytes ≡ some (at n k) → (policy_refusal bytes ≡ some (at n k)) × Unchanged bytes
  as_before n k ne e =
      let a : policy_refusal bytes ≡ some (at n k)
      = ((tested bytes b).refuses (at n k)).1 (still_refused bytes n k ne (((formerly_tested bytes b).refuses (at n k)).0 e)) in
      (a, unchanged bytes (a ∙ sym e))

  no_new_six : (k : ℕ) → policy_refusal bytes ≡ some (at 6 k) → (j : ℕ) × (former_refusal bytes ≡ some (at 6 j))
  no_new_six k e = go (former_refusal bytes) refl
    where
      other : (n j : ℕ) → former_refusal bytes ≡ some (at n j) → Dec (n ≡ 6) → (j : ℕ) × (former_refusal bytes ≡ some (at 6 j))
      other n j f (yes q) = (j, subst (λ (x : ℕ). former_refusal bytes ≡ some (at x j)) q f)
      other n j f (no q) = absurd (q (sym (number_is (some-injective (at 6 k) (at n j) (sym e ∙ (as_before n j q f).0)))))

      go : (o : Option Refusal) → former_refusal bytes ≡ o → (j : ℕ) × (former_refusal bytes ≡ some (at 6 j))
      go none f = absurd (some-ne-none (at 6 k) (sym e ∙ (kept f).0))
      go (some (at n j)) f = other n j f (ℕ_discrete n 6)

pub theorems : Theorems
theorems = record {
  levels = level_down;
  top = refl;
  tested = formerly_tested;
  stratified = strata;
  by_number = by_number;
  kept = kept;
  no_new_six = no_new_six;
  refused_as_before = as_before;
}
