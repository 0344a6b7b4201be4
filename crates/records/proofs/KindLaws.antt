-- Records of kind 3 are no rules. Assumes nothing.
use mathlib.Core.Path.{◌∙◌, ◌≡◌, ap, refl, sym}
use mathlib.Core.Logic.{◌↔◌, ◌≢◌}
use mathlib.Core.Bool.{Bool, cond, false, true, true≢false}
use mathlib.Core.List.{List, [], ◌∷◌}
use Prim.Native.Nat.{ℕ}
use lib.Dec.{eqb}
use native.Mathlib.Omega.{arith}
use borrow.Author.Tests.{ne_eqb}
use Rattle.validation.proofs.TestLaws.{eqb_true, true_eqb}
use Rattle.lists.specs.Lists.{Every}
use Rattle.rules.specs.Rules.{Rule}
use Rattle.records.specs.Policies.{policy_of, unweighted}
use Rattle.records.specs.Records.{Record, of_kind, records_of, rules_of, weight_kind}

pub unweighted_iff : (ds : List Record) (P : Record → Type 0) → Every P (unweighted ds) ↔ Every (λ d. d.kind ≢ 3 → P d) ds
unfolding unweighted
unweighted_iff [] P = (λ h. h, λ h. h)
unweighted_iff (d ∷ ds) P = go (eqb d.kind weight_kind) refl (unweighted_iff ds P)
  where
    go : (b : Bool) → eqb d.kind weight_kind ≡ b → Every P (unweighted ds) ↔ Every (λ d. d.kind ≢ 3 → P d) ds
        → Every P (cond b (unweighted ds) (d ∷ unweighted ds)) ↔ ((d.kind ≢ 3 → P d) × Every (λ d. d.kind ≢ 3 → P d) ds)
    go true e ih = (λ h. (λ n. absurd (n (eqb_true d.kind weight_kind e)), ih.0 h), λ h. ih.1 h.1)
    go false e ih = (λ h. (λ _. h.0, ih.0 h.1), λ h. (h.0 (λ i. true≢false (sym (true_eqb i) ∙ e)), ih.1 h.1))

of_unweighted : (k : ℕ) → (k ≡ weight_kind → ⊥) → (ds : List Record) → of_kind k (unweighted ds) ≡ of_kind k ds
unfolding of_kind unweighted
of_unweighted k n [] = refl
of_unweighted k n (d ∷ ds) = go (eqb d.kind weight_kind) refl (of_unweighted k n ds)
  where
    go : (b : Bool) → eqb d.kind weight_kind ≡ b → of_kind k (unweighted ds) ≡ of_kind k ds
        → of_kind k (cond b (unweighted ds) (d ∷ unweighted ds)) ≡ cond (eqb d.kind k) (d.rule ∷ of_kind k ds) (of_kind k ds)
    go true e ih =
        let other : eqb d.kind k ≡ false = ne_eqb d.kind k (λ h. n (sym h ∙ eqb_true d.kind weight_kind e)) in
        ih ∙ sym (ap (λ (b : Bool). cond b (d.rule ∷ of_kind k ds) (of_kind k ds)) other)
    go false e ih = ap (λ (rs : List Rule). cond (eqb d.kind k) (d.rule ∷ rs) rs) ih

pub weights_aside : (bytes others : List ℕ) → unweighted (records_of bytes) ≡ unweighted (records_of others)
    → ((policy_of bytes).access ≡ (policy_of others).access) × ((policy_of bytes).disclosure ≡ (policy_of others).disclosure)
unfolding rules_of
weights_aside bytes others e = (alike _ (λ h. omega arith), alike _ (λ h. omega arith))
  where
    alike : (k : ℕ) → (k ≡ weight_kind → ⊥) → of_kind k (records_of bytes) ≡ of_kind k (records_of others)
    alike k n = sym (of_unweighted k n (records_of bytes)) ∙ ap (of_kind k) e ∙ of_unweighted k n (records_of others)
