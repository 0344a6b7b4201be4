-- What holds of each rule that is left. Assumes nothing.
use mathlib.Core.Path.{◌∙◌, ◌≡◌, refl, sym}
use mathlib.Core.Logic.{◌↔◌}
use mathlib.Core.Bool.{Bool, cond, false, true, true≢false}
use mathlib.Core.List.{List, [], ◌∷◌}
use Prim.Native.Nat.{ℕ}
use Rattle.lists.specs.Lists.{Every}
use Rattle.validation.proofs.TestLaws.{eqb_true, true_eqb}
use Rattle.atoms.specs.Sets.{Member, member}
use Rattle.rules.specs.Rules.{Rule}
use Rattle.relevance.specs.Relevance.{kept}

pub kept_every : (R : ℕ) (rs : List Rule) (P : Rule → Type 0) → Every P (kept R rs) ↔ Every (λ r. Member r.head R → P r) rs
unfolding kept
kept_every R [] P = (λ h. tt, λ h. tt)
kept_every R (r ∷ rs) P = go (member r.head R) refl (kept_every R rs P)
  where
    Here : Rule → Type 0
    Here r = Member r.head R → P r

    go : (b : Bool) → member r.head R ≡ b → Every P (kept R rs) ↔ Every Here rs
        → Every P (cond b (r ∷ kept R rs) (kept R rs)) ↔ (Here r × Every Here rs)
    go true e ih = (λ h. (λ _. h.0, ih.0 h.1), λ h. (h.0 (eqb_true _ _ e), ih.1 h.1))
    go false e ih = (λ h. (λ i. absurd (true≢false (sym (true_eqb i) ∙ e)), ih.0 h), λ h. ih.1 h.1)
