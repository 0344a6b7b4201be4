-- What the reduct keeps. Assumes nothing.
use mathlib.Core.Path.{◌≡◌, refl, sym}
use mathlib.Core.Logic.{◌↔◌}
use mathlib.Core.Bool.{Bool, cond, false, true, true≢false}
use mathlib.Core.List.{List, [], ◌∷◌}
use Prim.Native.Nat.{ℕ}
use Rattle.lists.proofs.ListLaws.{every_imp}
use Rattle.lists.specs.Lists.{Every}
use Rattle.atoms.specs.Sets.{Member, Subset}
use Rattle.atoms.proofs.SetLaws.{disjoint_true, true_disjoint}
use Rattle.rules.specs.Rules.{Headed, Rule}
use Rattle.rules.specs.Stable.{Unstruck, positive_only, reduct}

-- X is closed under r; and it is where M leaves r
abbrev pub Respects : ℕ → Rule → Type 0
Respects X r = Subset r.positive X → Member r.head X

abbrev pub LeftRespects : ℕ → ℕ → Rule → Type 0
LeftRespects M X r = Unstruck M r → Respects X r

pub reduct_every : (M : ℕ) (rs : List Rule) (P : Rule → Type 0) → Every P (reduct M rs) ↔ Every (λ r. Unstruck M r → P (positive_only r)) rs
unfolding reduct
reduct_every M [] P = (λ h. tt, λ h. tt)
reduct_every M (r ∷ rs) P = go _ (disjoint_true _ M, true_disjoint _ M) (reduct_every M rs P)
  where
    Left : Rule → Type 0
    Left r = Unstruck M r → P (positive_only r)

    go : (b : Bool) → (b ≡ true) ↔ Unstruck M r → Every P (reduct M rs) ↔ Every Left rs
        → Every P (cond b (positive_only r ∷ reduct M rs) (reduct M rs)) ↔ (Left r × Every Left rs)
    go true d ih = (λ h. (λ _. h.0, ih.0 h.1), λ h. (h.0 (d.0 refl), ih.1 h.1))
    go false d ih = (λ h. (λ u. absurd (true≢false (sym (d.1 u))), ih.0 h), λ h. ih.1 h.1)

pub reduct_headed : (M : ℕ) (rs : List Rule) → Every Headed rs → Every Headed (reduct M rs)
reduct_headed M rs a = (reduct_every M rs Headed).1 (every_imp Headed (λ r. Unstruck M r → Headed r) (λ r h _. h) rs a)
