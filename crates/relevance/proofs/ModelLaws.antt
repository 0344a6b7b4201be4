-- Models agree on what bears: levels of the rules that are left, and the model from them. Assumes nothing.
use mathlib.Core.Path.{◌∙◌, ◌≡◌, ap, ap₂, refl, subst, sym}
use mathlib.Core.Bool.{Bool, cond, false, true}
use mathlib.Core.List.{List, [], ◌∷◌}
use Prim.Native.Nat.{◌+◌, ◌<◌, ◌≤◌, suc, zero, ℕ}
use lib.Dec.{eqb}
use native.Mathlib.Omega.{arith}
use Rattle.lists.proofs.ListLaws.{every_imp}
use Rattle.lists.specs.Lists.{Every}
use Rattle.atoms.specs.Sets.{Member, member}
use Rattle.rules.specs.LevelByLevel.{by_level, level_by_level, of_level}
use Rattle.rules.specs.Model.{model}
use Rattle.rules.specs.Rules.{Headed, Rule, Stratified}
use Rattle.rules.proofs.LayoutLaws.{of_level-every}
use Rattle.rules.proofs.LevelByLevelLaws.{level_by_level_lem}
use Rattle.relevance.specs.Relevance.{Follows, SameOn, kept, kept_levels}
use Rattle.relevance.proofs.AgreeLaws.{levels_agree_on}
use Rattle.relevance.proofs.KeptLaws.{kept_every}

module _ (lev : ℕ → ℕ) where
  -- a number above the levels of all heads
  top : List Rule → ℕ
  top [] = 0
  top (r ∷ rs) = suc (lev r.head) + top rs

  top_above : (n : ℕ) (rs : List Rule) → top rs ≤ n → Every (λ r. lev r.head < n) rs
  unfolding top
  top_above n [] h = tt
  top_above n (r ∷ rs) h = (omega arith, top_above n rs (omega arith))

  -- what holds of each rule holds of each of each level
  every_level : (P : Rule → Type 0) (rs : List Rule) → Every P rs → (n l : ℕ) → Every (Every P) (by_level lev l n rs)
  unfolding by_level
  every_level P rs h zero l = tt
  every_level P rs h (suc n) l =
      ((of_level-every lev l rs P).1 (every_imp P (λ r. lev r.head ≡ l → P r) (λ r p _. p) rs h), every_level P rs h n (suc l))

  module _ (R : ℕ) where
    -- the rules of a level that are left are those left that are on the level
    level_kept : (l : ℕ) (rs : List Rule) → of_level lev l (kept R rs) ≡ kept R (of_level lev l rs)
    unfolding of_level kept
    level_kept l [] = refl
    level_kept l (r ∷ rs) = go (member r.head R) refl (eqb (lev r.head) l) refl (level_kept l rs)
      where
        go : (a : Bool) → member r.head R ≡ a → (b : Bool) → eqb (lev r.head) l ≡ b → of_level lev l (kept R rs) ≡ kept R (of_level lev l rs)
            → of_level lev l (cond a (r ∷ kept R rs) (kept R rs)) ≡ kept R (cond b (r ∷ of_level lev l rs) (of_level lev l rs))
        go true p true q ih = rw (q, p) (ap (◌∷◌ r) ih)
        go true p false q ih = rw q ih
        go false p true q ih = rw p ih
        go false p false q ih = ih

    levels_kept : (rs : List Rule) (n l : ℕ) → by_level lev l n (kept R rs) ≡ kept_levels R (by_level lev l n rs)
    unfolding by_level kept_levels
    levels_kept rs zero l = refl
    levels_kept rs (suc n) l = ap₂ (λ (x : List Rule) (y : List (List Rule)). x ∷ y) (level_kept l rs) (levels_kept rs n (suc l))

    left : (P : Rule → Type 0) (rs : List Rule) → Every P rs → Every P (kept R rs)
    left P rs h = (kept_every R rs P).1 (every_imp P (λ r. Member r.head R → P r) (λ r p _. p) rs h)

    pub models_agree : (rs : List Rule) → Every (Stratified lev) rs → Every (Follows R) rs → (C : ℕ) → SameOn R (model rs C) (model (kept R rs) C)
    models_agree rs s f C =
        subst (λ (x : ℕ). SameOn R x (model (kept R rs) C)) (level_by_level_lem lev rs s C n above)
        (subst (SameOn R (level_by_level (by_level lev 0 n rs) C)) few
        (levels_agree_on R (by_level lev 0 n rs)
        (every_level Headed rs (every_imp (Stratified lev) Headed (λ r h. h.headed) rs s) n 0) (every_level (Follows R) rs f n 0)
        C C (λ k _. (λ m. m, λ m. m))))
      where
        n : ℕ
        n = top rs

        above : Every (λ r. lev r.head < n) rs
        above = top_above n rs (omega arith)

        few : level_by_level (kept_levels R (by_level lev 0 n rs)) C ≡ model (kept R rs) C
        few =
            ap (λ (ls : List (List Rule)). level_by_level ls C) (sym (levels_kept rs n 0))
            ∙ level_by_level_lem lev (kept R rs) (left (Stratified lev) rs s) C n (left (λ r. lev r.head < n) rs above)
