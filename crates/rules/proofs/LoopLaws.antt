-- What a program's loops need. A pass goes rule by rule; of rules without negation the closure is reached; levels are taken one by one. Assumes nothing.
use mathlib.Core.Path.{◌≡◌, ap, ap₂, refl, subst, sym}
use mathlib.Core.Bool.{Bool, ◌&&◌, cond, false, true}
use mathlib.Core.List.{List, [], ◌∷◌}
use Prim.Native.Nat.{ℕ}
use Rattle.lists.specs.Lists.{Every}
use Rattle.atoms.specs.Sets.{Member, disjoint, empty, single, subset, union}
use Rattle.atoms.proofs.SetLaws.{none_in_empty, true_disjoint}
use Rattle.rules.specs.LevelByLevel.{level_by_level, pass_over, settle}
use Rattle.rules.specs.Model.{applies, closure, consequences, pass_by}
use Rattle.rules.specs.Rules.{Rule}
use Rattle.rules.specs.Stable.{positive_only, reduct}

-- ---- one pass

pub pass_none : (B S : ℕ) → pass_over B [] S ≡ S
unfolding pass_over reduct pass_by
pass_none B S = refl

-- one rule adds its head where its body holds
pub pass_one : (B : ℕ) (r : Rule) (S : ℕ)
    → pass_over B (r ∷ []) S ≡ cond (disjoint r.negated B && subset r.positive S) (union S (single r.head)) S
unfolding pass_over reduct pass_by
pass_one B r S = go (disjoint r.negated B)
  where
    go : (b : Bool) → pass_by applies (cond b (positive_only r ∷ []) []) S ≡ cond (b && subset r.positive S) (union S (single r.head)) S
    go true = refl
    go false = refl

-- one rule, then the others
pub pass_next : (B : ℕ) (r : Rule) (rs : List Rule) (S : ℕ) → pass_over B (r ∷ rs) S ≡ pass_over B rs (pass_over B (r ∷ []) S)
unfolding pass_over reduct pass_by
pass_next B r rs S = go (disjoint r.negated B)
  where
    go : (b : Bool) → pass_by applies (cond b (positive_only r ∷ reduct B rs) (reduct B rs)) S
        ≡ pass_by applies (reduct B rs) (pass_by applies (cond b (positive_only r ∷ []) []) S)
    go true = refl
    go false = refl

-- ---- rules without negation

-- of rules without negation nothing is struck or dropped
reduct_positive : (M : ℕ) (rs : List Rule) → Every (λ r. r.negated ≡ empty) rs → reduct M rs ≡ rs
unfolding reduct
reduct_positive M [] h = refl
reduct_positive M (r ∷ rs) h =
    rw unstruck (ap₂ (λ (q : Rule) (qs : List Rule). q ∷ qs) same (reduct_positive M rs h.1))
  where
    unstruck : disjoint r.negated M ≡ true
    unstruck = true_disjoint r.negated M (λ k m _. none_in_empty k (subst (Member k) h.0 m))

    same : positive_only r ≡ r
    same = λ i. record { head = r.head; positive = r.positive; negated = sym h.0 i }

-- of rules without negation the closure is reached
pub settle_positive : (rs : List Rule) → Every (λ r. r.negated ≡ empty) rs → (S : ℕ) → settle rs S ≡ closure rs S
unfolding settle consequences
settle_positive rs h S = ap (λ (qs : List Rule). closure qs S) (reduct_positive S rs h)

-- ---- levels

pub levels_none : (S : ℕ) → level_by_level [] S ≡ S
unfolding level_by_level
levels_none S = refl

pub levels_next : (rs : List Rule) (levels : List (List Rule)) (S : ℕ) → level_by_level (rs ∷ levels) S ≡ level_by_level levels (settle rs S)
unfolding level_by_level
levels_next rs levels S = refl
