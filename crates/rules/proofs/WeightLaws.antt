-- What a credential weighs among given weights. Assumes nothing.
use mathlib.Core.Path.{◌∙◌, ◌≡◌, refl, sym}
use mathlib.Core.Bool.{Bool, cond, false, true, true≢false}
use mathlib.Core.List.{List, [], ◌++◌, ◌∷◌}
use Prim.Native.Nat.{◌≤◌, ℕ}
use lib.Dec.{eqb}
use borrow.Author.Tests.{ne_eqb}
use Rattle.lists.specs.Lists.{Every}
use Rattle.validation.proofs.TestLaws.{eqb_true, true_eqb}
use Rattle.rules.specs.Rules.{Rule}
use Rattle.rules.specs.Weights.{weight_among}

pub named_weight : (ps qs : List Rule) (r : Rule) → Every (λ p. p.head ≡ r.head → ⊥) ps
    → weight_among (ps ++ (r ∷ qs)) r.head ≡ r.positive
unfolding weight_among
named_weight [] qs r h = rw (true_eqb {m = r.head} refl) refl
named_weight (p ∷ ps) qs r h = rw (ne_eqb p.head r.head h.0) (named_weight ps qs r h.1)

pub unnamed_weight : (ws : List Rule) (k : ℕ) → Every (λ r. r.head ≡ k → ⊥) ws → weight_among ws k ≡ 1
unfolding weight_among
unnamed_weight [] k h = refl
unnamed_weight (r ∷ ws) k h = rw (ne_eqb r.head k h.0) (unnamed_weight ws k h.1)

-- all that name k give it w, and not all name another
pub weight_is : (k w : ℕ) (ws : List Rule) → Every (λ r. r.head ≡ k → r.positive ≡ w) ws → (Every (λ r. r.head ≡ k → ⊥) ws → ⊥)
    → weight_among ws k ≡ w
unfolding weight_among
weight_is k w [] h n = absurd (n tt)
weight_is k w (r ∷ ws) h n = go (eqb r.head k) refl (weight_is k w ws h.1)
  where
    go : (b : Bool) → eqb r.head k ≡ b → ((Every (λ r. r.head ≡ k → ⊥) ws → ⊥) → weight_among ws k ≡ w)
        → cond b r.positive (weight_among ws k) ≡ w
    go true e ih = h.0 (eqb_true r.head k e)
    go false e ih = ih (λ f. n (λ i. true≢false (sym (true_eqb i) ∙ e), f))

-- no weight is above what all are held to
pub weight_most : (n : ℕ) → 1 ≤ n → (k : ℕ) (ws : List Rule) → Every (λ r. r.positive ≤ n) ws → weight_among ws k ≤ n
unfolding weight_among
weight_most n l k [] h = l
weight_most n l k (r ∷ ws) h = go (eqb r.head k) (weight_most n l k ws h.1)
  where
    go : (b : Bool) → weight_among ws k ≤ n → cond b r.positive (weight_among ws k) ≤ n
    go true ih = h.0
    go false ih = ih
