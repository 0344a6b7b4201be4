-- Document 01, "The model": the reduct, closed sets, least sets, and Gelfond and Lifschitz' stable sets. Nothing here computes but the reduct.
-- Assumes nothing.
use Rattle.std.specs.Prelude.{◌≡◌, cond, List, [], ◌∷◌, ℕ}
use Rattle.lists.specs.Lists.{Every}
use Rattle.atoms.specs.Sets.{Member, Subset, disjoint, empty}
use Rattle.rules.specs.Rules.{Rule}

-- "strike each rule that negates an atom of M": r is none of them
abbrev pub Unstruck : ℕ → Rule → Type 0
Unstruck M r = (k : ℕ) → Member k r.negated → Member k M → ⊥

-- "then drop the negated parts of the others"
abbrev pub positive_only : Rule → Rule
positive_only r = record { head = r.head; positive = r.positive; negated = empty }

-- "For a candidate set M, strike each rule that negates an atom of M, then drop the negated parts of the others."
unfoldable pub reduct : ℕ → List Rule → List Rule
reduct M [] = []
reduct M (r ∷ rs) = cond (disjoint r.negated M) (positive_only r ∷ reduct M rs) (reduct M rs)

-- S "holds C and is closed under" rules without negation, so that only their positive parts are read
pub record Closed (rs : List Rule) (C S : ℕ) : Type 0 where
  pub holds : Subset C S
  pub respects : Every (λ r. Subset r.positive S → Member r.head S) rs

-- "the least set that": S is one of the sets that are P, and lies within each of them
pub record Least (P : ℕ → Type 0) (S : ℕ) : Type 0 where
  pub one : P S
  pub least : (X : ℕ) → P X → Subset S X

-- "M is stable if it equals the least set that holds C and is closed under what remains"
abbrev pub Stable : List Rule → ℕ → ℕ → Type 0
Stable rs C M = Least (Closed (reduct M rs) C) M

-- "just one stable set exists": M
pub record OneStable (rs : List Rule) (C M : ℕ) : Type 0 where
  pub stable : Stable rs C M
  pub only : (X : ℕ) → Stable rs C X → X ≡ M
