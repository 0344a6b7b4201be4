-- Document 004, "Removing Irrelevant Rules": the atoms that bear on a request, and the rules with such heads. Assumes nothing.
use Rattle.std.specs.Prelude.{◌↔◌, cond, List, [], ◌∷◌, ℕ}
use Rattle.lists.specs.Lists.{Every}
use Rattle.atoms.specs.Atoms.{violation}
use Rattle.atoms.specs.Sets.{Member, Subset, member, single, union}
use Rattle.rules.specs.Rules.{Rule}
use Rattle.rules.specs.Stable.{Least}

-- R has, with the head of r, the body of r
pub record Follows (R : ℕ) (r : Rule) : Type 0 where
  pub positive : Member r.head R → Subset r.positive R
  pub negated : Member r.head R → Subset r.negated R

-- what an answer reads: "r is in the model and 63 is not"
abbrev pub answer_atoms : ℕ → ℕ
answer_atoms request = union (single request) (single violation)

-- R has what the answer reads, and with the head of a rule each atom "occurring in the body"
pub record Bearing (rs : List Rule) (request R : ℕ) : Type 0 where
  pub holds : Subset (answer_atoms request) R
  pub follows : Every (Follows R) rs

-- "The relevant subset of a policy Pol w.r.t. an atom A is the least set S such that": here the heads of those rules, with the atoms of their bodies
abbrev pub Relevant : List Rule → ℕ → ℕ → Type 0
Relevant rs request R = Least (Bearing rs request) R

-- one pass: N has S and the bodies of the rules whose heads are in S, and nothing that need not follow
pub record Followed (rs : List Rule) (S N : ℕ) : Type 0 where
  pub grows : Subset S N
  pub positive : Every (λ r. Member r.head S → Subset r.positive N) rs
  pub negated : Every (λ r. Member r.head S → Subset r.negated N) rs
  pub least : (X : ℕ) → Every (Follows X) rs → Subset S X → Subset N X

-- the rules whose heads are in R, in order
unfoldable pub kept : ℕ → List Rule → List Rule
kept R [] = []
kept R (r ∷ rs) = cond (member r.head R) (r ∷ kept R rs) (kept R rs)

-- the same of each level
unfoldable pub kept_levels : ℕ → List (List Rule) → List (List Rule)
kept_levels R [] = []
kept_levels R (rs ∷ levels) = kept R rs ∷ kept_levels R levels

-- S and T have the same atoms of those that P holds of
abbrev pub SameWhere : (ℕ → Type 0) → ℕ → ℕ → Type 0
SameWhere P S T = (k : ℕ) → P k → Member k S ↔ Member k T

-- the same atoms of R
abbrev pub SameOn : ℕ → ℕ → ℕ → Type 0
SameOn R = SameWhere (λ k. Member k R)
