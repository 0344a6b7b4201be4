-- Document 02, R-4: what a choice of levels is, the test whether there is any, and one that is computed. Assumes nothing.
use Rattle.std.specs.Prelude.{Bool, ◌&&◌, not, List, ◌+◌, ◌-◌, ◌^◌, suc, zero, ℕ, eqb}
use Rattle.lists.specs.Lists.{Every}
use Rattle.atoms.specs.Sets.{bit, disjoint, empty}
use Rattle.rules.specs.Model.{closure_by}
use Rattle.rules.specs.Rules.{Levelled, Rule}

-- a "choice of a whole number as each atom's level" that "gives each access head at least its positive atoms' level and more than its negated atoms' level"
pub record Levelable (rs : List Rule) : Type 0 where
  pub lev : ℕ → ℕ
  pub levels : Every (Levelled lev) rs

-- the body has a negated atom of A or a positive atom of X
abbrev pub hangs : ℕ → Rule → ℕ → Bool
hangs A r X = not (disjoint r.negated A && disjoint r.positive X)

-- the heads above an atom of A: the least set that has the head of each rule with a negated atom of A or a positive atom of the set itself
unfoldable pub above : List Rule → ℕ → ℕ
above rs A = closure_by (hangs A) rs empty

-- the atoms with n negations or more below them
unfoldable pub stratum : List Rule → ℕ → ℕ
stratum rs zero = 2 ^ 64 - 1
stratum rs (suc n) = above rs (stratum rs n)

-- 64 atoms: where there are levels, none has 64 negations below it
unfoldable pub stratifiable : List Rule → Bool
stratifiable rs = eqb (stratum rs 64) empty

-- how many of the strata 1 to n an atom is in
unfoldable pub level_in : List Rule → ℕ → ℕ → ℕ
level_in rs zero k = 0
level_in rs (suc n) k = bit (stratum rs (suc n)) k + level_in rs n k

-- one choice of levels, computed. The program finds finer ones (crate `levels`); any that the rules keep have the same model (rules' `models`).
abbrev pub level_of : List Rule → ℕ → ℕ
level_of rs k = level_in rs 64 k
