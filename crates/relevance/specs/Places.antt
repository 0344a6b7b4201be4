-- The rules that are left, in arrays: each at the next place, in order. Assumes nothing.
use Rattle.std.specs.Prelude.{◌≡◌, cond, List, ◌+◌, ◌<◌, ◌≤◌, suc, zero, ℕ, get_or, length}
use Rattle.atoms.specs.Sets.{member}
use Rattle.rules.specs.Unlocking.{grants}
use Rattle.arrays.specs.Arrays.{Placed, atom_of, evaluated, levels_in, rules_in}
use Rattle.relevance.specs.Relevance.{Relevant, kept_levels}

-- a rule with the head of set s takes one place if its head is in R, else none
unfoldable pub room : ℕ → ℕ → ℕ
room R s = cond (member (atom_of s) R) 1 0

-- how many heads before place k are in R: what stands at place k goes here
unfoldable pub room_before : ℕ → List ℕ → ℕ → ℕ
room_before R heads zero = 0
room_before R heads (suc k) = room_before R heads k + room R (get_or heads k 0)

-- each level begins after the rules that are left of the levels below it
pub record StartsMoved (levels R : ℕ) (heads starts moved : List ℕ) : Type 0 where
  pub places : levels < length moved
  pub begins : (l : ℕ) → l ≤ levels → get_or moved l 0 ≡ room_before R heads (get_or starts l 0)

-- the arrays hold the rules whose heads are in R and no others, each on its level
pub record KeptIn (levels R : ℕ) (heads positive negated starts h p n s : List ℕ) : Type 0 where
  pub placed : Placed levels h s
  pub rules : levels_in h p n s 0 levels ≡ kept_levels R (levels_in heads positive negated starts 0 levels)

-- the arrays h, p, n, s answer the request as the others do, whatever is shown
pub record SameAnswer (levels request : ℕ) (heads positive negated starts h p n s : List ℕ) : Type 0 where
  pub placed : Placed levels h s
  pub same : (C : ℕ) → grants request (evaluated levels h p n s C) ≡ grants request (evaluated levels heads positive negated starts C)
  -- they hold the rules whose heads the request or atom 63 depends on, and no others
  pub set : ℕ
  pub relevant : Relevant (rules_in heads positive negated 0 (get_or starts levels 0)) request set
  pub rules : levels_in h p n s 0 levels ≡ kept_levels set (levels_in heads positive negated starts 0 levels)
