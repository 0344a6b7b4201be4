-- The theorems of relevance: leaving out the rules whose heads do not bear on a request changes nothing that does. Assumes nothing.
use Rattle.std.specs.Prelude.{List, ℕ, get_or}
use Rattle.lists.specs.Lists.{Every}
use Rattle.rules.specs.LevelByLevel.{level_by_level, settle}
use Rattle.rules.specs.Model.{model}
use Rattle.rules.specs.Rules.{Headed, Rule, Stratified}
use Rattle.arrays.specs.Arrays.{Placed, evaluated, rules_in}
use Rattle.relevance.specs.Places.{KeptIn, SameAnswer}
use Rattle.relevance.specs.Relevance.{Follows, Relevant, SameOn, kept, kept_levels}

pub record Theorems : Type 0 where
  -- of one level: what is the same in R before it is the same in R after it
  pub settles : (R : ℕ) (rs : List Rule) → Every Headed rs → Every (Follows R) rs → (S T : ℕ)
      → SameOn R S T → SameOn R (settle rs S) (settle (kept R rs) T)
  -- of one level after another
  pub levels : (R : ℕ) (levels : List (List Rule)) → Every (Every Headed) levels → Every (Every (Follows R)) levels → (S T : ℕ)
      → SameOn R S T → SameOn R (level_by_level levels S) (level_by_level (kept_levels R levels) T)
  -- "The relevant subset of Pol w.r.t A suffices to determine which instances of A are entailed by the policy in the given state"
  pub models : (lev : ℕ → ℕ) (R : ℕ) (rs : List Rule) → Every (Stratified lev) rs → Every (Follows R) rs → (C : ℕ)
      → SameOn R (model rs C) (model (kept R rs) C)
  -- the same of rules in arrays
  pub arrays : (levels : ℕ) (heads positive negated starts : List ℕ) → Placed levels heads starts → (R : ℕ) (h p n s : List ℕ)
      → Every (Follows R) (rules_in heads positive negated 0 (get_or starts levels 0)) → KeptIn levels R heads positive negated starts h p n s
      → (C : ℕ) → SameOn R (evaluated levels heads positive negated starts C) (evaluated levels h p n s C)
  -- and of the answer to a request, which need not be an atom
  pub answers : (levels : ℕ) (heads positive negated starts : List ℕ) → Placed levels heads starts → (R request : ℕ)
      → Relevant (rules_in heads positive negated 0 (get_or starts levels 0)) request R → (h p n s : List ℕ)
      → KeptIn levels R heads positive negated starts h p n s
      → SameAnswer levels request heads positive negated starts h p n s
