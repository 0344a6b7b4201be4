-- What the count of passes over all lanes says, lane by lane. Assumes nothing.
use Rattle.std.specs.Prelude.{◌≡◌, ◌↔◌, List, ◌<◌, ◌≤◌, suc, ℕ}
use Rattle.lists.specs.Sums.{sum}
use Rattle.atoms.specs.Sets.{difference, size}
use Rattle.rules.specs.LevelByLevel.{pass_over}
use Rattle.rules.specs.Model.{times}
use Rattle.rules.specs.Rules.{Rule}
use Rattle.iteration.specs.IdlePasses.{heads_of}
use Rattle.lane_table.specs.LaneSets.{EachLane}
use Rattle.lane_table.specs.Tables.{lane}
use Rattle.lane_fixpoint.specs.Closure.{LanesClosedIn}

-- n passes made `after` of `before` in each lane; one more, the last, added nothing to any; and each of the n added something to some lane
pub record EachClosedIn (rs : List Rule) (before after : List ℕ) (n : ℕ) : Type 0 where
  pub made : EachLane (λ t i. lane after t i ≡ times n (pass_over (lane before t i) rs) (lane before t i))
  pub idle : EachLane (λ t i. pass_over (lane before t i) rs (lane after t i) ≡ lane after t i)
  pub busy : (k : ℕ) → k < n
      → EachLane (λ t i. times (suc k) (pass_over (lane before t i) rs) (lane before t i) ≡ times k (pass_over (lane before t i) rs) (lane before t i)) → ⊥

pub record Theorems : Type 0 where
  -- what `LanesClosedIn` says of n + 1 passes, lane by lane; and there is at least one
  pub closed_in : (rs : List Rule) (before after : List ℕ) (n : ℕ) → LanesClosedIn rs before after (suc n) ↔ EachClosedIn rs before after n
  pub no_pass : (rs : List Rule) (before after : List ℕ) → LanesClosedIn rs before after 0 → ⊥
  -- "so at most one more than the atoms added", to all lanes together, and than the heads of the rules
  pub few : (rs : List Rule) (before after : List ℕ) (n : ℕ) → LanesClosedIn rs before after n
      → n ≤ suc (sum (λ t. sum (λ i. size (difference (lane after t i) (lane before t i))) 64) 4)
  pub few_heads : (rs : List Rule) (before after : List ℕ) (n : ℕ) → LanesClosedIn rs before after n → n ≤ suc (size (heads_of rs))
