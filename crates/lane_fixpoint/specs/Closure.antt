-- The rules of one level closed over, for all lanes at once, and the count of passes. Assumes nothing.
use Rattle.std.specs.Prelude.{◌≡◌, List, ◌%◌, ◌+◌, ◌/◌, ◌<◌, ◌≤◌, ℕ, get_or}
use Rattle.atoms.specs.Sets.{disjoint, member}
use Rattle.rules.specs.LevelByLevel.{pass_over, settle}
use Rattle.rules.specs.Rules.{Rule}
use Rattle.iteration.specs.Counting.{pass_count}
use Rattle.iteration.specs.IdlePasses.{ClosedIn, heads_of}
use Rattle.arrays.specs.Arrays.{rules_in}
use Rattle.lane_table.specs.LaneSets.{EachLane}
use Rattle.lane_table.specs.Tables.{Same, cell, lane}
use Rattle.lane_fixpoint.specs.Passes.{Covers}

-- row 64 + k has the lanes whose sets have nothing that rule k negates
pub record Reduced (negated : List ℕ) (from to : ℕ) (before after : List ℕ) : Type 0 where
  pub same : Same before after
  pub says : EachLane (λ t i. (k : ℕ) → from ≤ k → k < to → member i (cell after t (64 + k)) ≡ disjoint (get_or negated k 0) (lane before t i))

-- one level
pub record LevelClosed (heads positive negated : List ℕ) (from n : ℕ) (before after : List ℕ) (possible : ℕ) : Type 0 where
  pub covers : Covers possible after
  pub each : EachLane (λ t i. lane after t i ≡ settle (rules_in heads positive negated from n) (lane before t i))

-- the sets of the 256 lanes side by side
abbrev pub lane_at : List ℕ → ℕ → ℕ
lane_at table j = lane table (j / 64) (j % 64)

-- one level in so many passes, of which the last added nothing to any lane; in each lane "not" is read of its set before the first pass
abbrev pub LanesClosedIn : List Rule → List ℕ → List ℕ → ℕ → Type 0
LanesClosedIn rs before after = ClosedIn 256 (λ j. pass_over (lane_at before j) rs) (lane_at before) (heads_of rs) (lane_at after)

-- so many, computed
unfoldable pub lane_pass_count : List Rule → List ℕ → ℕ
lane_pass_count rs before = pass_count 256 (λ j. pass_over (lane_at before j) rs) (lane_at before)
