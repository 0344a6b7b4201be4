-- One level after another, for all lanes at once. Assumes nothing.
use Rattle.std.specs.Prelude.{◌≡◌, List, ℕ}
use Rattle.arrays.specs.Arrays.{evaluated}
use Rattle.lane_table.specs.LaneSets.{EachLane}
use Rattle.lane_table.specs.Tables.{lane}

-- all levels
pub record Evaluated (levels : ℕ) (heads positive negated starts before after : List ℕ) : Type 0 where
  pub each : EachLane (λ t i. lane after t i ≡ evaluated levels heads positive negated starts (lane before t i))
