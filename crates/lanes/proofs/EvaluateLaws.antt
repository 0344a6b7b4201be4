-- Level after level, for all lanes at once. Assumes nothing.
use mathlib.Core.Path.{◌≡◌, refl}
use mathlib.Core.List.{List}
use Prim.Native.Nat.{◌+◌, ◌-◌, ◌<◌, ◌≤◌, ℕ}
use lib.ListN.{get_or}
use Rattle.rules.specs.LevelByLevel.{level_by_level}
use Rattle.arrays.specs.Arrays.{Ordered, evaluated, levels_in}
use Rattle.arrays.proofs.ArrayLaws.{levels_next_at}
use Rattle.arrays.proofs.EndLaws.{levels_end_at}
use Rattle.lane_table.specs.LaneSets.{EachLane}
use Rattle.lane_table.specs.Tables.{lane}
use Rattle.lane_fixpoint.specs.Closure.{LevelClosed}
use Rattle.lane_fixpoint.specs.Passes.{Covers}
use Rattle.lanes.specs.Levels.{Evaluated}

-- ---- all levels: those from l on are left
module _ (levels : ℕ) (heads positive negated starts : List ℕ) where
  pub record Evaluating (first table : List ℕ) (possible l : ℕ) : Type 0 where
    pub covers : Covers possible table
    pub each : EachLane (λ t i. level_by_level (levels_in heads positive negated starts l (levels - l)) (lane table t i)
        ≡ evaluated levels heads positive negated starts (lane first t i))

  pub evaluating_next : (first table after : List ℕ) (l before possible : ℕ) → l < levels → Evaluating first table before l
      → LevelClosed heads positive negated (get_or starts l 0) (get_or starts (l + 1) 0 - get_or starts l 0) table after possible
      → Evaluating first after possible (l + 1)
  evaluating_next first table after l before possible less c s = record {
    covers = s.covers;
    each = λ t i a b. levels_next_at levels heads positive negated starts l less (lane table t i) (lane after t i) _ (s.each t i a b) (c.each t i a b);
  }

  -- after level l there are no rules
  pub evaluating_done : Ordered levels starts → (first table : List ℕ) (possible l : ℕ) → l ≤ levels → get_or starts levels 0 ≤ get_or starts l 0
      → Evaluating first table possible l → Evaluated levels heads positive negated starts first table
  evaluating_done o first table possible l low z c = record {
    each = λ t i a b.
        levels_end_at levels starts o heads positive negated l (get_or starts l 0) (record { low = low; here = refl }) z (lane table t i) _ (c.each t i a b);
  }
