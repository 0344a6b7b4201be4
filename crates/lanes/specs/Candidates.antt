-- The candidates of a block in a table: lane (t, i) of block b is candidate 256 b + 64 t + i. Assumes nothing.
use Rattle.std.specs.Prelude.{◌≡◌, ◌⊎◌, List, ◌*◌, ◌+◌, ◌-◌, ◌<◌, ℕ, get_or}
use Rattle.std.specs.Int.Bits.{bit_and, bit_or}
use Rattle.atoms.specs.Sets.{bit}
use Rattle.preference.specs.Candidates.{switched}
use Rattle.lane_table.specs.LaneSets.{EachLane, word}
use Rattle.lane_table.specs.Tables.{lane}
use Rattle.lane_table.specs.declared.lane_set.LaneSet.{LaneSet}

abbrev pub number : ℕ → ℕ → ℕ → ℕ
number b t i = 256 * b + (64 * t + i)

-- bit i of p is bit j of i
pub record Pattern (j p : ℕ) : Type 0 where
  pub each : (i : ℕ) → i < 64 → bit p i ≡ bit i j

-- r has the lanes of block b whose candidates take member j
pub record Takers (j b : ℕ) (r : LaneSet) : Type 0 where
  pub each : EachLane (λ t i. bit (word r t) i ≡ bit (number b t i) j)

abbrev pub Blank : List ℕ → Type 0
Blank table = (at : ℕ) → get_or table at 0 ≡ 0

-- the base in each lane
abbrev pub Uniform : ℕ → List ℕ → Type 0
Uniform base table = EachLane (λ t i. lane table t i ≡ base)

-- each candidate of block b has switched its members below m
pub record Switched (members : List ℕ) (m b : ℕ) (before after : List ℕ) : Type 0 where
  pub each : (base : ℕ) → EachLane (λ t i. lane before t i ≡ base → lane after t i ≡ switched base members m (number b t i))

-- r is what was possible, with `member`; or without it, where its row has no lane
abbrev pub Noted : ℕ → ℕ → LaneSet → ℕ → Type 0
Noted possible member row r = (((t : ℕ) → word row t ≡ 0) × (r ≡ bit_and possible (0xffffffffffffffff - member))) ⊎ (r ≡ bit_or possible member)
