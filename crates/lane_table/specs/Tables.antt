-- A table of 192 rows of four words. Row k, below 64, has the lanes whose sets have atom k; row 64 + k those whose reduct has rule k. Assumes nothing.
use Rattle.std.specs.Prelude.{◌≡◌, ◌≢◌, cond, List, ◌*◌, ◌+◌, ◌<◌, ◌^◌, suc, zero, ℕ, get_or}
use Rattle.atoms.specs.Sets.{Member, bit, member, union}
use Rattle.lane_table.specs.LaneSets.{EachLane, word}
use Rattle.lane_table.specs.declared.lane_set.LaneSet.{LaneSet}

-- where word t of row k stands
abbrev pub offset : ℕ → ℕ → ℕ
offset zero k = 4 * k
offset (suc t) k = 4 * k + suc t

abbrev pub cell : List ℕ → ℕ → ℕ → ℕ
cell table t k = get_or table (offset t k) 0

-- q is row k
pub record Loaded (table : List ℕ) (k : ℕ) (q : LaneSet) : Type 0 where
  pub each : (t : ℕ) → t < 4 → word q t ≡ cell table t k

-- row k has become q, and the others are as they were
pub record Stored (k : ℕ) (q : LaneSet) (before after : List ℕ) : Type 0 where
  pub here : (t : ℕ) → t < 4 → cell after t k ≡ word q t
  pub there : (t j : ℕ) → t < 4 → j ≢ k → cell after t j ≡ cell before t j

-- the atoms below n whose words have bit i
unfoldable pub gather : ℕ → (ℕ → ℕ) → ℕ → ℕ
gather zero f i = 0
gather (suc n) f i = cond (member i (f n)) (union (gather n f i) (2 ^ n)) (gather n f i)

-- the set of lane (t, i)
unfoldable pub lane : List ℕ → ℕ → ℕ → ℕ
lane table t i = gather 64 (cell table t) i

-- no set has changed
abbrev pub Same : List ℕ → List ℕ → Type 0
Same before after = EachLane (λ t i. lane after t i ≡ lane before t i)

-- the set of a lane has gained an atom
pub record Added (before after : List ℕ) : Type 0 where
  pub t : ℕ
  pub i : ℕ
  pub atom : ℕ
  pub in_word : t < 4
  pub in_lane : i < 64
  pub lacked : bit (lane before t i) atom ≡ 0
  pub gained : Member atom (lane after t i)

-- the rows of the rules are as they were
abbrev pub Kept : List ℕ → List ℕ → Type 0
Kept before after = (t k : ℕ) → t < 4 → cell after t (64 + k) ≡ cell before t (64 + k)
