-- Keys of candidates. Candidate n = 256 * b + i stands in lane i of block b: the low eight members are the lane's, the others the block's. A lane or a
-- block has a key of 32 bits, 256 times its cost and its number; a candidate has 65536 times its cost and its number. Assumes nothing.
use Rattle.std.specs.Prelude.{◌≡◌, List, ◌%◌, ◌*◌, ◌+◌, ◌/◌, ◌<◌, ◌^◌, ◌≤◌, ℕ, drop, get_or, length}
use Rattle.preference.specs.Order.{cost_of, weight_of}

-- past the key of any lane or block
abbrev pub never : ℕ
never = 1073741824

-- the key of candidate n
unfoldable pub key_of : (ℕ → ℕ) → ℕ → ℕ
key_of cost n = 65536 * cost n + n

-- what a lane adds to a candidate's key; a block adds 256 times its own
abbrev pub widened : ℕ → ℕ
widened x = 65536 * (x / 256) + x % 256

-- what a member more needs: room for as many totals again, and no sum with its weight too large
pub record Extendable (top weight : ℕ) (totals : List ℕ) : Type 0 where
  pub few : top ≤ 128
  pub room : top + top ≤ length totals
  pub fits : (i : ℕ) → i < top → get_or totals i 0 + weight < 2 ^ 32

-- what writing the candidates of some members needs: at most eight of the sixteen, from one on, and room for them
pub record Writable (from members : ℕ) (table : List ℕ) : Type 0 where
  pub few : members ≤ 8
  pub within : from + members ≤ 16
  pub room : 2 ^ members ≤ length table

-- the total weights with one member more
pub record Extended (top weight : ℕ) (old new : List ℕ) : Type 0 where
  pub long : length new ≡ length old
  pub kept : (i : ℕ) → i < top → get_or new i 0 ≡ get_or old i 0
  pub added : (i : ℕ) → i < top → get_or new (top + i) 0 ≡ get_or old i 0 + weight
  pub beyond : (i : ℕ) → top + top ≤ i → get_or new i 0 ≡ get_or old i 0

-- the total weights of the candidates of some members, from one on; past them nothing is written
pub record TotalsWritten (weights : List ℕ) (from members : ℕ) (old new : List ℕ) : Type 0 where
  pub long : length new ≡ length old
  pub each : (i : ℕ) → i < 2 ^ members → get_or new i 0 ≡ weight_of (drop from weights) i
  pub small : (i : ℕ) → i < 2 ^ members → get_or new i 0 ≤ 255 * members
  pub beyond : (i : ℕ) → 2 ^ members ≤ i → get_or new i 0 ≡ get_or old i 0

-- their keys
pub record Keys (weights : List ℕ) (from members : ℕ) (keys : List ℕ) : Type 0 where
  pub each : (i : ℕ) → i < 2 ^ members → get_or keys i 0 ≡ 256 * cost_of (drop from weights) i + i
  pub small : (i : ℕ) → i < 2 ^ members → get_or keys i 0 < 16777216

pub record KeysWritten (weights : List ℕ) (from members : ℕ) (old new : List ℕ) : Type 0 where
  pub long : length new ≡ length old
  pub keys : Keys weights from members new
  pub beyond : (i : ℕ) → 2 ^ members ≤ i → get_or new i 0 ≡ get_or old i 0
