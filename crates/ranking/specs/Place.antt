-- How many candidates come before a key, counted by blocks. Assumes nothing.
use Rattle.std.specs.Prelude.{cond, List, ◌%◌, ◌*◌, ◌+◌, ◌-◌, ◌/◌, ◌<◌, ◌≤◌, min, ℕ, ltb, get_or}
use Rattle.lists.specs.Sums.{sum}
use Rattle.ranking.specs.Keys.{never}

-- 1 where a is below b, else 0
unfoldable pub below : ℕ → ℕ → ℕ
below a b = cond (ltb a b) 1 0

-- how many of the first keys are below a bar
unfoldable pub keys_below : List ℕ → ℕ → ℕ → ℕ
keys_below keys count bar = sum (λ i. below (get_or keys i 0) bar) count

-- the lanes whose part of a candidate's key is below what is left are those whose keys are below this bar
abbrev pub narrow : ℕ → ℕ
narrow left = 256 * (left / 65536) + min (left % 65536) 256

-- how many candidates have a key below the given one: block by block, what is left of it for the lanes
unfoldable pub keys_in : List ℕ → ℕ → List ℕ → ℕ → ℕ → ℕ
keys_in low lanes high blocks key = sum (λ b. keys_below low lanes (narrow (key - 256 * get_or high b 0))) blocks

-- the first candidate of a block whose key is r stands past the limit
pub record Bar (low : List ℕ) (lanes : ℕ) (high : List ℕ) (blocks limit r : ℕ) : Type 0 where
  pub most : r ≤ never
  pub past : r < never → limit < keys_in low lanes high blocks (256 * r)
