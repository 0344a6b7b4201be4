-- Candidates by blocks, in order of the blocks' keys. Assumes nothing.
use Rattle.std.specs.Prelude.{◌≡◌, ◌⊎◌, Bool, false, true, List, ◌%◌, ◌*◌, ◌+◌, ◌<◌, ◌≤◌, ℕ, get_or}
use Rattle.ranking.specs.Grid.{key_at, never_key}
use Rattle.ranking.specs.Keys.{widened}

-- the lesser of two keys
pub record Better (best key r : ℕ) : Type 0 where
  pub kept : r ≤ best
  pub met : r ≤ key
  pub one : (r ≡ best) ⊎ (r ≡ key)

-- the block of a key is past the end or holds nothing better; else it is before the end
pub record Last (key end best : ℕ) (r : Bool) : Type 0 where
  pub yes : r ≡ true → (end ≤ key) ⊎ (best < 256 * key)
  pub no : r ≡ false → key < end

module _ (test : ℕ → Bool) (low : List ℕ) (lanes : ℕ) where
  -- the best so far, and of the block of a key
  pub record Visited (key best r : ℕ) : Type 0 where
    pub kept : r ≤ best
    pub each : (i : ℕ) → i < lanes → test (256 * (key % 256) + i) ≡ true → r ≤ 256 * key + widened (get_or low i 0)
    pub one : (r ≡ best) ⊎ ((never_key ≤ r) ⊎ ((i : ℕ) × (i < lanes) × (test (256 * (key % 256) + i) ≡ true) × (256 * key + widened (get_or low i 0) ≡ r)))

  module _ (high : List ℕ) (blocks : ℕ) where
    -- best is the key of a candidate that passes, or none is known
    abbrev pub Known : ℕ → Type 0
    Known best = (never_key ≤ best) ⊎ ((b : ℕ) × (i : ℕ) × (b < blocks) × (i < lanes) × (test (256 * b + i) ≡ true) × (key_at low high b i ≡ best))

    -- the best of the blocks whose keys are below one
    pub record Best (from best : ℕ) : Type 0 where
      pub each : (b i : ℕ) → b < blocks → i < lanes → test (256 * b + i) ≡ true → get_or high b 0 < from → best ≤ key_at low high b i
      pub one : Known best

    -- the best of all blocks but those from the end on
    pub record BestOf (end best : ℕ) : Type 0 where
      pub each : (b i : ℕ) → b < blocks → i < lanes → test (256 * b + i) ≡ true → (best ≤ key_at low high b i) ⊎ (end ≤ get_or high b 0)
      pub one : Known best
