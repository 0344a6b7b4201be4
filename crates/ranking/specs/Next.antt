-- The next key in order. Assumes nothing.
use Rattle.std.specs.Prelude.{◌≡◌, ◌⊎◌, List, ◌<◌, ◌≤◌, ℕ, get_or}
use Rattle.ranking.specs.Keys.{never}

-- the key where it is at least `from`, else never
abbrev pub AtLeast : ℕ → ℕ → ℕ → Type 0
AtLeast key from r = ((from ≤ key) × (r ≡ key)) ⊎ ((key < from) × (r ≡ never))

-- r is the least of the first keys that is at least `from`, or never
pub record NextKey (keys : List ℕ) (count from r : ℕ) : Type 0 where
  pub rises : from ≤ r
  pub most : r ≤ never
  pub least : (i : ℕ) → i < count → from ≤ get_or keys i 0 → r ≤ get_or keys i 0
  pub one : r < never → (i : ℕ) × (i < count) × (get_or keys i 0 ≡ r)
