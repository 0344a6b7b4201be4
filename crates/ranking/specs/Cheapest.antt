-- Of the lanes that pass, the one of the least key. Assumes nothing.
use Rattle.std.specs.Prelude.{◌≡◌, ◌⊎◌, true, List, ◌%◌, ◌/◌, ◌<◌, ◌≤◌, ℕ, get_or}
use Rattle.atoms.specs.Sets.{member}
use Rattle.ranking.specs.Keys.{never}

-- lane i passes: bit i % 64 of word i / 64 is set
abbrev pub Passing : List ℕ → ℕ → Type 0
Passing words i = member (i % 64) (get_or words (i / 64) 0) ≡ true

-- the lesser of the two keys where the lane of the second passes, else the first
pub record Joined (least passes key r : ℕ) : Type 0 where
  pub kept : r ≤ least
  pub met : passes ≡ 1 → r ≤ key
  pub one : (r ≡ least) ⊎ ((passes ≡ 1) × (r ≡ key))

-- r is the least key of the first lanes that pass, or never
pub record Cheapest (keys words : List ℕ) (lanes r : ℕ) : Type 0 where
  pub most : r ≤ never
  pub least : (i : ℕ) → i < lanes → Passing words i → r ≤ get_or keys i 0
  pub one : (r ≡ never) ⊎ ((i : ℕ) × (i < lanes) × Passing words i × (get_or keys i 0 ≡ r))
