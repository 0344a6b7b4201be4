-- Which atom depends on which, as 64 rows: row h has the atoms of the bodies of head h. Assumes nothing.
use Rattle.std.specs.Prelude.{◌≡◌, ◌⊎◌, List, ◌<◌, ◌≤◌, ℕ, get_or}
use Rattle.atoms.specs.Sets.{Member}
use Rattle.levels.specs.Levels.{Low, level_at}

-- levels by which no atom of a row is above the row's own atom
abbrev pub Kept : List ℕ → (ℕ → ℕ) → Type 0
Kept rows lev = (h k : ℕ) → Member k (get_or rows h 0) → lev k ≤ lev h

-- atom a depends on atom b, at once or through others: by no such levels is b above a
abbrev pub Depends : List ℕ → ℕ → ℕ → Type 0
Depends rows a b = (lev : ℕ → ℕ) → Kept rows lev → lev b ≤ lev a

-- atom k of row h is below h; or it depends on h in turn, and is on its level
abbrev pub Above : List ℕ → List ℕ → ℕ → ℕ → Type 0
Above rows of h k = (level_at of k < level_at of h) ⊎ ((level_at of k ≡ level_at of h) × Depends rows k h)

-- the atoms of the rows of a set's members
pub record Needs (rows : List ℕ) (set r : ℕ) : Type 0 where
  pub all : (h k : ℕ) → Member h set → Member k (get_or rows h 0) → Member k r
  pub only : (k : ℕ) → Member k r → (h : ℕ) × Member h set × Member k (get_or rows h 0)

-- every atom has a level, by `of`, and every level its atoms, by `at`
pub record Layered (rows of at : List ℕ) : Type 0 where
  pub above : (h k : ℕ) → Member k (get_or rows h 0) → Above rows of h k
  pub low : Low of
  pub found : (k : ℕ) → k < 64 → Member k (get_or at (level_at of k) 0)
  pub only : (k l : ℕ) → Member k (get_or at l 0) → level_at of k ≡ l

-- the rows of all atoms but these are empty
abbrev pub Headless : List ℕ → ℕ → Type 0
Headless rows heads = (h k : ℕ) → Member k (get_or rows h 0) → Member h heads
