-- How levels are found: a walk from atom to atom of the rows, in which atoms that depend on each other become one component, and a component is settled
-- once nothing outside it in its rows is unsettled. This is the path-based search for strongly connected components. Assumes nothing.
use Rattle.std.specs.Prelude.{◌≡◌, ◌⊎◌, List, ◌*◌, ◌+◌, ◌-◌, ◌<◌, ◌^◌, ◌≤◌, ℕ, get_or, length, set}
use Rattle.atoms.specs.Sets.{Member, Subset, difference, single, size, union}
use Rattle.levels.specs.Graphs.{Above, Depends}
use Rattle.levels.specs.Levels.{level_at}
use Rattle.levels.specs.declared.walk.Walk.{Walk}

-- `fresh` are the atoms that no walk has met, `path` those of the walk
abbrev pub Unsettled : ℕ → ℕ → ℕ → Type 0
Unsettled fresh path k = Member k fresh ⊎ Member k path

-- the other atoms have their levels, below `count`
pub record Settled (rows : List ℕ) (fresh path : ℕ) (of at : List ℕ) (count : ℕ) : Type 0 where
  pub atom_places : length of ≡ 64
  pub level_places : length at ≡ 65
  pub above : (h k : ℕ) → (Unsettled fresh path h → ⊥) → Member k (get_or rows h 0) → (Unsettled fresh path k → ⊥) × Above rows of h k
  pub low : (k : ℕ) → level_at of k < count
  pub found : (k : ℕ) → k < 64 → (Unsettled fresh path k → ⊥) → Member k (get_or at (level_at of k) 0)
  pub only : (k l : ℕ) → Member k (get_or at l 0) → (Unsettled fresh path k → ⊥) × (level_at of k ≡ l)

-- The walk's components, one after another: those before component i are the set at place i, and all of them that at place `depth`. An atom depends on
-- those of its own component and of the later ones.
pub record Chained (rows under : List ℕ) (depth : ℕ) : Type 0 where
  pub bottom : get_or under 0 0 ≡ 0
  pub nested : (i j : ℕ) → i ≤ j → j ≤ depth → Subset (get_or under i 0) (get_or under j 0)
  pub depends : (a b : ℕ) → Member a (get_or under depth 0) → Member b (get_or under depth 0)
      → ((i : ℕ) → i ≤ depth → Member b (get_or under i 0) → Member a (get_or under i 0)) → Depends rows a b

-- the whole state: a level, a component or a fresh atom for each of 64 atoms at most, and level 0
pub record Walking (rows : List ℕ) (w : Walk) (of at : List ℕ) : Type 0 where
  pub places : length w.under ≡ 65
  pub chain : Chained rows w.under w.depth
  pub apart : (k : ℕ) → Member k w.fresh.bits → Member k (get_or w.under w.depth 0) → ⊥
  pub settled : Settled rows w.fresh.bits (get_or w.under w.depth 0) of at w.count
  pub small : w.fresh.bits < 2 ^ 64
  pub some : 1 ≤ w.count
  pub room : w.count + w.depth + size w.fresh.bits ≤ 65

-- an atom of `among` is a new component
pub record Entered (w : Walk) (among : ℕ) (r : Walk) : Type 0 where
  pub atom : ℕ
  pub one : Member atom among
  pub path : r.under ≡ set w.under (w.depth + 1) (union (get_or w.under w.depth 0) (single atom))
  pub fresh : r.fresh.bits ≡ difference w.fresh.bits (single atom)
  pub depth : r.depth ≡ w.depth + 1
  pub count : r.count ≡ w.count

-- the members of a set have this level, all others theirs
pub record Marked (before : List ℕ) (members level : ℕ) (of : List ℕ) : Type 0 where
  pub places : length of ≡ 64
  pub inside : (k : ℕ) → Member k members → level_at of k ≡ level
  pub outside : (k : ℕ) → (Member k members → ⊥) → level_at of k ≡ level_at before k

-- `level` is above every level that has an atom of the set
pub record Over (at : List ℕ) (count s level : ℕ) : Type 0 where
  pub small : s < 2 ^ 64
  pub most : level ≤ count
  pub free : (l : ℕ) → level ≤ l → l < count → (k : ℕ) → Member k s → Member k (get_or at l 0) → ⊥

-- the lowest such level: it is 0, or the level below it has an atom of the set
pub record Lowest (at : List ℕ) (count s level : ℕ) : Type 0 where
  pub over : Over at count s level
  pub first : (level ≡ 0) ⊎ ((k : ℕ) × Member k (get_or at (level - 1) 0) × Member k s)

-- a component is settled on the lowest level above all that its rows have outside it
pub record Placed (of at : List ℕ) (members outside count : ℕ) (of' at' : List ℕ) (r : ℕ) : Type 0 where
  pub level : ℕ
  pub lowest : Lowest at count outside level
  pub marked : Marked of members level of'
  pub listed : at' ≡ set at level (union (get_or at level 0) members)
  pub low : level < r
  pub more : count ≤ r
  pub few : r ≤ count + 1

-- a step: an atom is entered, two components become one, or one is settled
pub record Stepped (rows : List ℕ) (w : Walk) (of at : List ℕ) (r : Walk) : Type 0 where
  pub walking : Walking rows r of at
  pub less : 2 * size r.fresh.bits + r.depth < 2 * size w.fresh.bits + w.depth
