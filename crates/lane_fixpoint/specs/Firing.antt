-- One rule, for all lanes at once. Assumes nothing.
use Rattle.std.specs.Prelude.{◌≡◌, Bool, ◌&&◌, cond, false, not, true, List, ◌+◌, ℕ}
use Rattle.atoms.specs.Sets.{disjoint, member, subset, union}
use Rattle.lane_table.specs.LaneSets.{EachLane, word}
use Rattle.lane_table.specs.Tables.{Added, Kept, Same, cell, lane}
use Rattle.lane_table.specs.declared.lane_set.LaneSet.{LaneSet}

-- r has the lanes of `among` that have all of the atoms
pub record HavingAll (table : List ℕ) (atoms : ℕ) (among r : LaneSet) : Type 0 where
  pub each : EachLane (λ t i. member i (word r t) ≡ (member i (word among t) && subset atoms (lane table t i)))

-- r has the lanes that have any of the atoms
pub record HavingAny (table : List ℕ) (atoms : ℕ) (r : LaneSet) : Type 0 where
  pub each : EachLane (λ t i. not (member i (word r t)) ≡ disjoint atoms (lane table t i))

-- rule k, whose head is the set of one atom, adds it in each lane whose reduct has the rule and whose set has its body
abbrev pub FiredIn : ℕ → ℕ → ℕ → List ℕ → List ℕ → Type 0
FiredIn k head positive before after = EachLane (λ t i. lane after t i
    ≡ cond (member i (cell before t (64 + k)) && subset positive (lane before t i)) (union (lane before t i) head) (lane before t i))

-- r says whether the head is new in any
pub record Fired (k head positive : ℕ) (before after : List ℕ) (r : Bool) : Type 0 where
  pub kept : Kept before after
  pub idle : r ≡ false → Same before after
  pub adds : r ≡ true → Added before after
  pub each : FiredIn k head positive before after
