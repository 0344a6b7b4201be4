-- A policy's access rules gathered by head. Assumes nothing.
use Rattle.std.specs.Prelude.{◌≡◌, Bool, false, true, List, ◌<◌, ℕ, get_or}
use Rattle.atoms.specs.Sets.{Member}
use Rattle.rules.specs.Rules.{InBody}
use Rattle.records.specs.Records.{access_kind, record_at}
use Rattle.levels.specs.Levels.{level_at}

module _ (bytes : List ℕ) where
  -- record j is one of the first n, and an access record
  pub record Access (n j : ℕ) : Type 0 where
    pub before : j < n
    pub kind : (record_at bytes j).kind ≡ access_kind

  -- the rows of the first n records: all that their rules have, and of bodies nothing else; each head is among the heads
  pub record Gathered (n : ℕ) (rows negated : List ℕ) (heads : ℕ) : Type 0 where
    pub head : (j : ℕ) → Access n j → Member (record_at bytes j).rule.head heads
    pub body : (j : ℕ) → Access n j → (k : ℕ) → InBody k (record_at bytes j).rule → Member k (get_or rows (record_at bytes j).rule.head 0)
    pub nots : (j : ℕ) → Access n j → (k : ℕ) → Member k (record_at bytes j).rule.negated → Member k (get_or negated (record_at bytes j).rule.head 0)
    pub only : (h k : ℕ) → Member k (get_or rows h 0) → (j : ℕ) × Access n j × ((record_at bytes j).rule.head ≡ h) × InBody k (record_at bytes j).rule
    pub only_nots : (h k : ℕ) → Member k (get_or negated h 0)
        → (j : ℕ) × Access n j × ((record_at bytes j).rule.head ≡ h) × Member k (record_at bytes j).rule.negated

-- no head of the set has a negated atom on its own level; or one has
pub record Tested (negated : List ℕ) (heads : ℕ) (of at : List ℕ) (r : Bool) : Type 0 where
  pub none : r ≡ true → (h k : ℕ) → Member h heads → Member k (get_or negated h 0) → Member k (get_or at (level_at of h) 0) → ⊥
  pub one : r ≡ false → (h : ℕ) × (k : ℕ) × Member k (get_or negated h 0) × Member k (get_or at (level_at of h) 0)
