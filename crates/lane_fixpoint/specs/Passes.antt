-- One pass over the rules of a level, for all lanes at once, and which rules it may pass over. Assumes nothing.
use Rattle.std.specs.Prelude.{◌≡◌, ◌≢◌, ◌⊎◌, true, List, ◌+◌, ◌<◌, ◌≤◌, ℕ, get_or}
use Rattle.std.specs.Int.Bits.{bit_and}
use Rattle.atoms.specs.Sets.{Subset, disjoint, member, subset}
use Rattle.rules.specs.LevelByLevel.{pass_over}
use Rattle.arrays.specs.Arrays.{rules_in}
use Rattle.lane_table.specs.LaneSets.{EachLane}
use Rattle.lane_table.specs.Tables.{Added, Kept, Same, cell, lane}
use Rattle.lane_fixpoint.specs.Firing.{FiredIn}
use Rattle.lane_fixpoint.specs.declared.passes.Progress.{Progress}

-- no lane has an atom outside `possible`
pub record Covers (possible : ℕ) (table : List ℕ) : Type 0 where
  pub each : EachLane (λ t i. Subset (lane table t i) possible)

-- rule k is satisfied in every lane: it would add nothing
pub record Satisfied (k head positive : ℕ) (table : List ℕ) : Type 0 where
  pub each : EachLane (λ t i. member i (cell table t (64 + k)) ≡ true → subset positive (lane table t i) ≡ true → Subset head (lane table t i))

-- but in the first pass, for which `initial` is not 0, a rule is satisfied if its body has no atom of `delta`
pub record Stale (heads positive : List ℕ) (from to delta initial : ℕ) (table : List ℕ) : Type 0 where
  pub each : (k : ℕ) → from ≤ k → k < to → initial ≡ 0 → bit_and (get_or positive k 0) delta ≡ 0
      → Satisfied k (get_or heads k 0) (get_or positive k 0) table

-- nothing is added, or the head, in some lane
abbrev pub Moved : ℕ → Progress → Progress → List ℕ → List ℕ → Type 0
Moved head s r before after = (Same before after × (r.added ≡ s.added)) ⊎ (Added before after × Subset head r.added)

-- one rule, looked at or passed over
pub record Stepped (k head positive : ℕ) (s r : Progress) (before after : List ℕ) : Type 0 where
  pub kept : Kept before after
  pub covers : Covers r.possible after
  pub grows : Subset s.added r.added
  pub moved : Moved head s r before after
  pub each : FiredIn k head positive before after

-- the rows of n rules from place `from` on say of lane (t, i) what B says
abbrev pub Says : List ℕ → List ℕ → ℕ → ℕ → ℕ → ℕ → ℕ → Type 0
Says negated table from n t i B = (k : ℕ) → from ≤ k → k < from + n → member i (cell table t (64 + k)) ≡ disjoint (get_or negated k 0) B

-- one pass: nothing is added exactly where it is idle
pub record Passed (heads positive : List ℕ) (from n : ℕ) (before after : List ℕ) (r : Progress) : Type 0 where
  pub kept : Kept before after
  pub covers : Covers r.possible after
  pub stale : Stale heads positive from (from + n) r.added 0 after
  pub idle : r.added ≡ 0 → Same before after
  pub adds : r.added ≢ 0 → Added before after
  pub each : (negated : List ℕ) (B : ℕ) → EachLane (λ t i. Says negated before from n t i B
      → lane after t i ≡ pass_over B (rules_in heads positive negated from n) (lane before t i))
