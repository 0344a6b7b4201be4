-- Document 02, R-4: levels for a policy's access rules. Assumes nothing.
use Rattle.std.specs.Prelude.{◌≡◌, ◌⊎◌, List, None, Option, Some, ◌*◌, ◌+◌, ◌<◌, ◌≤◌, ℕ, get_or, length}
use Rattle.lists.specs.Lists.{Every}
use Rattle.atoms.specs.Atoms.{violation}
use Rattle.rules.specs.Rules.{InBody, Levelled, Rule}
use Rattle.records.specs.Records.{access_kind, record_at}

-- the level that an array gives an atom
abbrev pub level_at : List ℕ → ℕ → ℕ
level_at of k = get_or of k 0

-- there is room for 65 levels: level 0, and one for each of 64 atoms
abbrev pub Low : List ℕ → Type 0
Low of = (k : ℕ) → level_at of k < 65

-- The levels are as fine as they can be: a head is above each atom of its body, but those that no choice of levels sets it above. No answer rests on this:
-- it keeps the levels small, so that one pass closes each where no loop is.
abbrev pub Fine : List Rule → (ℕ → ℕ) → Rule → Type 0
Fine rs own r =
    (k : ℕ) → InBody k r
    → (own k < own r.head) ⊎ ((lev : ℕ → ℕ) → Every (Levelled lev) rs → lev r.head ≤ lev k)

-- levels that the rules keep
pub record Levels (rs : List Rule) (of : List ℕ) : Type 0 where
  pub kept : Every (Levelled (level_at of)) rs
  pub fine : Every (Fine rs (level_at of)) rs
  pub low : Low of

-- what is found: levels, or that there are none, "no choice of a whole number as each atom's level"
abbrev pub Found : List Rule → Option (List ℕ) → Type 0
Found rs (Some of) = Levels rs of
Found rs None = (lev : ℕ → ℕ) → Every (Levelled lev) rs → ⊥

-- "An access head is 16 to 63.": at most 63
abbrev pub AccessHeads : List ℕ → Type 0
AccessHeads bytes = (j : ℕ) → 18 * j + 18 ≤ length bytes → (record_at bytes j).kind ≡ access_kind → (record_at bytes j).rule.head ≤ violation
