-- The theorems of levels. Assumes nothing.
use Rattle.std.specs.Prelude.{◌≡◌, ◌↔◌, false, true, List, ◌<◌, ◌^◌, ℕ}
use Rattle.lists.specs.Lists.{Every}
use Rattle.rules.specs.Model.{model}
use Rattle.rules.specs.Rules.{Headed, Levelled, Rule, Stratified}
use Rattle.rules.specs.Stable.{OneStable}
use Rattle.strata.specs.Loops.{NegatedLoop}
use Rattle.strata.specs.Strata.{Levelable, level_of, stratifiable}

-- both sides of the body are sets of atoms: 64-bit numbers
pub record SizedBody (r : Rule) : Type 0 where
  pub positive : r.positive < 2 ^ 64
  pub negated : r.negated < 2 ^ 64

-- the head is an atom, and so is every atom that it negates
pub record Over64 (r : Rule) : Type 0 where
  pub headed : Headed r
  pub sized : r.negated < 2 ^ 64

pub record Theorems : Type 0 where
  -- the test passes exactly where a choice of levels exists
  pub exists : (rs : List Rule) → Every SizedBody rs → (stratifiable rs ≡ true) ↔ Levelable rs
  -- "no choice of a whole number as each atom's level" keeps every rule, "and is given exactly then"
  pub none : (rs : List Rule) → Every SizedBody rs → (stratifiable rs ≡ false) ↔ ((lev : ℕ → ℕ) → Every (Levelled lev) rs → ⊥)
  -- where it passes, the computed levels do, and are below 64
  pub levels : (rs : List Rule) → Every Over64 rs → stratifiable rs ≡ true → Every (Stratified (level_of rs)) rs × ((k : ℕ) → level_of rs k < 64)
  -- "just one stable set exists; that is the model"
  pub models : (rs : List Rule) → Every Over64 rs → stratifiable rs ≡ true → (C : ℕ) → OneStable rs C (model rs C)
  -- a loop through a negation has no levels, whatever the atoms of its rules
  pub loop_none : (rs : List Rule) → NegatedLoop rs → (lev : ℕ → ℕ) → Every (Levelled lev) rs → ⊥
  -- and where there are no levels there is such a loop
  pub loops : (rs : List Rule) → Every SizedBody rs → ((lev : ℕ → ℕ) → Every (Levelled lev) rs → ⊥) ↔ NegatedLoop rs
  pub no_loops : (rs : List Rule) → Every SizedBody rs → Levelable rs ↔ (NegatedLoop rs → ⊥)
