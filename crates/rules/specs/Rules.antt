-- Document 01, "Atoms and records": a rule, as the model and disclosure read it. Assumes nothing.
use Rattle.std.specs.Prelude.{◌⊎◌, ◌<◌, ◌^◌, ◌≤◌, ℕ}
use Rattle.atoms.specs.Atoms.{violation}
use Rattle.atoms.specs.Sets.{Member}

-- "the head atom", "the set of atoms that must hold", "the set that must not"
pub record Rule : Type 0 where
  pub head : ℕ
  pub positive : ℕ
  pub negated : ℕ

-- "Atoms are numbered 0 to 63": the head is an atom
abbrev pub Headed : Rule → Type 0
Headed r = r.head ≤ violation

-- the atom stands in the body, on either side
abbrev pub InBody : ℕ → Rule → Type 0
InBody k r = Member k r.positive ⊎ Member k r.negated

-- "no positive atom's level is above the head's, and every negated atom's level is smaller than the head's", whatever number `lev` gives each atom
pub record Levelled (lev : ℕ → ℕ) (r : Rule) : Type 0 where
  pub positive : (k : ℕ) → Member k r.positive → lev k ≤ lev r.head
  pub negated : (k : ℕ) → Member k r.negated → lev k < lev r.head

-- a rule over the 64 atoms that keeps the levels: what the field calls stratified
pub record Stratified (lev : ℕ → ℕ) (r : Rule) : Type 0 where
  pub levelled : Levelled lev r
  pub headed : Headed r
  pub sized : r.negated < 2 ^ 64
