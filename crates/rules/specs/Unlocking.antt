-- Document 01, "The model": what a set of credentials unlocks. Assumes nothing.
use Rattle.std.specs.Prelude.{Bool, ◌&&◌, not, ℕ}
use Rattle.atoms.specs.Atoms.{violation}
use Rattle.atoms.specs.Sets.{Member, member}
use Rattle.rules.specs.Model.{model}
use Rattle.rules.specs.Policy.{Policy}
use Rattle.rules.specs.Stable.{Stable}

-- "C unlocks service r if r is in the model and 63 is not.", where the model is the stable set of the access rules
pub record Unlocks (pol : Policy) (r C : ℕ) : Type 0 where
  pub stable_set : ℕ
  pub stable : Stable pol.access C stable_set
  pub service : Member r stable_set
  pub no_violation : Member violation stable_set → ⊥

-- the same of a set that is the model
abbrev pub grants : ℕ → ℕ → Bool
grants r M = member r M && not (member violation M)

-- and computed
unfoldable pub unlocks : Policy → ℕ → ℕ → Bool
unlocks pol r C = grants r (model pol.access C)
