-- The theorem of specs/Theorems. Assumes nothing.
use Rattle.layout.specs.Theorems.{Theorems}
use Rattle.layout.proofs.AccessLaws.{access_levels_lem, access_model}

pub theorems : Theorems
theorems = record { keeps = access_levels_lem; laid_out = access_model }
