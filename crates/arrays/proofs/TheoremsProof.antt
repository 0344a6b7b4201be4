-- The theorem of specs/Theorems. Assumes nothing.
use Rattle.arrays.specs.Theorems.{Theorems}
use Rattle.arrays.proofs.ModelLaws.{laid_model}

pub theorems : Theorems
theorems = record { laid_out = laid_model }
