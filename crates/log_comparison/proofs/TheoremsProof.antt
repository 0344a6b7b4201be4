-- The theorem of specs/Theorems. Assumes nothing.
use Rattle.log_comparison.specs.Theorems.{Theorems}
use Rattle.log_comparison.proofs.TypeLaws.{compared_one}

pub theorems : Theorems
theorems = record { one_to_one = compared_one }
