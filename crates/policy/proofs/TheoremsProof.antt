-- The theorems of specs/Theorems. Assumes nothing.
use Rattle.policy.specs.Theorems.{Theorems}
use Rattle.policy.proofs.TypeLaws.{checked_one, refused_one}

pub theorems : Theorems
theorems = record { one_to_one = checked_one; refused_one = refused_one }
