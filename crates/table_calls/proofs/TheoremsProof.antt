-- The theorems of specs/Theorems. Assumes nothing.
use Rattle.table_calls.specs.Theorems.{Theorems}
use Rattle.table_calls.proofs.CallsProof.{calls_mean, program_meets}

pub theorems : Theorems
theorems = record { calls = calls_mean; program = program_meets }
