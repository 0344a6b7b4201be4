-- The theorems of specs/Theorems. Assumes nothing.
use Rattle.replay.specs.Theorems.{Theorems}
use Rattle.replay.proofs.CallsProof.{calls_mean, program_meets}
use Rattle.replay.proofs.TypeLaws.{replayed_one}

pub theorems : Theorems
theorems = record { program = program_meets; calls = calls_mean; replayed_one = replayed_one }
