-- The theorems of specs/Theorems. Assumes nothing.
use Rattle.preview_calls.specs.Theorems.{Theorems}
use Rattle.preview_calls.proofs.CallsProof.{calls_mean, left, others, put_in, round_after, same, taken_out}

pub theorems : Theorems
theorems = record { calls = calls_mean; taken_out = taken_out; same = same; others = others; put_in = put_in; left = left; round_after = round_after }
