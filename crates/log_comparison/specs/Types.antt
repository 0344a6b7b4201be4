-- What the program's answers mean: document 02's numbers and values for each case. Assumes nothing.
use Rattle.std.proofs.Math.Option.{Option, none, some}
use Rattle.std.specs.Prelude.{Err, None, Ok, Result, Some, ℕ}
use Rattle.std.specs.Prelude as P
use Rattle.validation.specs.Unless.{Unless, given, withheld}
use Rattle.log_comparison.specs.declared.compare.Refusal.{Refusal}
use Rattle.log_comparison.specs.declared.compare.Refusal.TheVariants.{Length, Record}

-- "10, a log's length is no multiple of 8; 11," a record at fault
abbrev pub refusal_of : Refusal → ℕ
refusal_of Length = 10
refusal_of Record = 11

-- the test of a log: its refusal, or none
abbrev pub tested_of : {T : Type 0} → Result T Refusal → Option ℕ
tested_of (Ok x) = none
tested_of (Err f) = some (refusal_of f)

-- "the first record, from 0, where they part (the shorter log's end counts)", or none
abbrev pub parted_of : P.Option ℕ → Option ℕ
parted_of None = none
parted_of (Some k) = some k

-- "The result is the first record, from 0, where they part (the shorter log's end counts), or agreement."
abbrev pub compared_of : Result (P.Option ℕ) Refusal → Unless ℕ (Option ℕ)
compared_of (Ok o) = given (parted_of o)
compared_of (Err f) = withheld (refusal_of f)
