-- What the program's answer means: the record of a round, if there is one. Assumes nothing.
use Rattle.std.specs.Prelude.{List, None, Some, ℕ}
use Rattle.std.specs.Prelude as P
use Rattle.std.proofs.Math.Option.{Option, none, some}

-- the eight bytes of the record, or none
abbrev pub logged_of : P.Option (List ℕ) → Option (List ℕ)
logged_of None = none
logged_of (Some bytes) = some bytes
