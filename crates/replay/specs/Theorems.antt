-- The theorems of the program's lists of rounds. Assumes nothing.
use Rattle.std.specs.Prelude.{◌≡◌}
use Rattle.replay.specs.Calls.{CallsMean, ProgramMeetsDemand3}
use Rattle.replay.specs.Types.{replayed_of}
use Rattle.replay.specs.declared.Replayed.{Replayed}

pub record Theorems : Type 0 where
  -- demand 3 of every list of calls of the program's functions, and which lists these are
  pub program : ProgramMeetsDemand3
  pub calls : CallsMean
  -- what the program's answer to a whole list means is one-to-one
  pub replayed_one : (x y : Replayed) → replayed_of x ≡ replayed_of y → x ≡ y
