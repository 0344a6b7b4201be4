-- Document 02, R-1: the log of a list of rounds, and what it says. Assumes nothing.
use Rattle.std.specs.Prelude.{◌≡◌, ◌*◌, suc, ℕ, length}
use mathlib.Core.List.{List, [], flat_map}
use Rattle.std.proofs.Math.Option.{Option, none, some}
use Rattle.lists.specs.Each.{Each}
use Rattle.lists.specs.Runs.{Turn}
use Rattle.rounds.specs.Moves.{Move}
use Rattle.rounds.specs.Rounds.{Outcome}
use Rattle.demands.specs.Lists.{accepted_of}
use Rattle.logs.specs.Entries.{entry_at}
use Rattle.logs.specs.LogForm.{SoundLog}
use Rattle.session_logs.specs.RoundRecords.{ending_entry, round_record}

-- the bytes, if there are any
abbrev pub bytes_in : Option (List ℕ) → List ℕ
bytes_in none = []
bytes_in (some bs) = bs

-- the records of the accepted rounds, in order
unfoldable pub log_of : List (Turn Move Outcome) → List ℕ
log_of ts = flat_map (λ (t : Turn Move Outcome). bytes_in (round_record t.takes t.gives)) ts

-- what the log of the rounds ts says of them
pub record LogSays (ts : List (Turn Move Outcome)) : Type 0 where
  -- a record for each accepted round, and no more
  pub as_long : length (log_of ts) ≡ 8 * length (accepted_of ts)
  -- record k says round k + 1: its p, its answer and what it asks, and the count k + 1
  pub rounds : Each (λ past t. entry_at (log_of ts) (length past) ≡ ending_entry t.takes t.ended (suc (length past))) [] (accepted_of ts)
  -- it is never refused
  pub sound : SoundLog (log_of ts)
