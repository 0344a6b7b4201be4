-- Document 02, R-6: what a preview of a round at a slot gives. Assumes nothing.
use Rattle.std.specs.Prelude.{cond, List, ℕ}
use Rattle.std.proofs.Math.Option.{Option, none, some}
use Rattle.rounds.specs.Moves.{Move}
use Rattle.rounds.specs.Rounds.{Answer}
use Rattle.rounds.specs.Sessions.{Session}
use Rattle.slots.specs.RoundsAt.{round_at, slot_round}
use Rattle.slots.specs.Slots.{Slot, held, in_table, slot_at, vacant}

-- an answer and a session, or "no session is given"
pub record Preview : Type 0 where
  pub answer : Answer
  pub session : Option Session

-- the session that a slot holds, if it holds one
abbrev pub session_held : Slot → Option Session
session_held vacant = none
session_held (held o s) = some s

-- the session at slot i: none "where the seat is empty or one that 14 refuses"
unfoldable pub session_at : List Slot → ℕ → Option Session
session_at xs i = cond (in_table xs i) (session_held (slot_at xs i)) none

-- "The preview's answer and session are those of the same round on a copy of the list, refusals included"
unfoldable pub preview_at : List ℕ → List Slot → ℕ → Move → Preview
preview_at bytes xs i m = let g = round_at bytes xs i m in record { answer = g.answer; session = session_at g.table i }

-- ---- the same from one slot

-- of a slot of the list, whatever the others hold
unfoldable pub preview_slot : List ℕ → Slot → Move → Preview
preview_slot bytes x m = let t = slot_round bytes x m in record { answer = t.answer; session = session_held t.slot }
