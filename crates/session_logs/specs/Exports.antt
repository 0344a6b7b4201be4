-- Document 02, R-1, from C (include/gate.h): the record of a call of gate_round, and the comparison of two logs. Assumes nothing.
use Rattle.std.specs.Prelude.{◌&&◌, cond, not, List, ℕ, eqb, get_or}
use Rattle.std.proofs.Math.Option.{Option, map, none, some}
use Rattle.validation.specs.Unless.{Unless, given, withheld}
use Rattle.rounds.specs.Endings.{Ending, ask, deny, grant}
use Rattle.rounds.specs.Moves.{showing}
use Rattle.packing.specs.Exports.{Call}
use Rattle.packing.specs.Packed.{number_at}
use Rattle.packing.specs.Replies.{done}
use Rattle.logs.specs.Entries.{write_entry}
use Rattle.session_logs.specs.RoundRecords.{ending_entry}

-- ---- the record of a round

-- how a round ended that was not refused, by its reply and by what its session asks for; a question asks for something
abbrev pub ending_replied : ℕ → ℕ → Option Ending
ending_replied x q =
    cond (eqb x 0x0100) (some grant) (cond (eqb x 0x0200) (some deny) (cond (eqb x 0x0300 && not (eqb q 0)) (some (ask (record { asks = q }))) none))

-- the record of a round that showed p, by its reply, by what its session asks for, and by the count
abbrev pub replied_record : ℕ → ℕ → ℕ → ℕ → Option (List ℕ)
replied_record p x q n = map (λ (e : Ending). write_entry (ending_entry (showing p) e n)) (ending_replied x q)

-- and by the session that it left: byte 6 is the count, bytes 8 and 9 are what is asked for
unfoldable pub reply_record : ℕ → ℕ → List ℕ → Option (List ℕ)
reply_record p x session = replied_record p x (number_at session 8) (get_or session 6 0)

-- the number of bytes written, and the bytes afterwards
abbrev pub written_call : List ℕ → Option (List ℕ) → Call
written_call before none = record { reply = 0; leaves = before }
written_call before (some bs) = record { reply = 8; leaves = bs }

unfoldable pub record_call : ℕ → ℕ → List ℕ → List ℕ → Call
record_call p x session before = written_call before (reply_record p x session)

-- ---- the comparison

-- the logs part
abbrev pub part_reply : ℕ
part_reply = 0x0400

-- "the number alone is given"
abbrev pub comparison_reply : Unless ℕ (Option ℕ) → ℕ
comparison_reply (given none) = done
comparison_reply (given (some k)) = part_reply
comparison_reply (withheld n) = n

-- the record where they part, or what was there before
abbrev pub place_after : Unless ℕ (Option ℕ) → ℕ → ℕ
place_after (given none) before = before
place_after (given (some k)) before = k
place_after (withheld n) before = before
