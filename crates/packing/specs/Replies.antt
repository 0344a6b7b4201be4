-- Answers as numbers: byte 0 a refusal's number, or 0; byte 1 the record's number, or how a round ended. Assumes nothing.
use Rattle.std.proofs.Math.Option.{Option, none, some}
use Rattle.std.specs.Prelude.{◌*◌, ◌+◌, ℕ}
use Rattle.form.specs.WrittenForm as W
use Rattle.rounds.specs.Rounds.{Answer, ends, refused}
use Rattle.rounds.specs.Refusals.{Refusal, number, of_policy}
use Rattle.rounds.specs.Endings.{Ending, ask, deny, grant}

-- nothing is refused, and there is no more to say
abbrev pub done : ℕ
done = 0

-- "By the policy's writer, with a record number counted from 0"
abbrev pub policy_reply : W.Refusal → ℕ
policy_reply f = W.refusal_number f + 256 * W.record_number f

-- of a test
abbrev pub test_reply : Option W.Refusal → ℕ
test_reply none = done
test_reply (some f) = policy_reply f

abbrev pub refusal_reply : Refusal → ℕ
refusal_reply (of_policy f) = policy_reply f
refusal_reply (number n) = n

-- 1 grant, 2 deny, 3 ask; what is asked stands in the record
abbrev pub ending_reply : Ending → ℕ
ending_reply grant = 256 * 1
ending_reply deny = 256 * 2
ending_reply (ask q) = 256 * 3

abbrev pub answer_reply : Answer → ℕ
answer_reply (ends e) = ending_reply e
answer_reply (refused f) = refusal_reply f
