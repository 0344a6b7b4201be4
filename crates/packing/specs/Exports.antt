-- What each exported function replies and leaves in the memory that it is lent. Assumes nothing.
use Rattle.std.specs.Prelude.{List, map, ℕ}
use Rattle.std.proofs.Math.Option.{Option, none, some}
use Rattle.lists.specs.Runs.{Turn, run}
use Rattle.validation.specs.Unless.{Unless, given, withheld}
use Rattle.form.specs.PolicyTest.{policy_refusal}
use Rattle.form.specs.WrittenForm as W
use Rattle.rounds.specs.Moves.{showing}
use Rattle.rounds.specs.Refusals.{Refusal, number}
use Rattle.rounds.specs.Rounds.{Answer, Outcome, ends, opening, refused, round}
use Rattle.rounds.specs.Sessions.{Session}
use Rattle.demands.specs.Promises.{Visit}
use Rattle.packing.specs.Packed.{packed, unpacked}
use Rattle.packing.specs.Replies.{answer_reply, done, policy_reply, refusal_reply, test_reply}

-- "The policy's test gives only 1 to 6", and since R-2 12 and 13
unfoldable pub check_reply : List ℕ → ℕ
check_reply policy = test_reply (policy_refusal policy)

-- ---- sets: "model and disclosable set give 1 to 6 and then no set", and since R-2 12 and 13

abbrev pub set_reply : Unless W.Refusal ℕ → ℕ
set_reply (given S) = done
set_reply (withheld f) = policy_reply f

-- the set, where there is one; else what was there before
abbrev pub set_after : Unless W.Refusal ℕ → ℕ → ℕ
set_after (given S) before = S
set_after (withheld f) before = before

-- ---- sessions: the reply, and the record afterwards

pub record Call : Type 0 where
  pub reply : ℕ
  pub leaves : List ℕ

-- "opening gives only 7 and then no session"
abbrev pub opened_call : List ℕ → Unless Refusal Session → Call
opened_call before (given s) = record { reply = done; leaves = packed s }
opened_call before (withheld f) = record { reply = refusal_reply f; leaves = before }

unfoldable pub open_call : ℕ → List ℕ → Call
open_call r before = opened_call before (opening r)

-- the record after a round: the next session's bytes, or, of a refused round, "The session comes back as it went in"
abbrev pub left_by : Answer → List ℕ → Session → List ℕ
left_by (ends e) before s = packed s
left_by (refused f) before s = before

abbrev pub outcome_call : List ℕ → Outcome → Call
outcome_call before o = record { reply = answer_reply o.answer; leaves = left_by o.answer before o.session }

-- what is no session is refused 8, after the policy's test
abbrev pub no_session_reply : Option W.Refusal → ℕ
no_session_reply none = refusal_reply (number 8)
no_session_reply (some f) = policy_reply f

abbrev pub played_call : List ℕ → List ℕ → ℕ → Option Session → Call
played_call policy before p none = record { reply = no_session_reply (policy_refusal policy); leaves = before }
played_call policy before p (some s) = outcome_call before (round policy s (showing p))

unfoldable pub round_call : List ℕ → List ℕ → ℕ → Call
round_call policy before p = played_call policy before p (unpacked before)

-- ---- calls of gate_round one after another on one record, each with the policy that it is lent

-- one of them
abbrev pub visit_call : List ℕ → Visit → Call
visit_call before v = round_call v.policy before v.takes.shows

-- each gets the bytes that the one before left
unfoldable pub calls_from : List ℕ → List Visit → List Call
calls_from before vs = map (λ (t : Turn Visit Call). t.gives) (run visit_call (λ (c : Call). c.leaves) before vs)
