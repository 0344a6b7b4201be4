-- What the program's types mean: the papers' number and values for each case. Assumes nothing.
use Rattle.std.specs.Prelude.{Result, Ok, Err}
use Rattle.std.proofs.Math.Option.{Option, none, some}
use Rattle.validation.specs.Unless.{Unless, given, withheld}
use Rattle.policy.specs.Types as policy
use Rattle.question.specs.Types.{question_of}
use Rattle.rounds.specs.Endings as E
use Rattle.rounds.specs.Moves as M
use Rattle.rounds.specs.Refusals as R
use Rattle.rounds.specs.Rounds as O
use Rattle.rounds.specs.Sessions as S
use Rattle.session.specs.declared.Move.{Move}
use Rattle.session.specs.declared.Outcome.{Outcome}
use Rattle.session.specs.declared.Phase.{Phase}
use Rattle.session.specs.declared.Phase.TheVariants.{Closed, Fresh, Waiting}
use Rattle.session.specs.declared.Session.{Session}
use Rattle.session.specs.declared.Verdict.{Verdict}
use Rattle.session.specs.declared.Verdict.TheVariants.{Denied, Granted}
use Rattle.session.specs.declared.accepted.Working.{Working}
use Rattle.session.specs.declared.answer.Ending.{Ending}
use Rattle.session.specs.declared.answer.Ending.TheVariants.{Ask, Deny, Grant}
use Rattle.session.specs.declared.refusal.Refusal.{Refusal}
use Rattle.session.specs.declared.refusal.Refusal.TheVariants as refusal

-- "7: request outside 16 to 62", "8: session not sound.", "9: round in a sound closed session."
abbrev pub refusal_of : Refusal → R.Refusal
refusal_of (refusal.Policy f) = R.of_policy (policy.refusal_of f)
refusal_of refusal.Request = R.number 7
refusal_of refusal.Unsound = R.number 8
refusal_of refusal.Closed = R.number 9

-- "closed with grant or deny"
abbrev pub verdict_of : Verdict → S.Verdict
verdict_of Granted = S.granted
verdict_of Denied = S.denied

-- "fresh, waiting on a question Q, or closed with grant or deny"
abbrev pub phase_of : Phase → S.Phase
phase_of Fresh = S.fresh
phase_of (Waiting q) = S.waiting (question_of q)
phase_of (Closed v) = S.closed (verdict_of v)

-- "A session has a request, shown set P, declined set N, a count of rounds, and a phase"
abbrev pub session_of : Session → S.Session
session_of s = record { request = s.request; shown = s.shown; declined = s.declined; count = s.count; phase = phase_of s.phase }

-- "grant", "deny", or "the preferred one is asked"
abbrev pub ending_of : Ending → E.Ending
ending_of Grant = E.grant
ending_of Deny = E.deny
ending_of (Ask q) = E.ask (question_of q)

-- "A round is accepted if it ends in grant, deny or a question"; any other is refused
abbrev pub answer_of : Result Ending Refusal → O.Answer
answer_of (Ok e) = O.ends (ending_of e)
answer_of (Err f) = O.refused (refusal_of f)

-- "A session goes into a round and comes out of it."
abbrev pub outcome_of : Outcome → O.Outcome
outcome_of o = record { answer = answer_of o.answer; session = session_of o.session }

-- of a session that went in: "The session comes back as it went in" where the round is refused
abbrev pub outcome_or : S.Session → Result Outcome Refusal → O.Outcome
outcome_or s (Ok o) = outcome_of o
outcome_or s (Err f) = O.turned_back s (refusal_of f)

-- what the tests of a session say
abbrev pub admission_of : {T : Type 0} → Result T Refusal → Option R.Refusal
admission_of (Ok x) = none
admission_of (Err f) = some (refusal_of f)

-- the sets as a round updates them, and how it ends
abbrev pub working_of : Working → O.Working
working_of x = record { shown = x.shown; declined = x.declined; ended = ending_of x.ended }

-- "opening gives only 7 and then no session"
abbrev pub opened_of : Result Session Refusal → Unless R.Refusal S.Session
opened_of (Ok s) = given (session_of s)
opened_of (Err f) = withheld (refusal_of f)

-- "a set p of credentials"
abbrev pub move_of : Move → M.Move
move_of m = record { shows = m.shows }
