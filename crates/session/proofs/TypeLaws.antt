-- What the program's types mean is one-to-one: each map has a way back. Assumes nothing.
use Rattle.std.specs.Prelude.{Result, Ok, Err}
use mathlib.Core.Path.{◌∙◌, ◌≡◌, ap, refl}
use mathlib.Core.Bool.{cond}
use lib.Dec.{eqb}
use Rattle.validation.specs.Unless.{Unless, given, withheld}
use Rattle.atoms.proofs.MapLaws.{one_to_one}
use Rattle.policy.proofs.TypeLaws as policy
use Rattle.preference.specs.Question as Q
use Rattle.question.specs.Types.{question_of}
use Rattle.question.specs.declared.Question.{Question}
use Rattle.rounds.specs.Endings as E
use Rattle.rounds.specs.Moves as M
use Rattle.rounds.specs.Refusals as R
use Rattle.rounds.specs.Rounds as O
use Rattle.rounds.specs.Sessions as S
use Rattle.session.specs.Types.{answer_of, ending_of, move_of, opened_of, outcome_of, phase_of, refusal_of, session_of, verdict_of}
use Rattle.session.specs.declared.Move.{Move}
use Rattle.session.specs.declared.Outcome.{Outcome}
use Rattle.session.specs.declared.Phase.{Phase}
use Rattle.session.specs.declared.Phase.TheVariants.{Closed, Fresh, Waiting}
use Rattle.session.specs.declared.Session.{Session}
use Rattle.session.specs.declared.Verdict.{Verdict}
use Rattle.session.specs.declared.Verdict.TheVariants.{Denied, Granted}
use Rattle.session.specs.declared.answer.Ending.{Ending}
use Rattle.session.specs.declared.answer.Ending.TheVariants.{Ask, Deny, Grant}
use Rattle.session.specs.declared.refusal.Refusal.{Refusal}
use Rattle.session.specs.declared.refusal.Refusal.TheVariants as refusal

pub refusal_back : R.Refusal → Refusal
refusal_back (R.of_policy f) = refusal.Policy (policy.refusal_back f)
refusal_back (R.number n) = cond (eqb n 7) refusal.Request (cond (eqb n 8) refusal.Unsound refusal.Closed)

pub refusal_back_lem : (x : Refusal) → refusal_back (refusal_of x) ≡ x
unfolding refusal_back
refusal_back_lem (refusal.Policy f) = ap refusal.Policy (policy.refusal_back_lem f)
refusal_back_lem refusal.Request = refl
refusal_back_lem refusal.Unsound = refl
refusal_back_lem refusal.Closed = refl

question_back : Q.Question → Question
question_back q = record { asks = q.asks }

question_back_lem : (x : Question) → question_back (question_of x) ≡ x
unfolding question_back
question_back_lem x = refl

verdict_back : S.Verdict → Verdict
verdict_back S.granted = Granted
verdict_back S.denied = Denied

verdict_back_lem : (x : Verdict) → verdict_back (verdict_of x) ≡ x
unfolding verdict_back
verdict_back_lem Granted = refl
verdict_back_lem Denied = refl

phase_back : S.Phase → Phase
phase_back S.fresh = Fresh
phase_back (S.waiting q) = Waiting (question_back q)
phase_back (S.closed v) = Closed (verdict_back v)

phase_back_lem : (x : Phase) → phase_back (phase_of x) ≡ x
unfolding phase_back
phase_back_lem Fresh = refl
phase_back_lem (Waiting q) = ap Waiting (question_back_lem q)
phase_back_lem (Closed v) = ap Closed (verdict_back_lem v)

pub session_back : S.Session → Session
session_back s = record { request = s.request; shown = s.shown; declined = s.declined; count = s.count; phase = phase_back s.phase }

pub session_back_lem : (x : Session) → session_back (session_of x) ≡ x
unfolding session_back
session_back_lem x =
    ap (λ (p : Phase). record { request = x.request; shown = x.shown; declined = x.declined; count = x.count; phase = p }) (phase_back_lem x.phase)

pub ending_back : E.Ending → Ending
ending_back E.grant = Grant
ending_back E.deny = Deny
ending_back (E.ask q) = Ask (question_back q)

pub ending_back_lem : (x : Ending) → ending_back (ending_of x) ≡ x
unfolding ending_back
ending_back_lem Grant = refl
ending_back_lem Deny = refl
ending_back_lem (Ask q) = ap Ask (question_back_lem q)

answer_back : O.Answer → Result Ending Refusal
answer_back (O.ends e) = Ok (ending_back e)
answer_back (O.refused f) = Err (refusal_back f)

answer_back_lem : (x : Result Ending Refusal) → answer_back (answer_of x) ≡ x
unfolding answer_back
answer_back_lem (Ok e) = ap Ok (ending_back_lem e)
answer_back_lem (Err f) = ap Err (refusal_back_lem f)

pub outcome_back : O.Outcome → Outcome
outcome_back o = record { answer = answer_back o.answer; session = session_back o.session }

pub outcome_back_lem : (x : Outcome) → outcome_back (outcome_of x) ≡ x
unfolding outcome_back
outcome_back_lem x =
    ap (λ (a : Result Ending Refusal). record { answer = a; session = session_back (session_of x.session) }) (answer_back_lem x.answer)
    ∙ ap (λ (s : Session). record { answer = x.answer; session = s }) (session_back_lem x.session)

opened_back : Unless R.Refusal S.Session → Result Session Refusal
opened_back (given s) = Ok (session_back s)
opened_back (withheld f) = Err (refusal_back f)

opened_back_lem : (x : Result Session Refusal) → opened_back (opened_of x) ≡ x
unfolding opened_back
opened_back_lem (Ok s) = ap Ok (session_back_lem s)
opened_back_lem (Err f) = ap Err (refusal_back_lem f)

move_back : M.Move → Move
move_back m = record { shows = m.shows }

move_back_lem : (x : Move) → move_back (move_of x) ≡ x
unfolding move_back
move_back_lem x = refl

pub move_one : (x y : Move) → move_of x ≡ move_of y → x ≡ y
move_one = one_to_one move_of move_back move_back_lem

pub session_one : (x y : Session) → session_of x ≡ session_of y → x ≡ y
session_one = one_to_one session_of session_back session_back_lem

pub outcome_one : (x y : Outcome) → outcome_of x ≡ outcome_of y → x ≡ y
outcome_one = one_to_one outcome_of outcome_back outcome_back_lem

pub opened_one : (x y : Result Session Refusal) → opened_of x ≡ opened_of y → x ≡ y
opened_one = one_to_one opened_of opened_back opened_back_lem
