-- Document 01, "Sessions" and "Lists of rounds": opening, a round, and a list of rounds. Assumes nothing.
use Rattle.std.specs.Prelude.{List, suc, ℕ}
use Rattle.std.proofs.Math.Option.{Option, none, some}
use Rattle.lists.specs.Runs.{Turn, run}
use Rattle.validation.specs.Tests.{first_failed}
use Rattle.validation.specs.Unless.{Unless, unless}
use Rattle.atoms.specs.Sets.{difference, union}
use Rattle.rules.specs.Policy.{Policy}
use Rattle.records.specs.Policies.{policy_of}
use Rattle.rounds.specs.Endings.{Ending, ask, deny, ending, grant}
use Rattle.rounds.specs.Moves.{Move}
use Rattle.rounds.specs.Refusals.{Refusal}
use Rattle.rounds.specs.RoundTest.{opening_tests, round_refusal}
use Rattle.rounds.specs.Sessions.{Phase, Session, closed, denied, granted, opened, question, waiting}

-- "A round is accepted if it ends in grant, deny or a question"; any other is refused
pub data Answer : Type 0 where
  ends : Ending → Answer
  refused : Refusal → Answer

-- "A session goes into a round and comes out of it."
pub record Outcome : Type 0 where
  pub answer : Answer
  pub session : Session

-- ---- an accepted round

-- "P becomes P with p"
abbrev pub shown_after : Session → Move → ℕ
shown_after s m = union s.shown m.shows

-- "N becomes N with those of Q not in p"
abbrev pub declined_after : Session → Move → ℕ
declined_after s m = union s.declined (difference (question s.phase).asks m.shows)

-- the sets as a round updates them, and how it ends
pub record Working : Type 0 where
  pub shown : ℕ
  pub declined : ℕ
  pub ended : Ending

unfoldable pub worked : Policy → Session → Move → Working
worked pol s m =
    let P = shown_after s m in
    let N = declined_after s m in
    record { shown = P; declined = N; ended = ending pol s.request P N }

-- "grant, closed", "deny, closed", "is asked and becomes Q"
abbrev pub phase_after : Ending → Phase
phase_after grant = closed granted
phase_after deny = closed denied
phase_after (ask q) = waiting q

-- "the count rises by 1"
abbrev pub session_after : Session → Working → Session
session_after s x = record {
  request = s.request;
  shown = x.shown;
  declined = x.declined;
  count = suc s.count;
  phase = phase_after x.ended;
}

-- ---- rounds

abbrev pub decided : Session → Working → Outcome
decided s x = record { answer = ends x.ended; session = session_after s x }

-- "The session comes back as it went in"
abbrev pub turned_back : Session → Refusal → Outcome
turned_back s f = record { answer = refused f; session = s }

abbrev pub respond : Option Refusal → Policy → Session → Move → Outcome
respond none pol s m = decided s (worked pol s m)
respond (some f) pol s m = turned_back s f

-- "A round takes a policy, a session and a set p of credentials."
unfoldable pub round : List ℕ → Session → Move → Outcome
round bytes s m = respond (round_refusal bytes s m) (policy_of bytes) s m

-- The rounds of a list, refused or not, each with what it took and what it gave back: "The first round gets the fresh session, every later one the
-- session that the one before gave back, refused or not"
abbrev pub rounds_of : List ℕ → Session → List Move → List (Turn Move Outcome)
rounds_of bytes = run (round bytes) (λ (o : Outcome). o.session)

-- ---- opening

-- "opening gives only 7 and then no session", of a request
unfoldable pub opening : ℕ → Unless Refusal Session
opening r = unless (first_failed (opening_tests r)) (opened r)
