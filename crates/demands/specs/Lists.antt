-- Document 01, "Lists of rounds": what a list of rounds says, and `ListsMean`, which says of each computed set what it holds. Assumes nothing.
use Rattle.std.specs.Prelude.{◌≡◌, ◌↔◌, ◌⊎◌, List, [], ◌∷◌, ◌≤◌, ℕ, length}
use Rattle.lists.specs.Each.{Each}
use Rattle.lists.specs.Runs.{Turn}
use Rattle.atoms.specs.Sets.{Member, difference, empty, intersection, union}
use Rattle.preference.specs.Question.{Question, no_question}
use Rattle.rounds.specs.Moves.{Move}
use Rattle.rounds.specs.Endings.{Ending, ask, deny, grant}
use Rattle.rounds.specs.Rounds.{Answer, Outcome, ends, phase_after, refused}
use Rattle.rounds.specs.Sessions.{Phase, Session, fresh}

-- an accepted round: what it took, and how it ended. "Round k is the k-th accepted one."
pub record Round (I : Type 0) : Type 0 where
  pub takes : I
  pub ended : Ending

-- "A round is accepted if it ends in grant, deny or a question"
abbrev pub add_round : {I : Type 0} → I → Answer → List (Round I) → List (Round I)
add_round x (ends e) rs = record { takes = x; ended = e } ∷ rs
add_round x (refused f) rs = rs

unfoldable pub accepted_of : {I : Type 0} → List (Turn I Outcome) → List (Round I)
accepted_of [] = []
accepted_of (t ∷ ts) = add_round t.takes t.gives.answer (accepted_of ts)

-- "ends in grant or deny"
abbrev pub Final : Ending → Type 0
Final e = (e ≡ grant) ⊎ (e ≡ deny)

-- k is in the asked set, if there is one
abbrev pub Asks : Ending → ℕ → Type 0
Asks grant k = ⊥
Asks deny k = ⊥
Asks (ask q) k = Member k q.asks

-- ---- statements about lists

-- P holds of one of the rounds
abbrev pub SomeRound : (Round Move → Type 0) → List (Round Move) → Type 0
SomeRound P [] = ⊥
SomeRound P (t ∷ rounds) = P t ⊎ SomeRound P rounds

-- P holds of one of the rounds and the next accepted one; the latest comes first
abbrev pub SomeNext : (Round Move → Round Move → Type 0) → List (Round Move) → Type 0
SomeNext P [] = ⊥
SomeNext P (t ∷ []) = ⊥
SomeNext P (later ∷ earlier ∷ past) = P earlier later ⊎ SomeNext P (earlier ∷ past)

-- "until the session closes": one of the rounds ended in grant or deny
abbrev pub Over : List (Round Move) → Type 0
Over = SomeRound (λ t. Final t.ended)

-- ---- of accepted rounds, the latest first

-- the set asked for, if there is one
abbrev pub question_in : Ending → Question
question_in grant = no_question
question_in deny = no_question
question_in (ask q) = q

-- the question of the latest
unfoldable pub last_question : List (Round Move) → Question
last_question [] = no_question
last_question (t ∷ past) = question_in t.ended

-- "Shown by round k is each credential in the p of one of rounds 1 to k."
unfoldable pub shown_by : List (Round Move) → ℕ
shown_by [] = empty
shown_by (t ∷ past) = union (shown_by past) t.takes.shows

abbrev pub shown_next : List (Round Move) → Move → ℕ
shown_next past m = union (shown_by past) m.shows

-- "Declined by it is each one in the asked set of a round before k and not in the p of the next accepted round."
unfoldable pub declined_by : List (Round Move) → ℕ
declined_by [] = empty
declined_by (t ∷ past) = union (declined_by past) (difference (last_question past).asks t.takes.shows)

abbrev pub declined_next : List (Round Move) → Move → ℕ
declined_next past m = union (declined_by past) (difference (last_question past).asks m.shows)

-- demand 3: what a client that holds H shows next, if it "shows in round 1 a part I of what it holds, and answers each question with exactly the asked
-- ones it holds"
unfoldable pub reply : ℕ → ℕ → List (Round Move) → ℕ
reply H I [] = I
reply H I (t ∷ past) = intersection (question_in t.ended).asks H

-- the session after them, read off the list alone
unfoldable pub phase_from : List (Round Move) → Phase
phase_from [] = fresh
phase_from (t ∷ past) = phase_after t.ended

unfoldable pub session_from : ℕ → List (Round Move) → Session
session_from r past = record {
  request = r;
  shown = shown_by past;
  declined = declined_by past;
  count = length past;
  phase = phase_from past;
}

-- "the list has no round k + 1, and its round k, if it has one, ends so"
pub record ByRound (k : ℕ) (Ends : Ending → Type 0) (rounds : List (Round Move)) : Type 0 where
  pub most : length rounds ≤ k
  pub last : Each (λ past t. length (t ∷ past) ≡ k → Ends t.ended) [] rounds

-- ---- what the computed sets hold

pub record ListsMean : Type 0 where
  -- "Shown by round k is each credential in the p of one of rounds 1 to k."
  pub shown : (rounds : List (Round Move)) (k : ℕ) → Member k (shown_by rounds) ↔ SomeRound (λ t. Member k t.takes.shows) rounds
  -- "Declined by it is each one in the asked set of a round before k and not in the p of the next accepted round."
  pub declined : (rounds : List (Round Move)) (k : ℕ)
      → Member k (declined_by rounds) ↔ SomeNext (λ earlier later. Asks earlier.ended k × (Member k later.takes.shows → ⊥)) rounds
  -- "shows in round 1 a part I", and then "exactly the asked ones it holds"
  pub first_reply : (H I : ℕ) → reply H I [] ≡ I
  pub later_reply : (H I : ℕ) (t : Round Move) (past : List (Round Move)) (k : ℕ)
      → Member k (reply H I (t ∷ past)) ↔ (Asks t.ended k × Member k H)
