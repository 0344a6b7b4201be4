-- A list of rounds as the callers of the program make it, in the program's own types (session's specs/Types says what they mean). Assumes nothing.
use Rattle.std.specs.Prelude.{◌≡◌, ◌↔◌, List, Ok, [], ◌∷◌, map, ◌<◌, ◌^◌, ℕ}
use Rattle.encoding.specs.LittleEndian.{Bytes}
use Rattle.lists.specs.Lists.{Every}
use Rattle.lists.specs.Runs.{Turn}
use Rattle.form.specs.WrittenForm.{WellFormed}
use Rattle.rounds.specs.Moves as M
use Rattle.rounds.specs.Rounds as R
use Rattle.rounds.specs.Rounds.{opening, round, rounds_of}
use Rattle.demands.specs.Demand3.{Demand3}
use Rattle.session.specs.Types.{move_of, opened_of, outcome_of, session_of}
use Rattle.session.specs.declared.Move.{Move}
use Rattle.session.specs.declared.Outcome.{Outcome}
use Rattle.session.specs.declared.Session.{Session}

-- a call of the round function: the move that it took and the outcome that it gave, as a round of the definitions
abbrev pub turn_of : Turn Move Outcome → Turn M.Move R.Outcome
turn_of c = record { takes = move_of c.takes; gives = outcome_of c.gives }

-- the moves of a list of calls
abbrev pub moves_of : List (Turn Move Outcome) → List M.Move
moves_of cs = map (λ (c : Turn Move Outcome). move_of c.takes) cs

-- The calls were made with one policy, the first with the session s, every later one with "the session that the one before gave back, refused or not":
-- they are the rounds that the definitions give. `CallsMean` says what this asks of each call.
abbrev pub Calls : List ℕ → Session → List (Turn Move Outcome) → Type 0
Calls bytes s cs = map turn_of cs ≡ rounds_of bytes (session_of s) (moves_of cs)

pub record CallsMean : Type 0 where
  -- of no call nothing
  pub none : (bytes : List ℕ) (s : Session) → Calls bytes s []
  -- of one more that its outcome meets the round function's contract, and that the others go on with the session that it gave back
  pub one_more : (bytes : List ℕ) (s : Session) (c : Turn Move Outcome) (cs : List (Turn Move Outcome))
      → Calls bytes s (c ∷ cs) ↔ ((outcome_of c.gives ≡ round bytes (session_of s) (move_of c.takes)) × Calls bytes c.gives.session cs)

-- Demand 3 of the program: the opening function, by its contract, has given s for the request r, each p is a u16, and the round function was called for
-- each p of the list.
abbrev pub ProgramMeetsDemand3 : Type 0
ProgramMeetsDemand3 =
    (bytes : List ℕ) → Bytes bytes → WellFormed bytes → (r : ℕ) (s : Session) → opened_of (Ok s) ≡ opening r
    → (cs : List (Turn Move Outcome)) → Every (λ c. c.takes.shows < 2 ^ 16) cs → Calls bytes s cs
    → Demand3 bytes r (session_of s) (moves_of cs) (map turn_of cs)
