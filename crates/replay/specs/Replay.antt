-- A whole list of rounds run by the program: what it comes to, and demand 3 of it. Assumes nothing.
use Rattle.std.specs.Prelude.{◌≡◌, List, [], ◌++◌, ◌∷◌, map, ℕ}
use Rattle.std.proofs.Math.Option.{Option, none, some}
use Rattle.lists.specs.Runs.{Turn, last}
use Rattle.validation.specs.Unless.{Unless, given, withheld}
use Rattle.form.specs.WrittenForm.{WellFormed}
use Rattle.rounds.specs.Moves.{Move, showing}
use Rattle.rounds.specs.Refusals.{Refusal}
use Rattle.rounds.specs.Rounds.{Outcome, opening, round, rounds_of}
use Rattle.rounds.specs.Sessions.{Session}
use Rattle.demands.specs.Demand3.{Demand3}

-- no session was opened, no round was run, or what the last round gave
pub data Replayed : Type 0 where
  unopened : Refusal → Replayed
  unplayed : Session → Replayed
  played : Outcome → Replayed

abbrev pub after_rounds : Session → Option (Turn Move Outcome) → Replayed
after_rounds s none = unplayed s
after_rounds s (some t) = played t.gives

-- the rounds of a list, from the session that opening gave on
abbrev pub after_opening : List ℕ → List Move → Unless Refusal Session → Replayed
after_opening bytes ms (withheld f) = unopened f
after_opening bytes ms (given s) = after_rounds s (last (rounds_of bytes s ms))

-- the list of rounds that show each p of ps, from the opening on
unfoldable pub replayed : List ℕ → ℕ → List ℕ → Replayed
replayed bytes r ps = after_opening bytes (map showing ps) (opening r)

-- ---- as the program does it: the opening, and one round after another

abbrev pub begun : Unless Refusal Session → Replayed
begun (withheld f) = unopened f
begun (given s) = unplayed s

-- one more round: it gets "the session that the one before gave back, refused or not"
abbrev pub one_more : List ℕ → Replayed → Move → Replayed
one_more bytes (unopened f) m = unopened f
one_more bytes (unplayed s) m = played (round bytes s m)
one_more bytes (played o) m = played (round bytes o.session m)

-- ---- demand 3

-- x is what the last of the rounds gave that answered the list, and they meet demand 3 if the policy is accepted
pub record ReplayMeetsDemand3 (bytes : List ℕ) (r : ℕ) (ms : List Move) (s : Session) (x : Replayed) : Type 0 where
  -- without a round it is the session that opening gave, else what the last round gave
  pub unplayed_one : rounds_of bytes s ms ≡ [] → x ≡ unplayed s
  pub last_one : (ts : List (Turn Move Outcome)) (t : Turn Move Outcome) → rounds_of bytes s ms ≡ ts ++ (t ∷ []) → x ≡ played t.gives
  pub demand3 : WellFormed bytes → Demand3 bytes r s ms (rounds_of bytes s ms)

-- Of x, what a request and a list of moves come to: opening's refusal, or such rounds from the session that opening gave.
pub record Replays (bytes : List ℕ) (r : ℕ) (ms : List Move) (x : Replayed) : Type 0 where
  pub unopened_one : (f : Refusal) → opening r ≡ withheld f → x ≡ unopened f
  pub opened_one : (s : Session) → opening r ≡ given s → ReplayMeetsDemand3 bytes r ms s x
