-- Document 01, "The bench program": what there is to tell, from the bytes of the policy file and those of the input. What is printed (specs/Output) and
-- what is logged (document 02, R-1) are read off this one list. Assumes nothing.
use Rattle.std.specs.Prelude.{List, [], ◌∷◌, map, ℕ, take}
use Rattle.std.proofs.Math.Option.{Option, none, some}
use Rattle.encoding.specs.LittleEndian.{little_endian}
use Rattle.lists.specs.Runs.{Turn}
use Rattle.validation.specs.Unless.{Unless, given, withheld}
use Rattle.form.specs.PolicyTest.{policy_refusal}
use Rattle.form.specs.WrittenForm as W
use Rattle.rounds.specs.Moves.{Move, showing}
use Rattle.rounds.specs.Refusals.{Refusal, of_policy}
use Rattle.rounds.specs.Rounds.{Outcome, opening, rounds_of}
use Rattle.rounds.specs.Sessions.{Session}

-- a policy or request that is refused, or a round, refused or not
pub data Event : Type 0 where
  unopened : Refusal → Event
  played : Move → Outcome → Event

-- "It reads the file policy.bin (at most 2,305 bytes of it)"
abbrev pub policy_bytes : ℕ
policy_bytes = 2305

-- "2-byte little-endian records"; "A last odd byte counts for nothing"
unfoldable pub input_records : List ℕ → List ℕ
input_records [] = []
input_records (low ∷ []) = []
input_records (low ∷ high ∷ bytes) = little_endian (low ∷ high ∷ []) ∷ input_records bytes

-- "then one shown set a round"
unfoldable pub round_events : List ℕ → Session → List ℕ → List Event
round_events policy s ps = map (λ (t : Turn Move Outcome). played t.takes t.gives) (rounds_of policy s (map showing ps))

-- once the request is opened or refused
abbrev pub session_events : List ℕ → Unless Refusal Session → List ℕ → List Event
session_events policy (given s) ps = round_events policy s ps
session_events policy (withheld f) ps = unopened f ∷ []

-- "A refused policy or request ends the output, the policy being tested first"
abbrev pub tested_events : Option W.Refusal → List ℕ → ℕ → List ℕ → List Event
tested_events none policy r ps = session_events policy (opening r) ps
tested_events (some f) policy r ps = unopened (of_policy f) ∷ []

-- "first the request, then one shown set a round"; "No request record: no output, policy untested."
abbrev pub records_events : List ℕ → List ℕ → List Event
records_events policy [] = []
records_events policy (r ∷ ps) = tested_events (policy_refusal policy) policy r ps

-- of the policy file and the input
unfoldable pub events : List ℕ → List ℕ → List Event
events file input = records_events (take policy_bytes file) (input_records input)
