-- Document 01, "Who can be turned back": the tests of opening and of a round, in the order of specs/RoundForm. Assumes nothing.
use Rattle.std.specs.Prelude.{Bool, not, List, [], ◌++◌, ◌∷◌, ℕ}
use Rattle.std.proofs.Math.Option.{Option}
use Rattle.validation.specs.Tests.{first_failed, relabelled}
use Rattle.form.specs.PolicyTest.{policy_tests}
use Rattle.rounds.specs.Moves.{Move}
use Rattle.rounds.specs.Refusals.{Refusal, number, of_policy}
use Rattle.rounds.specs.Sessions.{Session, is_closed, is_service, is_sound}

-- "7: request outside 16 to 62, at opening or in a round."
abbrev pub request_tests : ℕ → List (Bool × ℕ)
request_tests r = (is_service r, 7) ∷ []

unfoldable pub opening_tests : ℕ → List (Bool × Refusal)
opening_tests r = relabelled number (request_tests r)

-- "8: session not sound." "9: round in a sound closed session." The move says nothing of this yet.
abbrev pub session_tests : Session → Move → List (Bool × ℕ)
session_tests s m = request_tests s.request ++ ((is_sound s, 8) ∷ (not (is_closed s.phase), 9) ∷ [])

-- what turns a session back under an accepted policy
unfoldable pub session_refusal : Session → Move → Option Refusal
session_refusal s m = first_failed (relabelled number (session_tests s m))

-- the policy's tests, then the session's
abbrev pub round_tests : List ℕ → Session → Move → List (Bool × Refusal)
round_tests bytes s m = relabelled of_policy (policy_tests bytes) ++ relabelled number (session_tests s m)

-- "Only the first that applies is given, in number order"
unfoldable pub round_refusal : List ℕ → Session → Move → Option Refusal
round_refusal bytes s m = first_failed (round_tests bytes s m)
