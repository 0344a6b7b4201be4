-- Document 01, "Who can be turned back": what opening and a round are held to, as statements in the order in which they are tested, each beside the
-- refusal that is given where it does not hold. A policy's own come first (form's specs/WrittenForm). No test is made here. Assumes nothing.
use Rattle.std.specs.Prelude.{List, [], ◌++◌, ◌∷◌, ℕ}
use Rattle.validation.specs.Tests.{relabelled}
use Rattle.form.specs.WrittenForm.{PolicyForm}
use Rattle.rounds.specs.Moves.{Move}
use Rattle.rounds.specs.Refusals.{Refusal, number, of_policy}
use Rattle.rounds.specs.Sessions.{Finished, Service, Session, SoundSession}

-- "7: request outside 16 to 62, at opening or in a round."
abbrev pub RequestForm : ℕ → List (Type 0 × ℕ)
RequestForm r = (Service r, 7) ∷ []

-- "8: session not sound." "9: round in a sound closed session." The move says nothing of this yet.
abbrev pub SessionForm : Session → Move → List (Type 0 × ℕ)
SessionForm s m = RequestForm s.request ++ ((SoundSession s, 8) ∷ ((Finished s → ⊥), 9) ∷ [])

-- all of a round, in order
unfoldable pub RoundForm : List ℕ → Session → Move → List (Type 0 × Refusal)
RoundForm bytes s m = relabelled of_policy (PolicyForm bytes) ++ relabelled number (SessionForm s m)
