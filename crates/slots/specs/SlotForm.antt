-- Document 02, R-5: what an opening and a round at a slot are held to, as statements in the order in which they are tested, each beside the refusal that
-- is given where it does not hold. No test is made here. Assumes nothing.
use Rattle.std.specs.Prelude.{List, [], ◌++◌, ◌∷◌, ℕ}
use Rattle.validation.specs.Tests.{relabelled}
use Rattle.form.specs.WrittenForm.{PolicyForm}
use Rattle.rounds.specs.Moves.{Move}
use Rattle.rounds.specs.Refusals.{Refusal, number, of_policy}
use Rattle.rounds.specs.RoundForm.{RequestForm, SessionForm}
use Rattle.slots.specs.Slots.{Free, InTable, Owns, Slot, held, most_unfinished, slot_at, slot_limit, vacant}

-- "14, the seat's number, from 0, is past the list's end or above 63; 15, seat holds an unfinished session (fresh or waiting); 16, owner has four or more."
-- "Opening tests 7, 14, 15, 16": slot i, owner o, request r. "Seats past the 64th are never read".
abbrev pub OpeningForm : List Slot → ℕ → ℕ → ℕ → List (Type 0 × ℕ)
OpeningForm xs i o r =
    RequestForm r
    ++ ((InTable xs i, 14) ∷ (Free (slot_at xs i), 15) ∷ ((Owns o xs slot_limit most_unfinished → ⊥), 16) ∷ [])

-- "an empty seat as 8, then the session as before"
abbrev pub SlotForm : Slot → Move → List (Type 0 × ℕ)
SlotForm vacant m = (⊥, 8) ∷ []
SlotForm (held o s) m = SessionForm s m

-- "a round tests the policy, 14, then an empty seat as 8, then the session as before"
unfoldable pub RoundAtForm : List ℕ → List Slot → ℕ → Move → List (Type 0 × Refusal)
RoundAtForm bytes xs i m = relabelled of_policy (PolicyForm bytes) ++ relabelled number ((InTable xs i, 14) ∷ SlotForm (slot_at xs i) m)
