-- Document 02, R-5: an opening at a slot. Assumes nothing.
use Rattle.std.specs.Prelude.{Bool, List, [], ◌++◌, ◌∷◌, ℕ, ltb, set}
use Rattle.std.proofs.Math.Option.{Option, none, some}
use Rattle.validation.specs.Tests.{first_failed, relabelled}
use Rattle.rounds.specs.Refusals.{Refusal, number}
use Rattle.rounds.specs.RoundTest.{request_tests}
use Rattle.rounds.specs.Sessions.{opened}
use Rattle.slots.specs.Slots.{Slot, held, in_table, is_free, most_unfinished, slot_at, slot_limit, unfinished}

-- what an opening or a round answers, and the list after it
pub record Reply (A : Type 0) : Type 0 where
  pub answer : A
  pub table : List Slot

-- "Opening tests 7, 14, 15, 16": slot i, owner o, request r
abbrev pub slot_opening_tests : List Slot → ℕ → ℕ → ℕ → List (Bool × ℕ)
slot_opening_tests xs i o r =
    request_tests r
    ++ ((in_table xs i, 14) ∷ (is_free (slot_at xs i), 15) ∷ (ltb (unfinished o xs slot_limit) most_unfinished, 16) ∷ [])

unfoldable pub opening_refusal : List Slot → ℕ → ℕ → ℕ → Option Refusal
opening_refusal xs i o r = first_failed (relabelled number (slot_opening_tests xs i o r))

-- "Opening names seat and owner and may take an empty seat or one whose session is closed."; "a refusal leaves the list"
abbrev pub taken_unless : Option Refusal → List Slot → ℕ → Slot → Reply (Option Refusal)
taken_unless none xs i x = record { answer = none; table = set xs i x }
taken_unless (some f) xs i x = record { answer = some f; table = xs }

-- the refusal, if there is one, and the list
unfoldable pub open_at : List Slot → ℕ → ℕ → ℕ → Reply (Option Refusal)
open_at xs i o r = taken_unless (opening_refusal xs i o r) xs i (held o (opened r))
