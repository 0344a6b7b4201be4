-- Document 02, R-5: a round at a slot. Assumes nothing.
use Rattle.std.specs.Prelude.{cond, List, ℕ, set}
use Rattle.std.proofs.Math.Option.{Option, none, some}
use Rattle.form.specs.PolicyTest.{policy_refusal}
use Rattle.form.specs.WrittenForm as W
use Rattle.rounds.specs.Moves.{Move}
use Rattle.rounds.specs.Refusals.{Refusal, number, of_policy}
use Rattle.rounds.specs.Rounds.{Answer, Outcome, refused, round}
use Rattle.slots.specs.Openings.{Reply}
use Rattle.slots.specs.Slots.{Slot, held, in_table, slot_at, vacant}

-- the policy's refusal, or else this one: "a round tests the policy" first
abbrev pub policy_or : Option W.Refusal → Refusal → Refusal
policy_or none f = f
policy_or (some g) f = of_policy g

unfoldable pub refused_by : List ℕ → ℕ → Answer
refused_by bytes n = refused (policy_or (policy_refusal bytes) (number n))

-- what a round at one slot answers, and the slot after it
pub record SlotTurn : Type 0 where
  pub answer : Answer
  pub slot : Slot

abbrev pub held_by : ℕ → Outcome → SlotTurn
held_by o x = record { answer = x.answer; slot = held o x.session }

-- "an empty seat as 8, then the session as before"; "A round is that of the seat's session"
unfoldable pub slot_round : List ℕ → Slot → Move → SlotTurn
slot_round bytes vacant m = record { answer = refused_by bytes 8; slot = vacant }
slot_round bytes (held o s) m = held_by o (round bytes s m)

abbrev pub put_back : List Slot → ℕ → SlotTurn → Reply Answer
put_back xs i t = record { answer = t.answer; table = set xs i t.slot }

-- "14, the seat's number, from 0, is past the list's end or above 63", "and touches nothing else"
unfoldable pub round_at : List ℕ → List Slot → ℕ → Move → Reply Answer
round_at bytes xs i m =
    cond (in_table xs i) (put_back xs i (slot_round bytes (slot_at xs i) m)) (record { answer = refused_by bytes 14; table = xs })
