-- What the program's steps at one slot come to. Assumes nothing.
use mathlib.Core.Path.{◌∙◌, ◌≡◌, ap, refl, sym}
use mathlib.Core.Bool.{Bool, false, true}
use mathlib.Core.List.{List, [], ◌∷◌}
use mathlib.Core.Option.{Option, none, some}
use Prim.Native.Nat.{◌<◌, ◌≤◌, ℕ}
use lib.Dec.{ltb}
use borrow.Author.Tests.{le-ltb, lt-ltb}
use Rattle.validation.specs.Tests.{first_failed}
use Rattle.validation.specs.Unless.{Unless}
use Rattle.form.specs.PolicyTest.{policy_refusal}
use Rattle.form.specs.WrittenForm as W
use Rattle.rounds.specs.Moves.{Move}
use Rattle.rounds.specs.Refusals.{Refusal, number}
use Rattle.rounds.specs.Rounds.{Answer, Outcome, opening, refused, round}
use Rattle.rounds.specs.Sessions.{Session}
use Rattle.slots.specs.RoundsAt.{SlotTurn, held_by, policy_or, refused_by, slot_round}
use Rattle.slots.specs.Slots.{Slot, held, is_free, most_unfinished, vacant}
use Rattle.slot_steps.specs.Steps.{SlotOpening, open_slot, open_with, past_refusal, past_with, take_slot, take_unless}

-- ---- rounds

-- the policy's test comes out as t
pub policy_first : (bytes : List ℕ) (t : Option W.Refusal) (f : Refusal) → policy_refusal bytes ≡ t
    → ◌≡◌ {A = Answer} (refused (policy_or t f)) (refused (policy_or (policy_refusal bytes) f))
policy_first bytes t f e = ap (λ (y : Option W.Refusal). refused (policy_or y f)) (sym e)

pub by_number : (bytes : List ℕ) (n : ℕ) (a : Answer) → a ≡ refused (policy_or (policy_refusal bytes) (number n)) → a ≡ refused_by bytes n
unfolding refused_by
by_number bytes n a e = e

turned : Answer → Slot → SlotTurn
turned a x = record { answer = a; slot = x }

-- an empty slot
pub vacant_round : (bytes : List ℕ) (x : Slot) (m : Move) (a : Answer) → x ≡ vacant → a ≡ refused_by bytes 8
    → ◌≡◌ {A = SlotTurn} (record { answer = a; slot = x }) (slot_round bytes x m)
unfolding slot_round turned
vacant_round bytes x m a v e = ap (λ (y : Answer). turned y x) e ∙ ap (turned (refused_by bytes 8)) v ∙ sym (ap (λ (y : Slot). slot_round bytes y m) v)

-- one that holds a session
pub held_round : (bytes : List ℕ) (x : Slot) (m : Move) (o : ℕ) (s : Session) (y : Outcome) → x ≡ held o s → y ≡ round bytes s m
    → held_by o y ≡ slot_round bytes x m
unfolding slot_round
held_round bytes x m o s y v e = ap (held_by o) e ∙ sym (ap (λ (z : Slot). slot_round bytes z m) v)

-- ---- openings

taken : (a b : Bool) → Slot → ℕ → Session → SlotOpening
taken a b x o s = take_unless (first_failed ((a, number 15) ∷ (b, number 16) ∷ [])) x (held o s)

module _ (x : Slot) (n o : ℕ) (s : Session) where
  tested : (a b : Bool) → is_free x ≡ a → ltb n most_unfinished ≡ b → taken a b x o s ≡ take_slot x n o s
  unfolding take_slot taken
  tested a b e f = ap (λ (y : Bool). taken y b x o s) (sym e) ∙ ap (λ (y : Bool). taken (is_free x) y x o s) (sym f)

  pub takes_15 : is_free x ≡ false → ◌≡◌ {A = SlotOpening} (record { answer = some (number 15); slot = x }) (take_slot x n o s)
  unfolding taken first_failed
  takes_15 e = tested false (ltb n most_unfinished) e refl

  pub takes_16 : is_free x ≡ true → most_unfinished ≤ n → ◌≡◌ {A = SlotOpening} (record { answer = some (number 16); slot = x }) (take_slot x n o s)
  unfolding taken first_failed
  takes_16 e l = tested true false e (le-ltb n most_unfinished l)

  pub takes : is_free x ≡ true → n < most_unfinished → ◌≡◌ {A = SlotOpening} (record { answer = none; slot = held o s }) (take_slot x n o s)
  unfolding taken first_failed
  takes e l = tested true true e (lt-ltb n most_unfinished l)

-- once the opening of a session has come out as p
pub opens_with_lem : (x : Slot) (n o r : ℕ) (p : Unless Refusal Session) → p ≡ opening r → open_with p x n o ≡ open_slot x n o r
unfolding open_slot
opens_with_lem x n o r p e = ap (λ (y : Unless Refusal Session). open_with y x n o) e

pub past_with_lem : (r : ℕ) (p : Unless Refusal Session) → p ≡ opening r → past_with p ≡ past_refusal r
unfolding past_refusal
past_with_lem r p e = ap past_with e
