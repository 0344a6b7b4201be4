-- What the program's slots and answers mean is one-to-one: each map has a way back. Assumes nothing.
use Rattle.std.specs.Prelude.{Err, None, Ok, Option, Result, Some, ⊤}
use mathlib.Core.Path.{◌≡◌, ap, refl}
use mathlib.Core.Bool.{cond}
use mathlib.Core.Option as Math
use lib.Dec.{eqb}
use Rattle.atoms.proofs.MapLaws.{one_to_one}
use Rattle.rounds.specs.Refusals as R
use Rattle.rounds.specs.Rounds as O
use Rattle.slots.specs.Slots as S
use Rattle.session.specs.declared.answer.Ending.{Ending}
use Rattle.session.specs.declared.refusal.Refusal.TheVariants as session-refusal
use Rattle.session.proofs.TypeLaws as session
use Rattle.slot_steps.specs.Types.{answer_of, opens_of, refusal_of, slot_of}
use Rattle.slot_steps.specs.declared.Holding.{Holding}
use Rattle.slot_steps.specs.declared.Slot.{Slot}
use Rattle.slot_steps.specs.declared.refusal.Refusal.{Refusal}
use Rattle.slot_steps.specs.declared.refusal.Refusal.TheVariants as refusal

slot_back : S.Slot → Slot
slot_back S.vacant = record { holding = None }
slot_back (S.held o s) = record { holding = Some (record { owner = o; session = session.session_back s }) }

slot_back_lem : (x : Slot) → slot_back (slot_of x) ≡ x
unfolding slot_back
slot_back_lem x = go x.holding
  where
    go : (h : Option Holding) → slot_back (slot_of (record { holding = h })) ≡ record { holding = h }
    go None = refl
    go (Some h) = ap (λ t. record { holding = Some (record { owner = h.owner; session = t }) }) (session.session_back_lem h.session)

refusal_back : R.Refusal → Refusal
refusal_back (R.of_policy f) = refusal.Session (session.refusal_back (R.of_policy f))
refusal_back (R.number n) =
    cond (eqb n 14) refusal.NoSlot
    (cond (eqb n 15) refusal.Unfinished (cond (eqb n 16) refusal.Full (refusal.Session (session.refusal_back (R.number n)))))

refusal_back_lem : (x : Refusal) → refusal_back (refusal_of x) ≡ x
unfolding refusal_back
refusal_back_lem (refusal.Session (session-refusal.Policy f)) = ap refusal.Session (session.refusal_back_lem (session-refusal.Policy f))
refusal_back_lem (refusal.Session session-refusal.Request) = ap refusal.Session (session.refusal_back_lem session-refusal.Request)
refusal_back_lem (refusal.Session session-refusal.Unsound) = ap refusal.Session (session.refusal_back_lem session-refusal.Unsound)
refusal_back_lem (refusal.Session session-refusal.Closed) = ap refusal.Session (session.refusal_back_lem session-refusal.Closed)
refusal_back_lem refusal.NoSlot = refl
refusal_back_lem refusal.Unfinished = refl
refusal_back_lem refusal.Full = refl

answer_back : O.Answer → Result Ending Refusal
answer_back (O.ends e) = Ok (session.ending_back e)
answer_back (O.refused f) = Err (refusal_back f)

answer_back_lem : (x : Result Ending Refusal) → answer_back (answer_of x) ≡ x
unfolding answer_back
answer_back_lem (Ok e) = ap Ok (session.ending_back_lem e)
answer_back_lem (Err f) = ap Err (refusal_back_lem f)

opens_back : Math.Option R.Refusal → Result ⊤ Refusal
opens_back Math.none = Ok tt
opens_back (Math.some f) = Err (refusal_back f)

opens_back_lem : (x : Result ⊤ Refusal) → opens_back (opens_of x) ≡ x
unfolding opens_back
opens_back_lem (Ok x) = refl
opens_back_lem (Err f) = ap Err (refusal_back_lem f)

pub slot_one : (x y : Slot) → slot_of x ≡ slot_of y → x ≡ y
slot_one = one_to_one slot_of slot_back slot_back_lem

pub answer_one : (x y : Result Ending Refusal) → answer_of x ≡ answer_of y → x ≡ y
answer_one = one_to_one answer_of answer_back answer_back_lem

pub opens_one : (x y : Result ⊤ Refusal) → opens_of x ≡ opens_of y → x ≡ y
opens_one = one_to_one opens_of opens_back opens_back_lem
