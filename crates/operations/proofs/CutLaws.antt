-- Slots from the 64th on: never read, and left. Assumes nothing.
use mathlib.Core.Path.{◌∙◌, ◌≡◌, ap, refl, sym}
use mathlib.Core.List.{List, [], ◌++◌, ◌∷◌, map}
use lib.ListN.{drop, take}
use Rattle.lists.specs.Runs.{run}
use Rattle.slots.specs.Slots.{Slot, slot_limit}
use Rattle.slots.proofs.TableLaws.{Cut, opening_cut, round_cut}
use Rattle.operations.specs.Operations.{Answered, Operation, Step, operate, opening, opens, plays, round, steps_of}

step_cut : (xs : List Slot) (x : Operation) → Cut xs (operate xs x) (operate (take slot_limit xs) x)
step_cut xs (opens i o r) = let c = opening_cut xs i o r in record { answer = ap opening c.answer; table = c.table; front = c.front }
step_cut xs (plays bytes i m) = let c = round_cut xs bytes i m in record { answer = ap round c.answer; table = c.table; front = c.front }

pub unread : (xs : List Slot) (x : Operation) → (operate xs x).answer ≡ (operate (take slot_limit xs) x).answer
unread xs x = (step_cut xs x).answer

pub left : (xs : List Slot) (x : Operation) → (operate xs x).table ≡ (operate (take slot_limit xs) x).table ++ drop slot_limit xs
left xs x = (step_cut xs x).table

pub alike : (xs ys : List Slot) → take slot_limit xs ≡ take slot_limit ys → (ops : List Operation)
    → map (λ (t : Step). t.gives.answer) (steps_of xs ops) ≡ map (λ (t : Step). t.gives.answer) (steps_of ys ops)
unfolding run
alike xs ys e [] = refl
alike xs ys e (x ∷ ops) =
    ap (λ (a : Answered). a ∷ map (λ (t : Step). t.gives.answer) (steps_of (operate xs x).table ops)) answers
    ∙ ap (◌∷◌ (operate ys x).answer) (alike (operate xs x).table (operate ys x).table fronts ops)
  where
    answers : (operate xs x).answer ≡ (operate ys x).answer
    answers = unread xs x ∙ ap (λ (zs : List Slot). (operate zs x).answer) e ∙ sym (unread ys x)

    fronts : take slot_limit (operate xs x).table ≡ take slot_limit (operate ys x).table
    fronts = (step_cut xs x).front ∙ ap (λ (zs : List Slot). (operate zs x).table) e ∙ sym (step_cut ys x).front
