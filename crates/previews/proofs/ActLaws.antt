-- Previews among openings and rounds: they change nothing, and what they show stays so. Assumes nothing.
use mathlib.Core.Path.{◌∙◌, ◌≡◌, ap, refl, sym}
use mathlib.Core.Logic.{◌≢◌}
use mathlib.Core.Bool.{◌&&◌}
use mathlib.Core.List.{List, [], ◌++◌, ◌∷◌}
use mathlib.Core.Option.{Option}
use Prim.Native.Nat.{ℕ}
use lib.Dec.{ltb}
use lib.ListN.{length, length-set}
use Rattle.lists.specs.Lists.{Every}
use Rattle.lists.specs.Runs.{last, reached, run}
use Rattle.lists.proofs.RunLaws.{reached_next}
use Rattle.rounds.specs.Moves.{Move}
use Rattle.rounds.specs.Refusals.{Refusal}
use Rattle.rounds.specs.Rounds.{Answer}
use Rattle.slots.specs.Openings.{Reply, open_at}
use Rattle.slots.specs.RoundsAt.{round_at}
use Rattle.slots.specs.Slots.{Slot, slot_limit}
use Rattle.slots.proofs.TableLaws.{OpeningCase, RoundAtCase, inside, opening_case, outside, round_at-case, taken, turned_away_lem}
use Rattle.operations.specs.Operations.{Answered, Operation, named, operate, opens, plays, steps_of}
use Rattle.operations.proofs.ApartLaws.{apart}
use Rattle.previews.specs.Acts.{Act, Acted, ActsMean, Between, Told, act, acts_of, does, operations_in, previews, slots_after, steps_in}
use Rattle.previews.specs.Previews.{preview_at}
use Rattle.previews.proofs.PreviewLaws.{alike}

-- ---- taken out

pub acts_mean : ActsMean
unfolding operations_in steps_in
acts_mean = record {
  no_operations = refl;
  operation = λ x acts. refl;
  no_operation = λ bytes i m acts. refl;
  no_steps = refl;
  step = λ x a ys ts. refl;
  no_step = λ bytes i m g ts. refl;
}

pub taken_out : (xs : List Slot) (acts : List Act) → steps_in (acts_of xs acts) ≡ steps_of xs (operations_in acts)
unfolding run operations_in steps_in
taken_out xs [] = refl
taken_out xs (does x ∷ acts) = ap (◌∷◌ (record { takes = x; gives = operate xs x })) (taken_out (operate xs x).table acts)
taken_out xs (previews bytes i m ∷ acts) = taken_out xs acts

-- the slots after the first, and then the others
pub after_next : (xs : List Slot) (a : Act) (acts : List Act) → slots_after xs (a ∷ acts) ≡ slots_after (act xs a).table acts
unfolding slots_after run
after_next xs a acts =
    reached_next (λ (g : Reply Told). g.table) xs (record { takes = a; gives = act xs a }) (acts_of (act xs a).table acts)

pub left : (xs : List Slot) (acts : List Act) → slots_after xs acts ≡ reached (λ (g : Reply Answered). g.table) xs (last (steps_of xs (operations_in acts)))
unfolding slots_after run operations_in last
left xs [] = refl
left xs (does x ∷ acts) =
    after_next xs (does x) acts ∙ left (operate xs x).table acts
    ∙ sym (reached_next (λ (g : Reply Answered). g.table) xs (record { takes = x; gives = operate xs x }) (steps_of (operate xs x).table (operations_in acts)))
left xs (previews bytes i m ∷ acts) = after_next xs (previews bytes i m) acts ∙ left xs acts

-- ---- between others

acts_append : (xs : List Slot) (acts bs : List Act) → acts_of xs (acts ++ bs) ≡ acts_of xs acts ++ acts_of (slots_after xs acts) bs
unfolding run slots_after last
acts_append xs [] bs = refl
acts_append xs (a ∷ acts) bs =
    let t : Acted = record { takes = a; gives = act xs a } in
    ap (◌∷◌ t) (acts_append (act xs a).table acts bs)
    ∙ ap (λ (ys : List Slot). t ∷ (acts_of (act xs a).table acts ++ acts_of ys bs)) (sym (after_next xs a acts))

pub between : (xs : List Slot) (before : List Act) (bytes : List ℕ) (i : ℕ) (m : Move) (after : List Act) → Between xs before bytes i m after
unfolding run
between xs before bytes i m after =
    record { without = acts_append xs before after; with_it = acts_append xs before (previews bytes i m ∷ after) }

-- ---- what is shown stays so

operate_length : (xs : List Slot) (x : Operation) → length (operate xs x).table ≡ length xs
operate_length xs (opens i o r) = go (opening_case xs i o r)
  where
    go : OpeningCase xs i o r (open_at xs i o r) → length (open_at xs i o r).table ≡ length xs
    go (turned_away_lem f is) = ap (λ (g : Reply (Option Refusal)). length g.table) is
    go (taken s t m is) = ap (λ (g : Reply (Option Refusal)). length g.table) is ∙ length-set xs i _
operate_length xs (plays bytes i m) = go (round_at-case bytes xs i m)
  where
    go : RoundAtCase bytes xs i m (round_at bytes xs i m) → length (round_at bytes xs i m).table ≡ length xs
    go (outside is) = ap (λ (g : Reply Answer). length g.table) is
    go (inside t is) = ap (λ (g : Reply Answer). length g.table) is ∙ length-set xs i _

-- an opening or a round elsewhere
unmoved : (bytes : List ℕ) (xs : List Slot) (i : ℕ) (m : Move) (x : Operation) → named x ≢ i → preview_at bytes (operate xs x).table i m ≡ preview_at bytes xs i m
unfolding run
unmoved bytes xs i m x n =
    alike bytes i m (operate xs x).table xs (ap (λ (k : ℕ). ltb i k && ltb i slot_limit) (operate_length xs x)) (λ h. (apart xs i (x ∷ []) (n, tt)).0)

pub stays : (bytes : List ℕ) (xs : List Slot) (i : ℕ) (m : Move) (acts : List Act) → Every (λ x. named x ≢ i) (operations_in acts)
    → preview_at bytes (slots_after xs acts) i m ≡ preview_at bytes xs i m
unfolding slots_after run last operations_in
stays bytes xs i m [] h = refl
stays bytes xs i m (does x ∷ acts) h =
    ap (λ (ys : List Slot). preview_at bytes ys i m) (after_next xs (does x) acts) ∙ stays bytes (operate xs x).table i m acts h.1
    ∙ unmoved bytes xs i m x h.0
stays bytes xs i m (previews b k n ∷ acts) h =
    ap (λ (ys : List Slot). preview_at bytes ys i m) (after_next xs (previews b k n) acts) ∙ stays bytes xs i m acts h
