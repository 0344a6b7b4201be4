-- Lists of calls on a lent list of slots are lists of operations. Assumes nothing.
use mathlib.Core.Path.{◌∙◌, ◌≡◌, ap, refl, subst, sym}
use mathlib.Core.Logic.{◌↔◌}
use mathlib.Core.List.{List, ◌++◌, ◌∷◌, map}
use mathlib.Core.Option.{Option}
use Rattle.std.specs.Prelude.{Ok}
use Rattle.lists.specs.Lists.{Every}
use Rattle.lists.specs.Runs.{run}
use Rattle.lists.proofs.ListLaws.{every_imp, every_map, every_unmap, map_append}
use Rattle.lists.proofs.RunLaws.{run_more}
use Rattle.rounds.specs.Refusals.{Refusal}
use Rattle.rounds.specs.Rounds.{Answer}
use Rattle.slots.specs.Openings.{Reply, open_at}
use Rattle.slots.specs.RoundsAt.{round_at}
use Rattle.slots.specs.Slots as S
use Rattle.operations.specs.AtSlot.{NotOpened}
use Rattle.operations.specs.Operations.{Answered, Fitting, Step, operate, opening, round, steps_of}
use Rattle.operations.specs.Theorems.{AtMostFour, SoundSlot}
use Rattle.operations.proofs.TheoremsProof as operations
use Rattle.session.specs.Types.{move_of}
use Rattle.slot_steps.specs.Types.{answer_of, opens_of}
use Rattle.slot_steps.specs.declared.Slot.{Slot}
use Rattle.occupancy.specs.Types.{table_of}
use Rattle.table_calls.specs.Calls.{Call, Calls, CallsMean, Kept, ProgramMeets, left_by, opening_at, operation_of, playing_at, step_of}

-- what a call gave is what the operation gives
kept_is : (xs : List Slot) (c : Call) → ((step_of c).gives ≡ operate (table_of xs) (operation_of c)) ↔ Kept xs c
kept_is xs (opening_at i o r a ys) = (
  λ e.
      let told : opening (opens_of a) ≡ opening (open_at (table_of xs) i o r).answer = ap (λ (g : Reply Answered). g.answer) e in
      let same : opens_of a ≡ (open_at (table_of xs) i o r).answer = cc told in
      (same, ap (λ (g : Reply Answered). g.table) e),
  λ (p, q). ap (λ (x : Option Refusal). record { answer = opening x; table = table_of ys }) p
      ∙ ap (λ (zs : List S.Slot). record { answer = opening (open_at (table_of xs) i o r).answer; table = zs }) q,
)
kept_is xs (playing_at bytes i m a ys) = (
  λ e.
      let told : round (answer_of a) ≡ round (round_at bytes (table_of xs) i (move_of m)).answer = ap (λ (g : Reply Answered). g.answer) e in
      let same : answer_of a ≡ (round_at bytes (table_of xs) i (move_of m)).answer = cc told in
      (same, ap (λ (g : Reply Answered). g.table) e),
  λ (p, q). ap (λ (x : Answer). record { answer = round x; table = table_of ys }) p
      ∙ ap (λ (zs : List S.Slot). record { answer = round (round_at bytes (table_of xs) i (move_of m)).answer; table = zs }) q,
)

left_is : (c : Call) → (step_of c).gives.table ≡ table_of (left_by c)
left_is (opening_at i o r a ys) = refl
left_is (playing_at bytes i m a ys) = refl

pub calls_mean : CallsMean
unfolding run
calls_mean = record {
  none = λ xs. refl;
  one_more = λ xs c cs.
      let i = run_more operate (λ (g : Reply Answered). g.table) (table_of xs) (step_of c) (map step_of cs) (map operation_of cs) in
      let k = kept_is xs c in (
        λ e. let (f, g) = i.0 e in (k.0 f, subst (λ (zs : List S.Slot). map step_of cs ≡ steps_of zs (map operation_of cs)) (left_is c) g),
        λ (f, g). i.1 (k.1 f, subst (λ (zs : List S.Slot). map step_of cs ≡ steps_of zs (map operation_of cs)) (sym (left_is c)) g),
      );
}

-- what holds of every step holds of every call
of_steps : (P : List S.Slot → Type 0) (xs : List Slot) (cs : List Call) → Calls xs cs
    → Every (λ t. P t.gives.table) (steps_of (table_of xs) (map operation_of cs)) → Every (λ c. P (table_of (left_by c))) cs
of_steps P xs cs h e =
    every_imp (λ c. P (step_of c).gives.table) (λ c. P (table_of (left_by c))) (λ c p. subst P (left_is c) p) cs
    (every_unmap (λ (t : Step). P t.gives.table) step_of cs (subst (Every (λ (t : Step). P t.gives.table)) (sym h) e))

fitting : (cs : List Call) → Every (λ c. Fitting (operation_of c)) cs → Every Fitting (map operation_of cs)
fitting cs f = every_map (λ (c : Call). Fitting (operation_of c)) Fitting operation_of (λ c g. g) cs f

-- a list of calls that is cut at an opening
cut : (before : List Call) (t : Call) (during after : List Call)
    → map step_of (before ++ (t ∷ (during ++ after))) ≡ map step_of before ++ (step_of t ∷ (map step_of during ++ map step_of after))
cut before t during after =
    map_append step_of before (t ∷ (during ++ after))
    ∙ ap (λ (ts : List Step). map step_of before ++ (step_of t ∷ ts)) (map_append step_of during after)

pub program_meets : ProgramMeets
program_meets = record {
  four = λ xs empty cs h. of_steps AtMostFour xs cs h ((operations.theorems).four (table_of xs) empty (map operation_of cs));
  sound = λ xs empty cs f h.
      of_steps (Every SoundSlot) xs cs h ((operations.theorems).sound (table_of xs) empty (map operation_of cs) (fitting cs f));
  demand3 = λ xs before i o r ys during after f h n.
      let t = opening_at i o r (Ok tt) ys in
      (operations.theorems).demand3 (table_of xs) (map operation_of (before ++ (t ∷ (during ++ after)))) (fitting (before ++ (t ∷ (during ++ after))) f)
      (map step_of before) (step_of t) (map step_of during) (map step_of after) (sym h ∙ cut before t during after) i o r refl refl
      (every_map (λ (c : Call). NotOpened i (step_of c)) (NotOpened i) step_of (λ c g. g) during n);
}
