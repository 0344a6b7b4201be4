-- Previews among calls on a lent list of slots. Assumes nothing.
use mathlib.Core.Path.{◌∙◌, ◌≡◌, ap, refl, subst, sym}
use mathlib.Core.Logic.{◌≢◌}
use mathlib.Core.List.{List, [], ◌++◌, ◌∷◌, map}
use Prim.Native.Nat.{ℕ}
use Rattle.std.specs.Prelude.{Result}
use Rattle.lists.specs.Lists.{Every}
use Rattle.lists.specs.Runs.{last, run}
use Rattle.slots.specs.Slots as S
use Rattle.operations.specs.Operations.{named, steps_of}
use Rattle.previews.specs.Acts.{Act, act, does, operations_in, previews, slots_after}
use Rattle.previews.specs.Previews as P
use Rattle.previews.specs.Previews.{preview_at, session_at}
use Rattle.previews.proofs.ActLaws.{after_next, stays}
use Rattle.session.specs.Types.{move_of}
use Rattle.session.specs.declared.Move.{Move}
use Rattle.session.specs.declared.answer.Ending.{Ending}
use Rattle.slot_steps.specs.declared.Slot.{Slot}
use Rattle.slot_steps.specs.declared.refusal.Refusal.{Refusal}
use Rattle.slot_steps.proofs.TypeLaws.{answer_one}
use Rattle.slot_preview.specs.Types.{next_of, preview_of}
use Rattle.slot_preview.specs.declared.Preview.{Preview}
use Rattle.occupancy.specs.Types.{table_of}
use Rattle.table_calls.specs.Calls as T
use Rattle.table_calls.specs.Calls.{opening_at, operation_of, playing_at, step_of}
use Rattle.table_calls.proofs.CallsProof.{calls_mean as operations-mean}
use Rattle.preview_calls.specs.Calls.{Call, Calls, CallsMean, Kept, left_after, left_by, operates, previewing_at, without_previews}

pub calls_mean : CallsMean
unfolding without_previews
calls_mean = record {
  none = λ xs. tt;
  one_more = λ xs c cs. (λ h. h, λ h. h);
  preview = λ xs bytes i m v. (λ (e, d). e, λ e. (e, refl));
  no_calls = refl;
  call = λ c cs. refl;
  no_call = λ bytes i m v ys cs. refl;
}

-- ---- taken out

pub taken_out : (xs : List Slot) (cs : List Call) → Calls xs cs → T.Calls xs (without_previews cs)
unfolding without_previews
taken_out xs [] h = operations-mean.none xs
taken_out xs (operates c ∷ cs) (k, h) = (operations-mean.one_more xs c (without_previews cs)).1 (k, taken_out (T.left_by c) cs h)
taken_out xs (previewing_at bytes i m v ys ∷ cs) (k, h) = subst (λ (zs : List Slot). T.Calls zs (without_previews cs)) k.1 (taken_out ys cs h)

pub same : (xs : List Slot) (cs : List Call) → Calls xs cs → (ds : List T.Call) → T.Calls xs ds
    → map operation_of ds ≡ map operation_of (without_previews cs) → map step_of ds ≡ map step_of (without_previews cs)
same xs cs h ds k e = k ∙ ap (steps_of (table_of xs)) e ∙ sym (taken_out xs cs h)

-- ---- put in

pub others : (xs : List Slot) (ds : List T.Call) → T.Calls xs ds → Calls xs (map operates ds)
others xs [] h = tt
others xs (d ∷ ds) h = let (k, g) = (operations-mean.one_more xs d ds).0 h in (k, others (T.left_by d) ds g)

pub put_in : (xs : List Slot) (before after : List Call) → Calls xs (before ++ after) → (bytes : List ℕ) (i : ℕ) (m : Move) (v : Preview)
    → preview_of v ≡ preview_at bytes (table_of (left_after xs before)) i (move_of m)
    → Calls xs (before ++ (previewing_at bytes i m v (left_after xs before) ∷ after))
put_in xs [] after h bytes i m v e = ((e, refl), h)
put_in xs (c ∷ before) after (k, h) bytes i m v e = (k, put_in (left_by c) before after h bytes i m v e)

pub left : (xs : List Slot) (cs : List Call) → Calls xs cs → left_after xs cs ≡ left_after xs (map operates (without_previews cs))
unfolding without_previews
left xs [] h = refl
left xs (operates c ∷ cs) (k, h) = left (T.left_by c) cs h
left xs (previewing_at bytes i m v ys ∷ cs) (k, h) = left ys cs h ∙ ap (λ (zs : List Slot). left_after zs (map operates (without_previews cs))) k.1

-- ---- as openings, rounds and previews of the definitions

act_of : Call → Act
act_of (operates c) = does (operation_of c)
act_of (previewing_at bytes i m v ys) = previews bytes i (move_of m)

left_is : (xs : List Slot) (c : Call) → Kept xs c → table_of (left_by c) ≡ (act (table_of xs) (act_of c)).table
unfolding act_of
left_is xs (operates (opening_at i o r a ys)) k = k.1
left_is xs (operates (playing_at bytes i m a ys)) k = k.1
left_is xs (previewing_at bytes i m v ys) k = ap table_of k.1

after_is : (xs : List Slot) (cs : List Call) → Calls xs cs → table_of (left_after xs cs) ≡ slots_after (table_of xs) (map act_of cs)
unfolding slots_after run last
after_is xs [] h = refl
after_is xs (c ∷ cs) (k, h) =
    after_is (left_by c) cs h ∙ ap (λ (zs : List S.Slot). slots_after zs (map act_of cs)) (left_is xs c k) ∙ sym (after_next (table_of xs) (act_of c) (map act_of cs))

elsewhere : (i : ℕ) (cs : List Call) → Every (λ c. named (operation_of c) ≢ i) (without_previews cs) → Every (λ x. named x ≢ i) (operations_in (map act_of cs))
unfolding act_of without_previews operations_in
elsewhere i [] h = tt
elsewhere i (operates c ∷ cs) h = (h.0, elsewhere i cs h.1)
elsewhere i (previewing_at bytes k m v ys ∷ cs) h = elsewhere i cs h

-- ---- the round afterwards

pub round_after : (xs : List Slot) (bytes : List ℕ) (i : ℕ) (m : Move) (v : Preview) (ys : List Slot) → Kept xs (previewing_at bytes i m v ys)
    → (cs : List Call) → Calls ys cs → Every (λ c. named (operation_of c) ≢ i) (without_previews cs)
    → (a : Result Ending Refusal) (zs : List Slot) → T.Kept (left_after ys cs) (playing_at bytes i m a zs)
    → (a ≡ v.answer) × (next_of v.session ≡ session_at (table_of zs) i)
unfolding preview_at
round_after xs bytes i m v ys (e, d) cs h n a zs (p, q) = (
  answer_one a v.answer (p ∙ sym (ap (λ (w : P.Preview). w.answer) shown)),
  ap (λ (w : P.Preview). w.session) shown ∙ ap (λ (ws : List S.Slot). session_at ws i) (sym q),
)
  where
    shown : preview_of v ≡ preview_at bytes (table_of (left_after ys cs)) i (move_of m)
    shown = e ∙ ap (λ (ws : List Slot). preview_at bytes (table_of ws) i (move_of m)) (sym d)
        ∙ sym (stays bytes (table_of ys) i (move_of m) (map act_of cs) (elsewhere i cs n))
        ∙ ap (λ (ws : List S.Slot). preview_at bytes ws i (move_of m)) (sym (after_is ys cs h))
