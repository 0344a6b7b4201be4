-- The output a record at a time, and that of any list of calls. Assumes nothing.
use mathlib.Core.Path.{◌∙◌, ◌≡◌, ap, ap₂, refl, sym}
use mathlib.Core.Bool.{Bool, cond, false, true}
use mathlib.Core.List.{List, [], ◌++◌, ◌∷◌, append_assoc, flat_map}
use Prim.Native.Nat.{◌<◌, ℕ}
use lib.Dec.{eqb}
use lib.ListN.{length}
use native.Mathlib.Omega.{arith}
use Rattle.encoding.specs.LittleEndian.{little_endian}
use Rattle.lists.specs.Runs.{Turn, run}
use Rattle.rounds.specs.Moves.{showing}
use Rattle.slots.specs.Openings.{open_at}
use Rattle.slots.specs.RoundsAt.{round_at}
use Rattle.slots.specs.Slots as S
use Rattle.operations.specs.Operations.{opens, plays}
use Rattle.previews.specs.Acts.{Act, does, previews}
use Rattle.previews.specs.Previews.{preview_at}
use Rattle.slot_steps.specs.declared.Slot.{Slot}
use Rattle.occupancy.specs.Types.{table_of}
use Rattle.station_lines.specs.Output.{acts_in, printed_by}
use Rattle.station_lines.specs.Steps.{RecordStep, opening_step, preview_step, record_step, round_step}
use Rattle.station_lines.specs.Theorems.{Calls, input_of, text_in}
use Rattle.station_lines.specs.declared.step.Step.{Step}

pub incomplete_none : (policy bytes : List ℕ) → length bytes < 5 → acts_in policy bytes ≡ []
unfolding acts_in
incomplete_none policy [] l = refl
incomplete_none policy (x ∷ []) l = refl
incomplete_none policy (x ∷ i ∷ []) l = refl
incomplete_none policy (x ∷ i ∷ o ∷ []) l = refl
incomplete_none policy (x ∷ i ∷ o ∷ low ∷ []) l = refl
incomplete_none policy (x ∷ i ∷ o ∷ low ∷ high ∷ bytes) l = absurd (omega (arith, l))

-- what a record does, and what is printed after it
abbrev before : RecordStep → List Act → List ℕ
before s acts = s.prints ++ printed_by s.table acts

by_act : (policy : List ℕ) (xs : List S.Slot) (a b c : Bool) (i o n : ℕ) (acts : List Act)
    → printed_by xs (cond a (does (opens i o n) ∷ []) (cond b (does (plays policy i (showing n)) ∷ []) (cond c (previews policy i (showing n) ∷ []) [])) ++ acts)
    ≡ before (cond a (opening_step i (open_at xs i o n)) (cond b (round_step i (showing n) (round_at policy xs i (showing n)))
    (cond c (preview_step i (showing n) (preview_at policy xs i (showing n)) xs) (record { prints = []; table = xs })))) acts
unfolding printed_by flat_map run
by_act policy xs true b c i o n acts = refl
by_act policy xs false true c i o n acts = refl
by_act policy xs false false true i o n acts = refl
by_act policy xs false false false i o n acts = refl

record_printed : (policy : List ℕ) (xs : List S.Slot) (bytes : List ℕ) → length bytes ≡ 5 → (more : List ℕ)
    → printed_by xs (acts_in policy (bytes ++ more)) ≡ before (record_step policy xs bytes) (acts_in policy more)
unfolding acts_in record_step
record_printed policy xs [] e more = absurd (omega (arith, e))
record_printed policy xs (x ∷ []) e more = absurd (omega (arith, e))
record_printed policy xs (x ∷ i ∷ []) e more = absurd (omega (arith, e))
record_printed policy xs (x ∷ i ∷ o ∷ []) e more = absurd (omega (arith, e))
record_printed policy xs (x ∷ i ∷ o ∷ low ∷ []) e more = absurd (omega (arith, e))
record_printed policy xs (x ∷ i ∷ o ∷ low ∷ high ∷ []) e more =
    by_act policy xs (eqb x 1) (eqb x 2) (eqb x 3) i o (little_endian (low ∷ high ∷ [])) (acts_in policy more)
record_printed policy xs (x ∷ i ∷ o ∷ low ∷ high ∷ y ∷ bytes) e more = absurd (omega (arith, e))

pub calls_printed : (policy : List ℕ) (xs : List Slot) (cs : List (Turn (List ℕ) Step)) → Calls policy xs cs → (rest : List ℕ) → length rest < 5
    → text_in cs ≡ printed_by (table_of xs) (acts_in policy (input_of cs ++ rest))
unfolding flat_map printed_by run
calls_printed policy xs [] h rest l = ap (printed_by (table_of xs)) (sym (incomplete_none policy rest l))
calls_printed policy xs (c ∷ cs) (e, (d, h)) rest l =
    let s = record_step policy (table_of xs) c.takes in
    let acts = acts_in policy (input_of cs ++ rest) in
    ap₂ ◌++◌ d.prints (calls_printed policy c.gives.slots cs h rest l ∙ ap (λ (ys : List S.Slot). printed_by ys acts) d.table)
    ∙ sym (record_printed policy (table_of xs) c.takes e (input_of cs ++ rest))
    ∙ ap (λ (bytes : List ℕ). printed_by (table_of xs) (acts_in policy bytes)) (sym (append_assoc c.takes (input_of cs) rest))
