-- The theorem of specs/Theorems. Assumes nothing.
use mathlib.Core.Path.{◌≡◌, refl}
use mathlib.Core.List.{List, [], ◌∷◌}
use Rattle.rounds.proofs.AnswerLaws.{clash}
use Rattle.slot_steps.specs.Types.{slot_of}
use Rattle.slot_steps.specs.declared.Slot.{Slot}
use Rattle.slot_steps.proofs.TypeLaws.{slot_one}
use Rattle.occupancy.specs.Theorems.{Theorems}
use Rattle.occupancy.specs.Types.{table_of}

table_one : (xs ys : List Slot) → table_of xs ≡ table_of ys → xs ≡ ys
table_one [] [] e = refl
table_one [] (y ∷ ys) e = clash (cc)
table_one (x ∷ xs) [] e = clash (cc)
table_one (x ∷ xs) (y ∷ ys) e =
    let first : slot_of x ≡ slot_of y = cc in
    let rest : table_of xs ≡ table_of ys = cc in
    let one : x ≡ y = slot_one x y first in
    let others : xs ≡ ys = table_one xs ys rest in
    cc

pub theorems : Theorems
theorems = record { table_one = table_one }
