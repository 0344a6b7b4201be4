-- The theorems of the program's slots: what the maps from its types say. Assumes nothing.
use Rattle.std.specs.Prelude.{◌≡◌, ⊤, Result}
use Rattle.session.specs.declared.answer.Ending.{Ending}
use Rattle.slot_steps.specs.Types.{answer_of, opens_of, slot_of}
use Rattle.slot_steps.specs.declared.Slot.{Slot}
use Rattle.slot_steps.specs.declared.refusal.Refusal.{Refusal}

pub record Theorems : Type 0 where
  -- what the program's types mean is one-to-one, so that a contract through these maps fixes the result
  pub slot_one : (x y : Slot) → slot_of x ≡ slot_of y → x ≡ y
  pub answer_one : (x y : Result Ending Refusal) → answer_of x ≡ answer_of y → x ≡ y
  pub opens_one : (x y : Result ⊤ Refusal) → opens_of x ≡ opens_of y → x ≡ y
