-- The theorems of specs/Theorems. Assumes nothing.
use Rattle.slot_steps.specs.Theorems.{Theorems}
use Rattle.slot_steps.proofs.TypeLaws.{answer_one, opens_one, slot_one}

pub theorems : Theorems
theorems = record { slot_one = slot_one; answer_one = answer_one; opens_one = opens_one }
