-- The theorem of specs/Theorems. Assumes nothing.
use Rattle.slot_preview.specs.Theorems.{Theorems}
use Rattle.slot_preview.proofs.TypeLaws.{preview_one}

pub theorems : Theorems
theorems = record { preview_one = preview_one }
