-- The theorem of the program's previews: what the map from its types says. Assumes nothing.
use Rattle.std.specs.Prelude.{◌≡◌}
use Rattle.slot_preview.specs.Types.{preview_of}
use Rattle.slot_preview.specs.declared.Preview.{Preview}

pub record Theorems : Type 0 where
  -- what a preview means is one-to-one, so that a contract through the map fixes the result
  pub preview_one : (x y : Preview) → preview_of x ≡ preview_of y → x ≡ y
