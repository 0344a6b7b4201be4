-- Bytes that are all 0, tested one by one. Assumes nothing.
use mathlib.Core.Path.{◌≡◌, ap, refl}
use mathlib.Core.Bool.{◌&&◌}
use mathlib.Core.List.{List, [], ◌∷◌}
use Prim.Native.Nat.{ℕ}
use lib.Dec.{eqb}
use Rattle.std.specs.List.{list_all}
use Rattle.slot_packing.specs.PackedSlots.{all_zero}

pub all_zero_is : (bytes : List ℕ) → all_zero bytes ≡ list_all (λ byte. eqb byte 0) bytes
unfolding all_zero
all_zero_is [] = refl
all_zero_is (b ∷ bytes) = ap (◌&&◌ (eqb b 0)) (all_zero_is bytes)
