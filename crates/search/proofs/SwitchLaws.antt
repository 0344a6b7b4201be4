-- The loop that switches members. Assumes nothing.
use mathlib.Core.Path.{◌∙◌, ◌≡◌, ap, refl}
use mathlib.Core.Bool.{cond}
use mathlib.Core.List.{List}
use Prim.Native.Nat.{◌%◌, ◌+◌, ◌/◌, ◌^◌, ℕ}
use native.Mathlib.Numerals.{add-one}
use lib.Bits.{bit_xor}
use lib.Dec.{eqb}
use lib.ListN.{get_or}
use Rattle.preference.specs.Candidates.{switched}

pub switched_none : (base : ℕ) (members : List ℕ) (n : ℕ) → base ≡ switched base members 0 n
unfolding switched
switched_none base members n = refl

pub switched_more : (base : ℕ) (members : List ℕ) (j n set r : ℕ) → set ≡ switched base members j n
    → r ≡ cond (eqb (n / 2 ^ j % 2) 1) (bit_xor set (get_or members j 0)) set → r ≡ switched base members (j + 1) n
unfolding switched
switched_more base members j n set r e f =
    f ∙ ap (λ (x : ℕ). cond (eqb (n / 2 ^ j % 2) 1) (bit_xor x (get_or members j 0)) x) e ∙ rw add-one refl
