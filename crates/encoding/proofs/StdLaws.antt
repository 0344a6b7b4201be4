-- Numbers and their bytes as std computes them. Assumes nothing.
use mathlib.Core.Path.{◌≡◌}
use mathlib.Core.List.{List, [], ◌∷◌}
use Prim.Native.Nat.{ℕ}
use lib.ListN.{length}
use native.Mathlib.Nat.{div-div-eq-div-mul}
use native.Mathlib.Omega.{arith}
use Rattle.std.specs.Int.{from_le_bytes, to_le_bytes, w16, w64}
use Rattle.encoding.specs.LittleEndian.{bytes_of, little_endian}
use Rattle.encoding.proofs.ByteLaws.{word_is}

pub from_le_2 : (bs : List ℕ) → length bs ≡ 2 → from_le_bytes w16 bs ≡ little_endian bs
unfolding little_endian
from_le_2 [] l = absurd (omega arith)
from_le_2 (a ∷ []) l = absurd (omega arith)
from_le_2 (a ∷ b ∷ []) l = omega arith
from_le_2 (a ∷ b ∷ c ∷ bs) l = absurd (omega arith)

pub from_le_8 : (bs : List ℕ) → length bs ≡ 8 → from_le_bytes w64 bs ≡ little_endian bs
from_le_8 bs l = omega (arith, word_is bs (omega arith))

pub to_le_2 : (n : ℕ) → to_le_bytes w16 n ≡ bytes_of 2 n
unfolding bytes_of
to_le_2 n = search arith

pub to_le_8 : (n : ℕ) → to_le_bytes w64 n ≡ bytes_of 8 n
unfolding bytes_of
to_le_8 n = simp div-div-eq-div-mul
