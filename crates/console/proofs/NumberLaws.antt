-- A number of two bytes, the lower first. Assumes nothing.
use mathlib.Core.Path.{◌≡◌}
use mathlib.Core.List.{[], ◌∷◌}
use Prim.Native.Nat.{ℕ}
use native.Mathlib.Omega.{arith}
use Rattle.std.specs.Int.{from_le_bytes, w16}
use Rattle.encoding.specs.LittleEndian.{little_endian}

pub two_bytes : (low high : ℕ) → from_le_bytes w16 (low ∷ high ∷ []) ≡ little_endian (low ∷ high ∷ [])
unfolding little_endian
two_bytes low high = omega arith
