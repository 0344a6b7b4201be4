-- The sum of a function at the first numbers. Assumes nothing.
use Rattle.std.specs.Prelude.{◌+◌, suc, zero, ℕ}

-- the sum of f at the numbers below n
unfoldable pub sum : (ℕ → ℕ) → ℕ → ℕ
sum f zero = 0
sum f (suc n) = sum f n + f n
