-- Numbers in a line. Assumes nothing.
use mathlib.Core.Path.{◌≡◌, ap}
use mathlib.Core.List.{◌++◌, ◌∷◌, []}
use Prim.Native.Nat.{◌%◌, ◌/◌, ◌<◌, ◌^◌, ℕ}
use borrow.Author.Tests.{le-ltb, lt-ltb}
use native.Mathlib.Omega.{arith}
use Rattle.std.specs.Fmt as F
use Rattle.std.proofs.lemmas.Fmt.{AppendsLastDigit, decimal_from_appends, length-decimal-le}
use Rattle.transcript.proofs.NumeralLaws.{digit_ten}
use Rattle.transcript.specs.Numerals.{decimal, decimal_in}

last_digits : AppendsLastDigit decimal_in
unfolding decimal_in
last_digits = record {
  one = λ k n l. rw (lt-ltb n 10 l) (ap (λ (d : ℕ). d ∷ []) (digit_ten n l));
  more = λ k n m. rw (le-ltb n 10 m) (ap (λ (d : ℕ). decimal_in k (n / 10) ++ (d ∷ [])) (digit_ten (n % 10) (omega arith)));
}

-- a byte in decimal is what the formatter writes
pub decimal_formatted : (n : ℕ) → n < 2 ^ 8 → decimal n ≡ F.decimal n
decimal_formatted n l = decimal_from_appends decimal_in last_digits 3 n (omega arith) (length-decimal-le 3 n (omega arith) (omega arith) (omega arith))
