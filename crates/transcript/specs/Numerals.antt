-- Document 01, "The bench program": text, and numbers as text. Assumes nothing.
use Rattle.std.specs.Prelude.{◌≡◌, ◌≢◌, cond, List, [], ◌++◌, ◌∷◌, map, ◌%◌, ◌*◌, ◌+◌, ◌/◌, ◌<◌, ◌^◌, suc, zero, ℕ, ltb, length}
use Prim.Native.Char.{code}
use Prim.Native.String.{String, [] as no_text, ◌∷◌ as ◌then◌}
use Rattle.lists.specs.Lists.{Every}

-- the bytes of a text in ASCII
abbrev pub ascii : String → List ℕ
ascii no_text = []
ascii (c then s) = code c ∷ ascii s

-- the byte of a digit below 16: 0 to 9, then a to f
unfoldable pub digit : ℕ → ℕ
digit d = cond (ltb d 10) (48 + d) (87 + d)

-- "four lower-case hexadecimal digits"
unfoldable pub hexadecimal : ℕ → List ℕ
hexadecimal n = digit (n / 4096) ∷ digit (n / 256 % 16) ∷ digit (n / 16 % 16) ∷ digit (n % 16) ∷ []

-- a number below ten to the k, with no zero in front
unfoldable pub decimal_in : ℕ → ℕ → List ℕ
decimal_in zero n = []
decimal_in (suc k) n = cond (ltb n 10) (digit n ∷ []) (decimal_in k (n / 10) ++ (digit (n % 10) ∷ []))

-- "these and the count are decimal": a byte has at most three digits
abbrev pub decimal : ℕ → List ℕ
decimal n = decimal_in 3 n

-- ---- what such a text says

-- the number that digits in base b say, the highest first
unfoldable pub value_of : ℕ → List ℕ → ℕ
value_of b [] = 0
value_of b (d ∷ ds) = d * b ^ length ds + value_of b ds

-- xs are digits in base b that say n
pub record Says (b n : ℕ) (xs : List ℕ) : Type 0 where
  pub digits : List ℕ
  pub below : Every (λ d. d < b) digits
  pub value : value_of b digits ≡ n
  pub text : xs ≡ map digit digits

-- "four lower-case hexadecimal digits"
pub record Hexadecimal (n : ℕ) (xs : List ℕ) : Type 0 where
  pub says : Says 16 n xs
  pub four : length xs ≡ 4

-- "decimal": a digit at least, and no zero in front of others
pub record Decimal (n : ℕ) (xs : List ℕ) : Type 0 where
  pub says : Says 10 n xs
  pub some : xs ≢ []
  pub no_zero : (ys : List ℕ) → xs ≡ digit 0 ∷ ys → ys ≡ []
