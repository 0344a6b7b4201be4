-- What the numbers in the output are, as digits that say them: the statements. Assumes nothing.
use Rattle.std.specs.Prelude.{◌≡◌, ◌↔◌, List, [], ◌∷◌, ◌<◌, ◌^◌, ℕ, get_or}
use Prim.Native.Char.{Char, code}
use Prim.Native.String.{String, ◌∷◌ as ◌then◌}
use Rattle.transcript.specs.Numerals.{Decimal, Hexadecimal, ascii, decimal, digit, hexadecimal}

pub record NumeralTheorems : Type 0 where
  -- a text's bytes are its characters' numbers, one each, and which these are: letters, a space, the end of a line
  pub spelled : (c : Char) (s : String) → ascii (c then s) ≡ code c ∷ ascii s
  pub text_bytes : ascii "ask deny\ngrant 09 cf" ≡
      0x61 ∷ 0x73 ∷ 0x6b ∷ 0x20 ∷ 0x64 ∷ 0x65 ∷ 0x6e ∷ 0x79 ∷ 0x0a ∷ 0x67 ∷ 0x72 ∷ 0x61 ∷ 0x6e ∷ 0x74 ∷ 0x20 ∷ 0x30 ∷ 0x39 ∷ 0x20 ∷ 0x63 ∷ 0x66 ∷ []
  -- "lower-case hexadecimal digits": the digits as they stand in ASCII
  pub digits : (d : ℕ) → d < 16 → digit d ≡ get_or (ascii "0123456789abcdef") d 0
  -- no two digits are written alike
  pub one_to_one : (a b : ℕ) → a < 16 → b < 16 → digit a ≡ digit b → a ≡ b
  -- "four lower-case hexadecimal digits": of a 16-bit number, those four and no others
  pub hexadecimal_means : (n : ℕ) → n < 2 ^ 16 → (xs : List ℕ) → (xs ≡ hexadecimal n) ↔ Hexadecimal n xs
  -- "these and the count are decimal": below 1,000, those digits and no others
  pub decimal_means : (n : ℕ) → n < 1000 → (xs : List ℕ) → (xs ≡ decimal n) ↔ Decimal n xs
  -- "these and the count are decimal": examples of one, two and three digits
  pub one_digit : (decimal 0 ≡ ascii "0") × (decimal 9 ≡ ascii "9")
  pub two_digits : (decimal 10 ≡ ascii "10") × ((decimal 17 ≡ ascii "17") × (decimal 99 ≡ ascii "99"))
  pub three_digits : (decimal 100 ≡ ascii "100") × ((decimal 128 ≡ ascii "128") × (decimal 255 ≡ ascii "255"))
  -- "four lower-case hexadecimal digits": examples, with zeros in front and with letters
  pub zeros : (hexadecimal 0 ≡ ascii "0000") × ((hexadecimal 4 ≡ ascii "0004") × (hexadecimal 0x00ab ≡ ascii "00ab"))
  pub letters : (hexadecimal 0xbeef ≡ ascii "beef") × (hexadecimal 65535 ≡ ascii "ffff")
