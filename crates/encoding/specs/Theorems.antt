-- The theorems of bytes: what is written is what is read, and a number below 256 to the n has n bytes. Assumes nothing.
use Rattle.std.specs.Prelude.{◌≡◌, List, [], ◌∷◌, ◌<◌, ◌^◌, ◌≤◌, ℕ, length}
use Rattle.encoding.specs.LittleEndian.{Bytes, bytes_of, little_endian, word_of}

pub record Theorems : Type 0 where
  -- "both little-endian"
  pub little_endian_lem : little_endian (0x01 ∷ 0x02 ∷ 0x03 ∷ 0x04 ∷ 0x05 ∷ 0x06 ∷ 0x07 ∷ 0x08 ∷ []) ≡ 0x0807060504030201
  pub read_back : (n s : ℕ) → s < 256 ^ n → little_endian (bytes_of n s) ≡ s
  pub written_back : (bs : List ℕ) → Bytes bs → bytes_of (length bs) (little_endian bs) ≡ bs
  pub lengths : (n s : ℕ) → length (bytes_of n s) ≡ n
  pub fits : (n s : ℕ) → Bytes (bytes_of n s)
  pub bounded : (n : ℕ) (bs : List ℕ) → Bytes bs → length bs ≤ n → little_endian bs < 256 ^ n
  -- eight bytes, as a program reads them
  pub words : (bs : List ℕ) → length bs ≤ 8 → little_endian bs ≡ word_of bs
