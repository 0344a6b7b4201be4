-- Document 01, "Atoms and records": a number as its bytes, read and written. Assumes nothing.
use Rattle.std.specs.Prelude.{List, [], ◌∷◌, ◌%◌, ◌*◌, ◌+◌, ◌/◌, ◌<◌, suc, zero, ℕ, get_or}

-- a list of bytes: numbers below 256
abbrev pub Bytes : List ℕ → Type 0
Bytes [] = Unit {0}
Bytes (b ∷ bs) = (b < 256) × Bytes bs

-- "both little-endian": a number from its bytes, the lowest first
unfoldable pub little_endian : List ℕ → ℕ
little_endian [] = 0
little_endian (b ∷ bs) = b + 256 * little_endian bs

-- the number of eight bytes, written out as it is computed: `little_endian` of them (proofs/ByteLaws)
abbrev pub word_of : List ℕ → ℕ
word_of bytes =
    get_or bytes 0 0
    + 256 * (get_or bytes 1 0
    + 256 * (get_or bytes 2 0
    + 256 * (get_or bytes 3 0
    + 256 * (get_or bytes 4 0
    + 256 * (get_or bytes 5 0
    + 256 * (get_or bytes 6 0
    + 256 * get_or bytes 7 0))))))

-- the n lowest bytes of a number, the lowest first
unfoldable pub bytes_of : ℕ → ℕ → List ℕ
bytes_of zero s = []
bytes_of (suc n) s = s % 256 ∷ bytes_of n (s / 256)
