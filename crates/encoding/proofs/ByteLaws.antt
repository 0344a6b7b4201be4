-- Numbers from their bytes, and bytes from numbers. Assumes nothing.
use mathlib.Core.Path.{◌∙◌, ◌≡◌, ap, ap₂, refl}
use mathlib.Core.List.{List, [], ◌∷◌}
use Prim.Native.Nat.{◌%◌, ◌*◌, ◌+◌, ◌/◌, ◌<◌, ◌^◌, ◌≤◌, suc, zero, ℕ}
use lib.ListN.{drop, drop_of_length-le, get_or, length, take}
use lib.Seq.{drop-drop, get_or-drop}
use mir.Syntax.{w8}
use mir.Val.{Fits}
use native.Mathlib.Nat.{le_of_suc-le-suc, not-suc-le-zero}
use native.Mathlib.Omega.{arith}
use Rattle.encoding.specs.LittleEndian.{Bytes, bytes_of, little_endian, word_of}

-- what the checker knows of a slice of bytes: each element is one
pub slice_bytes : (bs : List ℕ) → ((i : ℕ) → Fits w8 (get_or bs i 0)) → Bytes bs
slice_bytes [] g = tt
slice_bytes (b ∷ bs) g = ((g 0).fits, slice_bytes bs (λ i. g (suc i)))

pub bytes_take : (n : ℕ) (bs : List ℕ) → Bytes bs → Bytes (take n bs)
bytes_take zero bs h = tt
bytes_take (suc n) [] h = tt
bytes_take (suc n) (b ∷ bs) h = (h.0, bytes_take n bs h.1)

pub bytes_drop : (n : ℕ) (bs : List ℕ) → Bytes bs → Bytes (drop n bs)
bytes_drop zero bs h = h
bytes_drop (suc n) [] h = tt
bytes_drop (suc n) (b ∷ bs) h = bytes_drop n bs h.1

pub little_endian-lt : (n : ℕ) (bs : List ℕ) → Bytes bs → length bs ≤ n → little_endian bs < 256 ^ n
unfolding little_endian
little_endian-lt zero [] h l = omega arith
little_endian-lt zero (b ∷ bs) h l = absurd (not-suc-le-zero l)
little_endian-lt (suc n) [] h l = omega (arith, little_endian-lt n [] tt (omega arith))
little_endian-lt (suc n) (b ∷ bs) h l = omega (arith, little_endian-lt n bs h.1 (le_of_suc-le-suc l), h.0)

-- the lowest byte, and the number of the others
low_byte : (bs : List ℕ) → little_endian bs ≡ get_or bs 0 0 + 256 * little_endian (drop 1 bs)
unfolding little_endian
low_byte [] = refl
low_byte (b ∷ bs) = refl

low_byte-at : (bs : List ℕ) (n : ℕ) → little_endian (drop n bs) ≡ get_or bs (n + 0) 0 + 256 * little_endian (drop (n + 1) bs)
low_byte-at bs n = low_byte (drop n bs) ∙ rw (get_or-drop n bs 0 0, drop-drop 1 n bs)

pub word_is : (bs : List ℕ) → length bs ≤ 8 → little_endian bs ≡ word_of bs
unfolding little_endian
word_is bs l =
    let end : drop 8 bs ≡ [] = drop_of_length-le bs l in
    rw (
      low_byte bs,
      low_byte-at bs 1,
      low_byte-at bs 2,
      low_byte-at bs 3,
      low_byte-at bs 4,
      low_byte-at bs 5,
      low_byte-at bs 6,
      low_byte-at bs 7,
      end,
    ) (omega arith)

-- ---- what is written is what is read

pub read_back : (n s : ℕ) → s < 256 ^ n → little_endian (bytes_of n s) ≡ s
unfolding little_endian bytes_of
read_back zero s l = omega arith
read_back (suc n) s l = omega (arith, read_back n (s / 256) (omega arith))

pub written_back : (bs : List ℕ) → Bytes bs → bytes_of (length bs) (little_endian bs) ≡ bs
unfolding little_endian bytes_of
written_back [] h = refl
written_back (b ∷ bs) h =
    let low : (b + 256 * little_endian bs) % 256 ≡ b = omega (arith, h.0) in
    let rest : (b + 256 * little_endian bs) / 256 ≡ little_endian bs = omega (arith, h.0) in
    ap₂ ◌∷◌ low (ap (bytes_of (length bs)) rest ∙ written_back bs h.1)

pub bytes_of-length : (n s : ℕ) → length (bytes_of n s) ≡ n
unfolding bytes_of
bytes_of-length zero s = refl
bytes_of-length (suc n) s = ap suc (bytes_of-length n (s / 256))

pub bytes_of-bytes : (n s : ℕ) → Bytes (bytes_of n s)
unfolding bytes_of
bytes_of-bytes zero s = tt
bytes_of-bytes (suc n) s = (omega arith, bytes_of-bytes n (s / 256))
