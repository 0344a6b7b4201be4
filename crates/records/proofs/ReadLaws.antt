-- What is read from bytes. Assumes nothing.
use mathlib.Core.Path.{◌≡◌, ap}
use mathlib.Core.Bool.{Bool, cond}
use mathlib.Core.List.{List}
use Prim.Native.Nat.{◌*◌, ◌+◌, ◌-◌, ◌<◌, ◌^◌, ◌≤◌, ℕ}
use lib.ListN.{drop, length, length-drop, length-take, take}
use borrow.Author.Tests.{le-leb}
use native.Mathlib.Omega.{arith}
use Rattle.encoding.proofs.ByteLaws.{bytes_drop, bytes_take, little_endian-lt}
use Rattle.encoding.specs.LittleEndian.{Bytes, little_endian}
use Rattle.records.specs.Records.{blank, read_part, read_record, record_at}
use Rattle.records.specs.Theorems.{Sized}

-- eight bytes are a 64-bit number
word_lt : (n : ℕ) (bs : List ℕ) → Bytes bs → little_endian (take 8 (drop n bs)) < 2 ^ 64
word_lt n bs h =
    little_endian-lt 8 (take 8 (drop n bs)) (bytes_take 8 (drop n bs) (bytes_drop n bs h)) (simp (length-take {A = ℕ}) (omega arith))

-- so the sets of a record are sets of atoms
pub record_sized : (bytes : List ℕ) → Bytes bytes → (k : ℕ) → Sized (record_at bytes k)
unfolding read_record
record_sized bytes h k = record { positive = word_lt 2 part inside; negated = word_lt 10 part inside }
  where
    part : List ℕ
    part = take 18 (drop (18 * k) bytes)

    inside : Bytes part
    inside = bytes_take 18 (drop (18 * k) bytes) (bytes_drop (18 * k) bytes h)

-- the part that is handed to the reader, where the policy has record k
pub part_read : (bytes : List ℕ) (k : ℕ) → 18 * k + 18 ≤ length bytes
    → read_part (take (18 * k + 18 - 18 * k) (drop (18 * k) bytes)) ≡ record_at bytes k
part_read bytes k l =
    let whole : 18 * k + 18 - 18 * k ≡ 18 = omega arith in
    rw whole (ap (λ (b : Bool). cond b (record_at bytes k) blank) (le-leb 18 (length (take 18 (drop (18 * k) bytes))) fits))
  where
    fits : 18 ≤ length (take 18 (drop (18 * k) bytes))
    fits = simp (length-take {A = ℕ}, length-drop {A = ℕ}) (omega arith)
