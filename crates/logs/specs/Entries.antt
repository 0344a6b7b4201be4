-- Document 02, R-1: log records, here entries, since a policy's are `Record`. Assumes nothing.
use Rattle.std.specs.Prelude.{List, [], ◌++◌, ◌∷◌, ◌*◌, ◌/◌, suc, zero, ℕ, drop, get_or, length, take}
use Rattle.encoding.specs.LittleEndian.{bytes_of, little_endian}

-- "shown set (that round's p, 2), answer (one byte: 1 grant, 2 deny, 3 ask), asked set (2), count of rounds (1), two zero bytes": what eight bytes say,
-- the last two as one number
pub record Entry : Type 0 where
  pub shown : ℕ
  pub answer : ℕ
  pub asked : ℕ
  pub count : ℕ
  pub pad : ℕ

-- "answer (one byte: 1 grant, 2 deny, 3 ask)"
abbrev pub grant_answer : ℕ
grant_answer = 1

abbrev pub deny_answer : ℕ
deny_answer = 2

abbrev pub ask_answer : ℕ
ask_answer = 3

-- "sets are little-endian"
unfoldable pub read_entry : List ℕ → Entry
read_entry bytes = record {
  shown = little_endian (take 2 bytes);
  answer = get_or bytes 2 0;
  asked = little_endian (take 2 (drop 3 bytes));
  count = get_or bytes 5 0;
  pad = little_endian (take 2 (drop 6 bytes));
}

unfoldable pub write_entry : Entry → List ℕ
write_entry x = bytes_of 2 x.shown ++ (x.answer ∷ (bytes_of 2 x.asked ++ (x.count ∷ bytes_of 2 x.pad)))

-- "A log record is 8 bytes, no header": record k, from 0, is the part that begins at byte 8 times k
abbrev pub entry_at : List ℕ → ℕ → Entry
entry_at log k = read_entry (take 8 (drop (8 * k) log))

-- how many whole records there are
abbrev pub whole_entries : List ℕ → ℕ
whole_entries log = length log / 8

-- record k and those after it, n in all
unfoldable pub entries_from : List ℕ → ℕ → ℕ → List Entry
entries_from log k zero = []
entries_from log k (suc n) = entry_at log k ∷ entries_from log (suc k) n

-- all whole records, in order
unfoldable pub entries_of : List ℕ → List Entry
entries_of log = entries_from log 0 (whole_entries log)
