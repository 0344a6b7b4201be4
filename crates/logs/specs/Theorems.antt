-- The theorems of logs: records byte by byte, read and written; when two agree; and what a comparison answers, each answer exactly when. Assumes nothing.
use Rattle.std.specs.Prelude.{◌≡◌, ◌↔◌, ◌≢◌, ◌⊎◌, true, ◌%◌, ◌*◌, ◌+◌, ◌/◌, ◌<◌, ◌^◌, ℕ, get_or, length}
use mathlib.Core.List.{List, [], ◌∷◌, flat_map}
use Rattle.std.proofs.Math.Option.{Option, none, some}
use Rattle.encoding.specs.LittleEndian.{Bytes}
use Rattle.lists.specs.Lists.{Every}
use Rattle.validation.specs.Unless.{Unless, given, withheld}
use Rattle.logs.specs.Agreement.{Agree, agree}
use Rattle.logs.specs.Comparison.{compared}
use Rattle.logs.specs.Examples.{Examples}
use Rattle.logs.specs.Entries.{Entry, entries_of, entry_at, read_entry, write_entry}
use Rattle.logs.specs.LogForm.{HasEntry, SoundEntry, SoundLog, UnsoundLog, Whole, is_sound_entry}

-- ---- records

-- what eight bytes have room for
pub record FitsEntry (x : Entry) : Type 0 where
  pub shown : x.shown < 2 ^ 16
  pub answer : x.answer < 256
  pub asked : x.asked < 2 ^ 16
  pub count : x.count < 256
  pub pad : x.pad < 2 ^ 16

-- record k of a log, byte by byte; past the end each is 0
pub record SaidAt (log : List ℕ) (k : ℕ) (x : Entry) : Type 0 where
  pub shown : x.shown ≡ get_or log (8 * k) 0 + 256 * get_or log (8 * k + 1) 0
  pub answer : x.answer ≡ get_or log (8 * k + 2) 0
  pub asked : x.asked ≡ get_or log (8 * k + 3) 0 + 256 * get_or log (8 * k + 4) 0
  pub count : x.count ≡ get_or log (8 * k + 5) 0
  pub pad : x.pad ≡ get_or log (8 * k + 6) 0 + 256 * get_or log (8 * k + 7) 0

pub record EntryTheorems : Type 0 where
  pub said : (log : List ℕ) (k : ℕ) → SaidAt log k (entry_at log k)
  -- the eight bytes of a record
  pub bytes : (x : Entry) → FitsEntry x → write_entry x
      ≡ x.shown % 256 ∷ x.shown / 256 ∷ x.answer ∷ x.asked % 256 ∷ x.asked / 256 ∷ x.count ∷ x.pad % 256 ∷ x.pad / 256 ∷ []
  -- what is written is what is read, and the other way round
  pub read_back : (x : Entry) → FitsEntry x → read_entry (write_entry x) ≡ x
  pub written_back : (bs : List ℕ) → Bytes bs → length bs ≡ 8 → write_entry (read_entry bs) ≡ bs
  -- and so with any number of records
  pub all_back : (xs : List Entry) → Every FitsEntry xs → entries_of (flat_map write_entry xs) ≡ xs
  -- "answer outside 1 to 3, pad not zero, or an asked set empty with 3 or not empty without it": the test
  pub sound : (x : Entry) → (is_sound_entry x ≡ true) ↔ SoundEntry x
  pub sound_means : (x : Entry) → SoundEntry x
      ↔ ((x.pad ≡ 0) × (((x.answer ≡ 1) × (x.asked ≡ 0)) ⊎ (((x.answer ≡ 2) × (x.asked ≡ 0)) ⊎ ((x.answer ≡ 3) × (x.asked ≢ 0)))))

-- ---- logs: what the words of specs/LogForm say

pub record LogTheorems : Type 0 where
  -- "no multiple of 8"
  pub whole : (log : List ℕ) → Whole log ↔ ((n : ℕ) × (length log ≡ 8 * n))
  -- a log of records is not refused exactly where each of them is sound
  pub sounds : (xs : List Entry) → Every FitsEntry xs → SoundLog (flat_map write_entry xs) ↔ Every SoundEntry xs
  -- 11 is what is left: all of it is there, and it is not sound
  pub unsounds : (log : List ℕ) → UnsoundLog log ↔ (Whole log × (SoundLog log → ⊥))

-- ---- agreement: its laws, which are all that is used of it elsewhere

pub record AgreeLaws : Type 0 where
  pub tested : (x y : Entry) → (agree x y ≡ true) ↔ Agree x y
  pub same : (x : Entry) → Agree x x
  pub turned : (x y : Entry) → Agree x y → Agree y x
  pub through : (x y z : Entry) → Agree x y → Agree y z → Agree x z
  -- what agrees has the same answer and the same asked set at least
  pub answers : (x y : Entry) → Agree x y → (x.answer ≡ y.answer) × (x.asked ≡ y.asked)

-- ---- the comparison of two logs

-- "or agreement"
pub record Agreeing (first second : List ℕ) : Type 0 where
  pub first_sound : SoundLog first
  pub second_sound : SoundLog second
  pub as_long : length first ≡ length second
  pub each : (k : ℕ) → HasEntry first k → Agree (entry_at first k) (entry_at second k)

-- both have record k, and there they agree
pub record AgreeAt (first second : List ℕ) (k : ℕ) : Type 0 where
  pub first_has : HasEntry first k
  pub second_has : HasEntry second k
  pub agrees : Agree (entry_at first k) (entry_at second k)

-- both have record k, and there they do not agree
pub record DifferAt (first second : List ℕ) (k : ℕ) : Type 0 where
  pub first_has : HasEntry first k
  pub second_has : HasEntry second k
  pub differs : Agree (entry_at first k) (entry_at second k) → ⊥

-- "the shorter log's end counts": one has record k, the other has not
abbrev pub EndsAt : List ℕ → List ℕ → ℕ → Type 0
EndsAt first second k = (HasEntry first k × (HasEntry second k → ⊥)) ⊎ ((HasEntry first k → ⊥) × HasEntry second k)

-- "the first record, from 0, where they part (the shorter log's end counts)"
pub record PartAt (first second : List ℕ) (k : ℕ) : Type 0 where
  pub first_sound : SoundLog first
  pub second_sound : SoundLog second
  pub before : (j : ℕ) → j < k → AgreeAt first second j
  pub there : DifferAt first second k ⊎ EndsAt first second k

-- When a comparison, u, answers what.
pub record Compares (first second : List ℕ) (u : Unless ℕ (Option ℕ)) : Type 0 where
  pub agreement : (u ≡ given none) ↔ Agreeing first second
  pub parts : (k : ℕ) → (u ≡ given (some k)) ↔ PartAt first second k
  -- "10, a log's length is no multiple of 8", "The first log is tested first"
  pub ten : (u ≡ withheld 10) ↔ ((Whole first → ⊥) ⊎ (SoundLog first × (Whole second → ⊥)))
  -- "11, answer outside 1 to 3, pad not zero, or an asked set empty with 3 or not empty without it", "10 before 11"
  pub eleven : (u ≡ withheld 11) ↔ (UnsoundLog first ⊎ (SoundLog first × UnsoundLog second))
  -- no other number is given
  pub only : (n : ℕ) → u ≡ withheld n → (n ≡ 10) ⊎ (n ≡ 11)

pub record Theorems : Type 0 where
  pub entries : EntryTheorems
  pub logs : LogTheorems
  -- "they agree at a record if answer and asked set are equal"
  pub agreement : (x y : Entry) → Agree x y ↔ ((x.answer ≡ y.answer) × (x.asked ≡ y.asked))
  pub agree : AgreeLaws
  pub compares : (first second : List ℕ) → Compares first second (compared first second)
  -- logs byte for byte
  pub examples : Examples
