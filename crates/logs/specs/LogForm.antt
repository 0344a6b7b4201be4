-- Document 02, R-1: which logs are not refused, as statements and as tests. Assumes nothing.
use Rattle.std.specs.Prelude.{◌≡◌, ◌≢◌, Bool, ◌&&◌, cond, not, true, List, [], ◌++◌, ◌∷◌, ◌%◌, ◌*◌, ◌+◌, ◌≤◌, ℕ, eqb, leb, length}
use Rattle.logs.specs.Entries.{Entry, ask_answer, entries_of, entry_at, grant_answer}

-- ---- statements

-- the opposite of "answer outside 1 to 3, pad not zero, or an asked set empty with 3 or not empty without it"
pub record SoundEntry (x : Entry) : Type 0 where
  pub least : grant_answer ≤ x.answer
  pub most : x.answer ≤ ask_answer
  pub pad : x.pad ≡ 0
  pub asks : x.answer ≡ ask_answer → x.asked ≢ 0
  pub asks_nothing : x.answer ≢ ask_answer → x.asked ≡ 0

-- all of record k is there
abbrev pub HasEntry : List ℕ → ℕ → Type 0
HasEntry log k = 8 * k + 8 ≤ length log

-- "10, a log's length is no multiple of 8"
abbrev pub Whole : List ℕ → Type 0
Whole log = length log % 8 ≡ 0

-- a log that is not refused
pub record SoundLog (log : List ℕ) : Type 0 where
  pub whole : Whole log
  pub each : (k : ℕ) → HasEntry log k → SoundEntry (entry_at log k)

-- one that is refused 11, not 10: some record of it is at fault
pub record UnsoundLog (log : List ℕ) : Type 0 where
  pub whole : Whole log
  pub place : ℕ
  pub there : HasEntry log place
  pub broken : SoundEntry (entry_at log place) → ⊥

-- ---- the same as tests

-- with 3 an asked set is not empty, and without it it is
abbrev pub asked_test : Entry → Bool
asked_test x = cond (eqb x.answer ask_answer) (not (eqb x.asked 0)) (eqb x.asked 0)

unfoldable pub is_sound_entry : Entry → Bool
is_sound_entry x = leb grant_answer x.answer && leb x.answer ask_answer && eqb x.pad 0 && asked_test x

unfoldable pub all_sound : List Entry → Bool
all_sound [] = true
all_sound (x ∷ xs) = is_sound_entry x && all_sound xs

-- "10, a log's length is no multiple of 8; 11, answer outside 1 to 3, pad not zero, or an asked set empty with 3 or not empty without it"
abbrev pub log_tests : List ℕ → List (Bool × ℕ)
log_tests log = (eqb (length log % 8) 0, 10) ∷ (all_sound (entries_of log), 11) ∷ []

-- "The first log is tested first, 10 before 11; the number alone is given."
unfoldable pub comparison_tests : List ℕ → List ℕ → List (Bool × ℕ)
comparison_tests first second = log_tests first ++ log_tests second
