-- Document 02, R-1: when two log records agree. What stands above uses the laws of specs/Theorems about these two definitions, not their text; only the
-- program's own test, and what is said of R-1's sense alone, cite more (proofs/AgreeLaws). Assumes nothing.
use Rattle.std.specs.Prelude.{◌≡◌, Bool, ◌&&◌, eqb}
use Rattle.logs.specs.Entries.{Entry}

-- "they agree at a record if answer and asked set are equal"
unfoldable pub Agree : Entry → Entry → Type 0
Agree x y = (x.answer ≡ y.answer) × (x.asked ≡ y.asked)

-- the same as a test
unfoldable pub agree : Entry → Entry → Bool
agree x y = eqb x.answer y.answer && eqb x.asked y.asked
