-- Document 02, R-5: slots, and a list of them. What the paper calls a seat is a slot here. Assumes nothing.
use Rattle.std.specs.Prelude.{◌≡◌, ◌⊎◌, Bool, ◌&&◌, cond, true, List, [], ◌∷◌, ◌<◌, ℕ, eqb, ltb, get_or, length}
use Rattle.lists.specs.Lists.{Every}
use Rattle.lists.specs.Sums.{sum}
use Rattle.preference.specs.Question.{Question}
use Rattle.rounds.specs.Sessions.{Finished, Session, fresh, is_closed, waiting}

-- "each empty or holding an owner (one byte) and a session"
pub data Slot : Type 0 where
  vacant : Slot
  held : ℕ → Session → Slot

-- slot i of a list, from 0; there is none past its end
abbrev pub slot_at : List Slot → ℕ → Slot
slot_at xs i = get_or xs i vacant

-- "at most 64 seats"
abbrev pub slot_limit : ℕ
slot_limit = 64

-- "No owner has more than four unfinished sessions"
abbrev pub most_unfinished : ℕ
most_unfinished = 4

-- ---- as statements

-- slot i of the list is neither "past the list's end" nor "above 63"
abbrev pub InTable : List Slot → ℕ → Type 0
InTable xs i = (i < length xs) × (i < slot_limit)

-- "unfinished session (fresh or waiting)"
abbrev pub Unfinished : Session → Type 0
Unfinished s = (s.phase ≡ fresh) ⊎ ((q : Question) × (s.phase ≡ waiting q))

-- "seat holds an unfinished session"
abbrev pub HoldsUnfinished : Slot → Type 0
HoldsUnfinished vacant = ⊥
HoldsUnfinished (held o s) = Unfinished s

-- "may take an empty seat or one whose session is closed", whoever owned it
abbrev pub Free : Slot → Type 0
Free vacant = Unit {0}
Free (held o s) = Finished s

-- the owner's unfinished session
abbrev pub UnfinishedOf : ℕ → Slot → Type 0
UnfinishedOf o vacant = ⊥
UnfinishedOf o (held p s) = (p ≡ o) × Unfinished s

-- numbers below n, all different, the largest first
abbrev pub FallingBelow : ℕ → List ℕ → Type 0
FallingBelow n [] = Unit {0}
FallingBelow n (k ∷ ks) = (k < n) × FallingBelow k ks

-- "owner has" so many of them, in slots below n: which
pub record Owns (o : ℕ) (xs : List Slot) (n many : ℕ) : Type 0 where
  pub numbers : List ℕ
  pub different : FallingBelow n numbers
  pub each : Every (λ k. UnfinishedOf o (slot_at xs k)) numbers
  pub counted : length numbers ≡ many

-- ---- the same as tests and counts

abbrev pub in_table : List Slot → ℕ → Bool
in_table xs i = ltb i (length xs) && ltb i slot_limit

abbrev pub is_free : Slot → Bool
is_free vacant = true
is_free (held o s) = is_closed s.phase

-- 1 for the owner's unfinished session, else 0
unfoldable pub unfinished_of : ℕ → Slot → ℕ
unfinished_of o vacant = 0
unfinished_of o (held p s) = cond (eqb p o) (cond (is_closed s.phase) 0 1) 0

-- how many the slots below n hold
unfoldable pub unfinished : ℕ → List Slot → ℕ → ℕ
unfinished o xs n = sum (λ k. unfinished_of o (slot_at xs k)) n
