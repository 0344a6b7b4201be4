-- The theorems of the record of a round: what the map says. Assumes nothing.
use Rattle.std.specs.Prelude.{◌≡◌, ◌↔◌, List, None, Some, ℕ}
use Rattle.std.specs.Prelude as P
use Rattle.std.proofs.Math.Option.{none, some}
use Rattle.recorder.specs.Types.{logged_of}

pub record Theorems : Type 0 where
  -- the map is one-to-one, so that a contract through it fixes the answer and says which record it is
  pub logged_one : (x y : P.Option (List ℕ)) → logged_of x ≡ logged_of y → x ≡ y
  -- and which: there are bytes exactly where there is a record, and then they are it
  pub accepted : (x : P.Option (List ℕ)) (bytes : List ℕ) → (x ≡ Some bytes) ↔ (logged_of x ≡ some bytes)
  pub unaccepted : (x : P.Option (List ℕ)) → (x ≡ None) ↔ (logged_of x ≡ none)
