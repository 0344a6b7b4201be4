-- Candidates one by one, with the best so far. Assumes nothing.
use Rattle.std.specs.Prelude.{◌≡◌, ◌⊎◌, Bool, true, List, ◌<◌, ◌≤◌, suc, zero, ℕ, get_or}
use Rattle.ranking.specs.Keys.{never}

-- the candidate whose turn is the k-th of seven: 1, 2, 4, 3, 5, 6, 7
unfoldable pub turn_of : ℕ → ℕ
turn_of zero = 1
turn_of (suc zero) = 2
turn_of (suc (suc zero)) = 4
turn_of (suc (suc (suc zero))) = 3
turn_of (suc (suc (suc (suc k)))) = suc (suc (suc (suc (suc k))))

-- the key where the candidate passes and it is better, else the best so far
pub record Tried (passes : Bool) (key best r : ℕ) : Type 0 where
  pub kept : r ≤ best
  pub met : passes ≡ true → r ≤ key
  pub one : (r ≡ best) ⊎ ((passes ≡ true) × (r ≡ key))

-- the best key of the candidates that had their turn before k and pass, or never
pub record BestLane (test : ℕ → Bool) (low : List ℕ) (k best : ℕ) : Type 0 where
  pub most : best ≤ never
  pub each : (j : ℕ) → j < k → test (turn_of j) ≡ true → best ≤ get_or low (turn_of j) 0
  pub one : (best ≡ never) ⊎ ((i : ℕ) × (i < 8) × (test i ≡ true) × (get_or low i 0 ≡ best))
