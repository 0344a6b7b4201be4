-- What a block of 256 candidates says. Assumes nothing.
use Rattle.std.specs.Prelude.{◌≡◌, List, ◌%◌, ◌*◌, ◌+◌, ◌/◌, ◌<◌, ℕ, get_or}
use Rattle.atoms.specs.Sets.{member}
use Rattle.rules.specs.Unlocking.{grants}
use Rattle.arrays.specs.Arrays.{evaluated}
use Rattle.preference.specs.Candidates.{switched}

-- bit i % 64 of word i / 64 is set exactly where candidate 256 b + i unlocks the request
pub record Unlocking (levels : ℕ) (heads positive negated starts : List ℕ) (request base : ℕ) (members : List ℕ) (count b : ℕ) (r : List ℕ) : Type 0 where
  pub each : (i : ℕ) → i < 256
      → member (i % 64) (get_or r (i / 64) 0) ≡ grants request (evaluated levels heads positive negated starts (switched base members count (256 * b + i)))
