-- The candidates of a search. Assumes nothing.
use Rattle.std.specs.Prelude.{◌≡◌, Bool, ◌<◌, ◌^◌, ◌≤◌, ℕ}
use Rattle.arrays.specs.Arrays.{level_count}
use Rattle.preference.specs.InArrays.{opens_at}
use Rattle.preference.specs.declared.Search.{Search}

-- candidate n unlocks the request
abbrev pub passes : Search → ℕ → Bool
passes s n =
    opens_at level_count s.rules.now.rules.now.heads s.rules.now.rules.now.positive s.rules.now.rules.now.negated s.rules.now.starts.now s.request s.shown s.members.now s.count n

-- r is how many some members have, 16 at most
pub record CandidatesOf (members r : ℕ) : Type 0 where
  pub power : r ≡ 2 ^ members
  pub some : 0 < r
  pub few : r ≤ 65536
