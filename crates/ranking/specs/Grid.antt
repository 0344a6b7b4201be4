-- The candidates below N as a grid of lanes and blocks, and what a search over it has settled. Assumes nothing.
use Rattle.std.specs.Prelude.{◌≡◌, ◌↔◌, ◌⊎◌, Bool, true, List, ◌%◌, ◌*◌, ◌+◌, ◌<◌, ◌≤◌, ℕ, get_or}
use Rattle.lists.specs.Sums.{sum}
use Rattle.preference.specs.Order.{Before}
use Rattle.ranking.specs.Keys.{never, widened}
use Rattle.ranking.specs.Place.{below}

-- past the key of any candidate
abbrev pub never_key : ℕ
never_key = 274877906944

-- the keys of the candidates below N stand in order of cost and number, all below a bound
pub record Ranked (cost key : ℕ → ℕ) (N bound : ℕ) : Type 0 where
  pub less : (m n : ℕ) → m < N → n < N → (key m < key n) ↔ Before cost m n
  pub small : (n : ℕ) → n < N → key n < bound

-- the keys of lanes and blocks in their tables: numbers can be read off the blocks' keys, and past the lanes stands never
pub record Tables (low : List ℕ) (lanes : ℕ) (high : List ℕ) (blocks : ℕ) : Type 0 where
  pub some : 0 < lanes
  pub lanes_most : lanes ≤ 256
  pub blocks_most : blocks ≤ 256
  pub low_small : (i : ℕ) → i < lanes → get_or low i 0 < 16777216
  pub low_beyond : (i : ℕ) → lanes ≤ i → i < 256 → get_or low i 0 ≡ never
  pub high_small : (b : ℕ) → b < blocks → get_or high b 0 < 16777216
  pub high_number : (b : ℕ) → b < blocks → get_or high b 0 % 256 ≡ b

-- the key of the candidate in lane i of block b
abbrev pub key_at : List ℕ → List ℕ → ℕ → ℕ → ℕ
key_at low high b i = 256 * get_or high b 0 + widened (get_or low i 0)

-- the candidates below N are those of the lanes and blocks
pub record Grid (key : ℕ → ℕ) (N : ℕ) (low : List ℕ) (lanes : ℕ) (high : List ℕ) (blocks : ℕ) : Type 0 where
  pub tables : Tables low lanes high blocks
  pub shape : ((blocks ≡ 1) × (N ≡ lanes)) ⊎ ((lanes ≡ 256) × (N ≡ 256 * blocks))
  pub keyed : (b i : ℕ) → b < blocks → i < lanes → key (256 * b + i) ≡ key_at low high b i

-- the best key that passes, but for those that stand past the limit; or none, and then it is the bound or more
pub record Settled (key : ℕ → ℕ) (test : ℕ → Bool) (N bound limit best : ℕ) : Type 0 where
  pub each : (m : ℕ) → m < N → test m ≡ true → (best ≤ key m) ⊎ (limit < sum (λ k. below (key k) (key m)) N)
  pub one : (bound ≤ best) ⊎ ((n : ℕ) × (n < N) × (test n ≡ true) × (key n ≡ best))
