-- The grid of lanes and blocks: places counted by blocks, and the keys that the program makes. Assumes nothing.
use mathlib.Core.Path.{◌∙◌, ◌≡◌, ap, sym}
use mathlib.Core.Logic.{◌⊎◌, inl, inr}
use mathlib.Core.List.{List}
use Prim.Native.Nat.{◌%◌, ◌*◌, ◌+◌, ◌-◌, ◌/◌, ◌<◌, ◌≤◌, ℕ}
use lib.ListN.{get_or}
use native.Mathlib.Omega.{arith}
use Rattle.lists.specs.Sums.{sum}
use Rattle.lists.proofs.SumLaws.{sum_blocks, sum_next, sum_same, sum_start}
use Rattle.ranking.specs.Grid.{Grid, key_at}
use Rattle.ranking.specs.Keys.{widened}
use Rattle.ranking.specs.Place.{below, keys_below, keys_in, narrow}
use Rattle.ranking.proofs.PlaceLaws.{below_cases, below_no, below_yes}

-- ---- one lane: the bar of its key

pub narrow_alike : (x K T : ℕ) → below x (narrow (T - 256 * K)) ≡ below (256 * K + widened x) T
narrow_alike x K T = go (below_cases (256 * K + widened x) T)
  where
    go : ((256 * K + widened x < T) × (below (256 * K + widened x) T ≡ 1)) ⊎ ((T ≤ 256 * K + widened x) × (below (256 * K + widened x) T ≡ 0))
        → below x (narrow (T - 256 * K)) ≡ below (256 * K + widened x) T
    go (inl (l, e)) = below_yes (omega arith) ∙ sym e
    go (inr (l, e)) = below_no (omega arith) ∙ sym e

module _ (key : ℕ → ℕ) (N : ℕ) (low : List ℕ) (lanes : ℕ) (high : List ℕ) (blocks : ℕ) (g : Grid key N low lanes high blocks) where
  -- a sum over all candidates, block by block
  by_blocks : (f : ℕ → ℕ) → sum f N ≡ sum (λ b. sum (λ i. f (256 * b + i)) lanes) blocks
  by_blocks f = go g.shape
    where
      one : sum (λ b. sum (λ i. f (256 * b + i)) lanes) 1 ≡ sum f lanes
      one =
          sum_next (λ b. sum (λ i. f (256 * b + i)) lanes) 0
          ∙ omega (arith, sum_start (λ b. sum (λ i. f (256 * b + i)) lanes), sum_same (λ i. f (256 * 0 + i)) f lanes (λ i _. ap f (omega arith)))

      go : ((blocks ≡ 1) × (N ≡ lanes)) ⊎ ((lanes ≡ 256) × (N ≡ 256 * blocks)) → sum f N ≡ sum (λ b. sum (λ i. f (256 * b + i)) lanes) blocks
      go (inl (e, d)) = ap (sum f) d ∙ sym one ∙ ap (sum (λ b. sum (λ i. f (256 * b + i)) lanes)) (sym e)
      go (inr (e, d)) = ap (sum f) d ∙ sum_blocks f 256 blocks ∙ ap (λ (k : ℕ). sum (λ b. sum (λ i. f (256 * b + i)) k) blocks) (sym e)

  -- what is counted is the number of keys below
  pub counted : (T : ℕ) → keys_in low lanes high blocks T ≡ sum (λ m. below (key m) T) N
  unfolding keys_in keys_below
  counted T =
      sum_same (λ b. sum (λ i. below (get_or low i 0) (narrow (T - 256 * get_or high b 0))) lanes) (λ b. sum (λ i. below (key (256 * b + i)) T) lanes) blocks
      (λ b l. sum_same (λ i. below (get_or low i 0) (narrow (T - 256 * get_or high b 0))) (λ i. below (key (256 * b + i)) T) lanes
      (λ i k. narrow_alike (get_or low i 0) (get_or high b 0) T ∙ ap (λ (x : ℕ). below x T) (sym (g.keyed b i l k))))
      ∙ sym (by_blocks (λ m. below (key m) T))

  -- a candidate by its block and its lane
  pub split : (m : ℕ) → m < N → (m / 256 < blocks) × (m % 256 < lanes)
  split m l = go g.shape
    where
      go : ((blocks ≡ 1) × (N ≡ lanes)) ⊎ ((lanes ≡ 256) × (N ≡ 256 * blocks)) → (m / 256 < blocks) × (m % 256 < lanes)
      go (inl (e, d)) = let most = g.tables.lanes_most in (omega arith, omega arith)
      go (inr (e, d)) = (omega arith, omega arith)

  pub inside : (b i : ℕ) → b < blocks → i < lanes → 256 * b + i < N
  inside b i l k = go g.shape
    where
      go : ((blocks ≡ 1) × (N ≡ lanes)) ⊎ ((lanes ≡ 256) × (N ≡ 256 * blocks)) → 256 * b + i < N
      go (inl (e, d)) = omega arith
      go (inr (e, d)) = omega arith

  pub key_at_lem : (m : ℕ) → m < N → key m ≡ key_at low high (m / 256) (m % 256)
  key_at_lem m l = let s = split m l in ap key (omega arith) ∙ g.keyed (m / 256) (m % 256) s.0 s.1
