-- What is settled is the answer. Assumes nothing.
use mathlib.Core.Path.{◌∙◌, ◌≡◌, ap, ap₂, subst, sym}
use mathlib.Core.Logic.{◌⊎◌, inl, inr}
use mathlib.Core.Bool.{Bool, cond, false, true}
use mathlib.Core.List.{List}
use Prim.Native.Nat.{◌%◌, ◌-◌, ◌<◌, ◌^◌, ◌≤◌, ℕ}
use borrow.Author.Tests.{le-ltb, lt-ltb}
use lib.Dec.{ltb}
use lib.ListN.{get_or}
use lib.Pow.{pow_mono, pow_pos}
use native.Mathlib.Decide.{dec_lt, ℕ_discrete}
use native.Mathlib.Omega.{arith}
use Rattle.lists.specs.Sums.{sum}
use Rattle.preference.specs.Candidates.{switched}
use Rattle.preference.specs.InArrays.{opens_at}
use Rattle.preference.specs.Order.{cost_of, found, nothing, place, searched, spent}
use Rattle.preference.proofs.OrderLaws.{searched_means, searched_same}
use Rattle.preference.proofs.OrderTheoremsProof.{other_places}
use Rattle.relevance.specs.Places.{SameAnswer}
use Rattle.ranking.specs.Grid.{Grid, Ranked, Settled, never_key}
use Rattle.ranking.specs.Keys.{Keys, key_of, never}
use Rattle.ranking.specs.Place.{Bar, below, keys_below, keys_in}
use Rattle.ranking.proofs.GridLaws.{counted}
use Rattle.ranking.proofs.RankLaws.{lanes_ranked, ranked}
use Rattle.ranking.proofs.SettledLaws.{place_is, settled_found, settled_nothing}
use Rattle.search.specs.Blocks.{BestOf}
use Rattle.search.specs.Singles.{BestLane}
use Rattle.search.specs.Types.{limited}
use Rattle.search.proofs.BlockLaws.{settled_blocks}
use Rattle.search.proofs.SingleLaws.{lane_all}

-- ---- whatever the keys

module _ (cost key : ℕ → ℕ) (N bound : ℕ) (ranked : Ranked cost key N bound) (test : ℕ → Bool) (limit best : ℕ) (h : Settled key test N bound limit best) where
  pub answer_nothing : (tried : ℕ) → 0 < N → bound ≤ best → tried ≡ N - 1 → limited limit (nothing tried) ≡ searched cost test N limit
  answer_nothing tried p l e = ap (λ (x : ℕ). limited limit (nothing x)) e ∙ sym (settled_nothing cost key N bound ranked test limit best h p l)

  -- the candidate is the one of the best key
  pub answer_found : (candidate at : ℕ) → best < bound → ((n : ℕ) → n < N → key n ≡ best → candidate ≡ n) → at ≡ sum (λ k. below (key k) best) N
      → limited limit (found candidate at) ≡ searched cost test N limit
  answer_found candidate at l only e = go h.one
    where
      go : (bound ≤ best) ⊎ ((n : ℕ) × (n < N) × (test n ≡ true) × (key n ≡ best)) → limited limit (found candidate at) ≡ searched cost test N limit
      go (inl z) = absurd (omega arith)
      go (inr (n, i, t, d)) =
          let p : at ≡ place cost N n = e ∙ ap (λ (x : ℕ). sum (λ k. below (key k) x) N) (sym d) ∙ place_is cost key N bound ranked n i in
          ap₂ (λ (x y : ℕ). limited limit (found x y)) (only n i d) p ∙ sym (settled_found cost key N bound ranked test limit best h n i t d)

-- ---- one by one

module _ (ws : List ℕ) (count : ℕ) (low : List ℕ) (c : count ≤ 3) (k : Keys ws 0 count low) where
  top : 2 ^ count ≤ 8
  top = pow_mono {i = count} {j = 3} c

  number : (i : ℕ) → i < 2 ^ count → get_or low i 0 % 256 ≡ i
  number i l = omega (arith, k.each i l, top)

  module _ (test : ℕ → Bool) (limit best lanes : ℕ) (e : lanes ≡ 2 ^ count) (beyond : (i : ℕ) → 2 ^ count ≤ i → i < 8 → get_or low i 0 ≡ never)
      (f : test 0 ≡ false) (h : BestLane test low 7 best) where
    first : Settled (λ i. get_or low i 0) test (2 ^ count) never limit best
    first = lane_all test low (2 ^ count) limit best top beyond f h

    pub single_nothing : never ≤ best → limited limit (nothing (lanes - 1)) ≡ searched (cost_of ws) test (2 ^ count) limit
    single_nothing l =
        answer_nothing (cost_of ws) (λ i. get_or low i 0) (2 ^ count) never (lanes_ranked ws count low (omega arith) k) test limit best first (lanes - 1)
        (pow_pos count) l (omega arith)

    pub single_found : (at : ℕ) → best < never → at ≡ keys_below low lanes best
        → limited limit (found (best % 256) at) ≡ searched (cost_of ws) test (2 ^ count) limit
    unfolding keys_below
    single_found at l p =
        answer_found (cost_of ws) (λ i. get_or low i 0) (2 ^ count) never (lanes_ranked ws count low (omega arith) k) test limit best first (best % 256) at l
        (λ n i d. omega (arith, number n i)) (p ∙ ap (λ (x : ℕ). keys_below low x best) e)

-- ---- by blocks

module _ (ws : List ℕ) (count : ℕ) (low : List ℕ) (lanes : ℕ) (high : List ℕ) (blocks : ℕ) (c : count ≤ 16)
    (g : Grid (key_of (cost_of ws)) (2 ^ count) low lanes high blocks) (test : ℕ → Bool) (limit end best : ℕ) (bar : Bar low lanes high blocks limit end)
    (h : BestOf test low lanes high blocks end best) where
  abbrev key : ℕ → ℕ
  key = key_of (cost_of ws)

  settled : Settled key test (2 ^ count) never_key limit best
  settled = settled_blocks test low lanes high blocks key (2 ^ count) limit end best g bar h

  pub block_nothing : (tried : ℕ) → never_key ≤ best → tried ≡ 2 ^ count - 1 → limited limit (nothing tried) ≡ searched (cost_of ws) test (2 ^ count) limit
  block_nothing tried l e =
      answer_nothing (cost_of ws) key (2 ^ count) never_key (ranked ws count low lanes high blocks c g) test limit best settled tried (pow_pos count) l e

  pub block_found : (at : ℕ) → best < never_key → at ≡ keys_in low lanes high blocks best
      → limited limit (found (best % 65536) at) ≡ searched (cost_of ws) test (2 ^ count) limit
  unfolding key_of
  block_found at l p =
      answer_found (cost_of ws) key (2 ^ count) never_key (ranked ws count low lanes high blocks c g) test limit best settled (best % 65536) at l
      (λ n k d. omega (arith, pow_mono {i = count} {j = 16} c))
      (p ∙ counted key (2 ^ count) low lanes high blocks g best)

-- ---- no trial at all

pub answer_zero : (ws : List ℕ) (test : ℕ → Bool) (N tried limit : ℕ) → 0 < N → limit ≡ 0 → test 0 ≡ false → tried ≡ N - 1
    → limited limit (nothing tried) ≡ searched (cost_of ws) test N limit
answer_zero ws test N tried limit p z t e =
    ap (λ (x : ℕ). limited limit (nothing x)) e
    ∙ subst (λ (x : ℕ). limited x (nothing (N - 1)) ≡ searched (cost_of ws) test N x) (sym z) (sym (go (dec_lt 0 (N - 1))))
  where
    none : (m : ℕ) → m < N → place (cost_of ws) N m ≤ 0 → test m ≡ false
    none m l k = pick (ℕ_discrete m 0)
      where
        pick : Dec (m ≡ 0) → test m ≡ false
        pick (yes d) = ap test d ∙ t
        pick (no d) = absurd (omega (arith, other_places ws N m l d))

    go : Dec (0 < N - 1) → searched (cost_of ws) test N 0 ≡ cond (ltb 0 (N - 1)) spent (nothing (N - 1))
    go (yes k) = (searched_means (cost_of ws) test N 0 p spent).1 (none, omega arith) ∙ simp (lt-ltb _ _ k)
    go (no k) =
        let h : N - 1 ≤ 0 = omega arith in
        (searched_means (cost_of ws) test N 0 p (nothing (N - 1))).1 ((λ m l. ap test (omega arith) ∙ t), omega arith, h) ∙ simp (le-ltb _ _ h)

-- ---- fewer rules

pub answer_relevant : (levels r : ℕ) (h p m s H P M S : List ℕ) → SameAnswer levels r h p m s H P M S
    → (ws : List ℕ) (shown : ℕ) (members : List ℕ) (count limit : ℕ)
    → searched (cost_of ws) (opens_at levels H P M S r shown members count) (2 ^ count) limit
    ≡ searched (cost_of ws) (opens_at levels h p m s r shown members count) (2 ^ count) limit
unfolding opens_at
answer_relevant levels r h p m s H P M S same ws shown members count limit =
    searched_same (cost_of ws) (opens_at levels H P M S r shown members count) (opens_at levels h p m s r shown members count) (2 ^ count)
    (λ n. same.same (switched shown members count n)) (pow_pos count) limit
