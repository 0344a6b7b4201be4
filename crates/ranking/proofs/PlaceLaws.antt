-- Counting the candidates before a key. Assumes nothing.
use mathlib.Core.Path.{◌∙◌, ◌≡◌, ap, sym}
use mathlib.Core.Logic.{◌⊎◌, inl, inr}
use mathlib.Core.List.{List}
use Prim.Native.Nat.{◌*◌, ◌+◌, ◌-◌, ◌<◌, ◌≤◌, ℕ}
use borrow.Author.Tests.{le-ltb, lt-ltb}
use lib.Dec.{ltb}
use lib.ListN.{get_or}
use native.Mathlib.Decide.{dec_lt}
use native.Mathlib.Omega.{arith}
use Rattle.std.specs.Int.{from_bool}
use Rattle.std.specs.Prelude.{nat_lt}
use Rattle.std.proofs.lemmas.Bool.Decides.{nat_tests}
use Rattle.lists.proofs.SumLaws.{sum_next, sum_none, sum_start}
use Rattle.lists.specs.Sums.{sum}
use Rattle.ranking.specs.Keys.{never}
use Rattle.ranking.specs.Place.{below, keys_below, keys_in, narrow}

pub below_yes : {a b : ℕ} → a < b → below a b ≡ 1
unfolding below
below_yes l = simp (lt-ltb _ _ l)

pub below_no : {a b : ℕ} → b ≤ a → below a b ≡ 0
unfolding below
below_no l = simp (le-ltb _ _ l)

pub below_is : (a b r : ℕ) → r ≡ from_bool (nat_lt a b) → r ≡ below a b
unfolding below
below_is a b r e = grind (arith, nat_tests)

pub below_cases : (a b : ℕ) → ((a < b) × (below a b ≡ 1)) ⊎ ((b ≤ a) × (below a b ≡ 0))
below_cases a b = go (dec_lt a b)
  where
    go : Dec (a < b) → ((a < b) × (below a b ≡ 1)) ⊎ ((b ≤ a) × (below a b ≡ 0))
    go (yes l) = inl (l, below_yes l)
    go (no l) = let k : b ≤ a = omega arith in inr (k, below_no k)

pub below_most : (a b : ℕ) → below a b ≤ 1
below_most a b = go (below_cases a b)
  where
    go : ((a < b) × (below a b ≡ 1)) ⊎ ((b ≤ a) × (below a b ≡ 0)) → below a b ≤ 1
    go (inl (_, e)) = omega arith
    go (inr (_, e)) = omega arith

-- ---- the loops

pub none_below : (keys : List ℕ) (bar : ℕ) → keys_below keys 0 bar ≡ 0
unfolding keys_below
none_below keys bar = sum_start (λ i. below (get_or keys i 0) bar)

pub more_below : (keys : List ℕ) (i bar : ℕ) → keys_below keys (i + 1) bar ≡ keys_below keys i bar + below (get_or keys i 0) bar
unfolding keys_below
more_below keys i bar = sum_next (λ i. below (get_or keys i 0) bar) i

-- nothing is below 0
pub zero_below : (keys : List ℕ) (count left : ℕ) → left ≡ 0 → 0 ≡ keys_below keys count (narrow left)
unfolding keys_below
zero_below keys count left e =
    let z : narrow left ≡ 0 = omega arith in
    sym (ap (λ (x : ℕ). sum (λ i. below (get_or keys i 0) x) count) z ∙ sum_none (λ i. below (get_or keys i 0) 0) count (λ i _. below_no (omega arith)))

pub none_in : (low : List ℕ) (lanes : ℕ) (high : List ℕ) (key : ℕ) → keys_in low lanes high 0 key ≡ 0
unfolding keys_in
none_in low lanes high key = sum_start (λ b. keys_below low lanes (narrow (key - 256 * get_or high b 0)))

pub more_in : (low : List ℕ) (lanes : ℕ) (high : List ℕ) (b key count left more : ℕ) → count ≡ keys_in low lanes high b key → left ≡ key - 256 * get_or high b 0
    → more ≡ keys_below low lanes (narrow left) → count + more ≡ keys_in low lanes high (b + 1) key
unfolding keys_in
more_in low lanes high b key count left more p q s =
    omega (arith, p, s ∙ ap (keys_below low lanes) (ap narrow q), sum_next (λ b. keys_below low lanes (narrow (key - 256 * get_or high b 0))) b)

-- ---- the bar: where the first candidate of a block is past the limit

-- a bar is between l and h: blocks from h on stand past the limit
pub record Between (low : List ℕ) (lanes : ℕ) (high : List ℕ) (blocks limit l h : ℕ) : Type 0 where
  pub ordered : l ≤ h
  pub small : h < never
  pub past : limit < keys_in low lanes high blocks (256 * h)
