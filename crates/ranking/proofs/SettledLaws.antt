-- What a search has settled is its answer: by the order of keys. Assumes nothing.
use mathlib.Core.Path.{◌∙◌, ◌≡◌, refl, subst, sym}
use mathlib.Core.Logic.{◌⊎◌, inl, inr}
use mathlib.Core.Bool.{Bool, cond, false, true}
use Prim.Native.Nat.{◌-◌, ◌<◌, ◌≤◌, ℕ}
use borrow.Author.Tests.{le-ltb, lt-ltb}
use lib.Dec.{ltb}
use native.Mathlib.Decide.{dec_lt}
use native.Mathlib.Omega.{arith}
use Rattle.lists.specs.Sums.{sum}
use Rattle.lists.proofs.SumLaws.{sum_le, sum_same}
use Rattle.preference.specs.Order.{Before, found, nothing, place, searched, spent}
use Rattle.preference.proofs.OrderLaws.{before_cases, mark, place_most, places, searched_means}
use Rattle.ranking.specs.Grid.{Ranked, Settled}
use Rattle.ranking.specs.Place.{below}
use Rattle.ranking.proofs.PlaceLaws.{below_cases, below_no, below_yes}

-- ---- counting what is below a key

pub below_later : (x a b : ℕ) → a ≤ b → below x a ≤ below x b
below_later x a b l = go (below_cases x a) (below_cases x b)
  where
    go : ((x < a) × (below x a ≡ 1)) ⊎ ((a ≤ x) × (below x a ≡ 0)) → ((x < b) × (below x b ≡ 1)) ⊎ ((b ≤ x) × (below x b ≡ 0)) → below x a ≤ below x b
    go (inl (i, e)) (inl (j, d)) = omega arith
    go (inl (i, e)) (inr (j, d)) = absurd (omega arith)
    go (inr (i, e)) _ = omega arith

pub count_later : (key : ℕ → ℕ) (N a b : ℕ) → a ≤ b → sum (λ k. below (key k) a) N ≤ sum (λ k. below (key k) b) N
count_later key N a b l = sum_le (λ k. below (key k) a) (λ k. below (key k) b) N (λ k _. below_later (key k) a b l)

module _ (cost key : ℕ → ℕ) (N bound : ℕ) (ranked : Ranked cost key N bound) where
  -- the place is the number of keys below
  pub place_is : (n : ℕ) → n < N → sum (λ k. below (key k) (key n)) N ≡ place cost N n
  unfolding place
  place_is n l = sum_same (λ k. below (key k) (key n)) (λ k. mark cost k n) N (λ k i. go k i (before_cases cost k n))
    where
      go : (k : ℕ) → k < N → (Before cost k n × (mark cost k n ≡ 1)) ⊎ ((Before cost k n → ⊥) × (mark cost k n ≡ 0))
          → below (key k) (key n) ≡ mark cost k n
      go k i (inl (h, e)) = below_yes ((ranked.less k n i l).1 h) ∙ sym e
      go k i (inr (f, e)) = below_no (later (dec_lt (key k) (key n))) ∙ sym e
        where
          later : Dec (key k < key n) → key n ≤ key k
          later (yes h) = absurd (f ((ranked.less k n i l).0 h))
          later (no h) = omega arith

  module _ (test : ℕ → Bool) (limit best : ℕ) (settled : Settled key test N bound limit best) where
    is_false : (b : Bool) → (b ≡ true → ⊥) → b ≡ false
    is_false true f = absurd (f refl)
    is_false false f = refl

    -- none passes up to the limit
    pub settled_nothing : 0 < N → bound ≤ best → searched cost test N limit ≡ cond (ltb limit (N - 1)) spent (nothing (N - 1))
    settled_nothing p l = go (dec_lt limit (N - 1))
      where
        past : (m : ℕ) → m < N → test m ≡ true → limit < place cost N m
        past m i t = pick (settled.each m i t)
          where
            pick : (best ≤ key m) ⊎ (limit < sum (λ k. below (key k) (key m)) N) → limit < place cost N m
            pick (inl h) = absurd (omega (arith, ranked.small m i))
            pick (inr h) = subst (λ (x : ℕ). limit < x) (place_is m i) h

        go : Dec (limit < N - 1) → searched cost test N limit ≡ cond (ltb limit (N - 1)) spent (nothing (N - 1))
        go (yes k) =
            (searched_means cost test N limit p spent).1 ((λ m i o. is_false (test m) (λ t. let q = past m i t in omega arith)), omega arith)
            ∙ simp (lt-ltb _ _ k)
        go (no k) =
            let h : N - 1 ≤ limit = omega arith in
            (searched_means cost test N limit p (nothing (N - 1))).1
            ((λ m i. is_false (test m) (λ t. let q = past m i t in omega (arith, place_most cost N m i))), omega arith, h)
            ∙ simp (le-ltb _ _ h)

    -- n passes, and has the best key
    pub settled_found : (n : ℕ) → n < N → test n ≡ true → key n ≡ best
        → searched cost test N limit ≡ cond (ltb limit (place cost N n)) spent (found n (place cost N n))
    settled_found n l t e = go (dec_lt limit (place cost N n))
      where
        p : 0 < N
        p = omega arith

        not_before : (m : ℕ) → m < N → test m ≡ true → Before cost m n → limit < place cost N m
        not_before m i q b = pick (settled.each m i q)
          where
            pick : (best ≤ key m) ⊎ (limit < sum (λ k. below (key k) (key m)) N) → limit < place cost N m
            pick (inl h) = absurd (omega (arith, (ranked.less m n i l).1 b))
            pick (inr h) = subst (λ (x : ℕ). limit < x) (place_is m i) h

        go : Dec (limit < place cost N n) → searched cost test N limit ≡ cond (ltb limit (place cost N n)) spent (found n (place cost N n))
        go (yes k) =
            (searched_means cost test N limit p spent).1 (
              (λ m i o. is_false (test m) (λ q.
                  let b = (places cost N m n i l).0 (omega arith) in
                  let h = not_before m i q b in
                  omega arith)),
              omega (arith, place_most cost N n l),
            )
            ∙ simp (lt-ltb _ _ k)
        go (no k) =
            let h : place cost N n ≤ limit = omega arith in
            (searched_means cost test N limit p (found n (place cost N n))).1 (
              record {
                inside = l;
                passes = t;
                first = λ m i b. is_false (test m) (λ q.
                    let x = not_before m i q b in
                    let y = (places cost N m n i l).1 b in
                    omega arith);
              },
              refl,
              h,
            )
            ∙ simp (le-ltb _ _ h)
