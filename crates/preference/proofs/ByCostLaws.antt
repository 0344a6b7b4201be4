-- The order of cost over the subsets of D: by weight, size and number; the first is the preferred question. Assumes nothing.
use mathlib.Core.Path.{◌∙◌, ◌≡◌, ap, refl, subst, sym}
use mathlib.Core.Logic.{◌↔◌, ◌≢◌, inl, inr}
use mathlib.Core.Bool.{Bool, false, true, true≢false}
use mathlib.Core.List.{List}
use mathlib.Core.Option.{Option, none, some}
use Prim.Native.Nat.{◌*◌, ◌+◌, ◌<◌, ◌^◌, ◌≤◌, ℕ}
use lib.Pow.{pow_mono}
use native.Mathlib.Decide.{dec_lt}
use native.Mathlib.Omega.{arith}
use Rattle.atoms.specs.Sets.{Subset, size}
use Rattle.atoms.proofs.SizeLaws.{size_credentials}
use Rattle.preference.specs.Preference.{lex_before, preferred}
use Rattle.preference.specs.Question.{Question, candidates, keys_by}
use Rattle.preference.specs.Order.{Before, First, cost_of, first_of}
use Rattle.preference.specs.Subsets.{WeightsListed, subset_of, weights_of}
use Rattle.preference.specs.OrderTheorems.{LightestOf, question_at, question_for}
use Rattle.preference.specs.Weights.{Lighter, total}
use Rattle.preference.proofs.CostLaws.{weight_alike}
use Rattle.preference.proofs.NumberLaws.{in_all, in_inside, in_lt, in_rising, in_size, in_weights, ones_size}
use Rattle.preference.proofs.OrderLaws.{Compared, alike, compare, first, first_none, first_some, second}
use Rattle.preference.proofs.QuestionLaws.{none_preferred, not_before, one_preferred}

module _ (D : ℕ) (l : D < 2 ^ 16) where
  pub all : (X : ℕ) → Subset X D → (n : ℕ) × (n < 2 ^ size D) × (subset_of D n ≡ X)
  all X f = rw (ones_size D l) at (in_all 16 D X l f)

  pub rising : (m n : ℕ) → n < 2 ^ size D → m < n → subset_of D m < subset_of D n
  rising m n k = in_rising 16 D m n (rw (ones_size D l) k)

  falling : (m n : ℕ) → m < 2 ^ size D → subset_of D m < subset_of D n → m < n
  falling m n k h = go (dec_lt m n) (dec_lt n m)
    where
      go : Dec (m < n) → Dec (n < m) → m < n
      go (yes i) _ = i
      go (no _) (yes j) = absurd (omega (arith, rising n m k j))
      go (no i) (no j) = let e : subset_of D m ≡ subset_of D n = ap (subset_of D) (omega arith) in absurd (omega arith)

  top : 2 ^ size D ≤ 65536
  top = pow_mono {i = size D} {j = 16} (size_credentials D l)

  pub sized : (n : ℕ) → n < 2 ^ size D → size (subset_of D n) ≡ size n
  sized n k =
      sym (ones_size (subset_of D n) (in_lt 16 D n)) ∙ in_size 16 D n (rw (ones_size D l) k) ∙ ones_size n (omega (arith, top))

  module _ (w : ℕ → ℕ) (m n : ℕ) (i : m < 2 ^ size D) (j : n < 2 ^ size D) where
    costed : (x : ℕ) → x < 2 ^ size D → (cost_of (weights_of w D) x ≡ 17 * total w (subset_of D x) + size (subset_of D x)) × (size (subset_of D x) ≤ 16)
    unfolding cost_of
    costed x k = (omega (arith, in_weights 16 w D x, sized x k), size_credentials (subset_of D x) (in_lt 16 D x))

    pub lightest : Before (cost_of (weights_of w D)) m n ↔ Lighter w (subset_of D m) (subset_of D n)
    lightest = (forth, back)
      where
        a : (cost_of (weights_of w D) m ≡ 17 * total w (subset_of D m) + size (subset_of D m)) × (size (subset_of D m) ≤ 16)
        a = costed m i

        b : (cost_of (weights_of w D) n ≡ 17 * total w (subset_of D n) + size (subset_of D n)) × (size (subset_of D n) ≤ 16)
        b = costed n j

        forth : Before (cost_of (weights_of w D)) m n → Lighter w (subset_of D m) (subset_of D n)
        forth (inl h) = go (dec_lt (total w (subset_of D m)) (total w (subset_of D n)))
          where
            go : Dec (total w (subset_of D m) < total w (subset_of D n)) → Lighter w (subset_of D m) (subset_of D n)
            go (yes k) = inl k
            go (no k) = inr (omega (arith, a.0, a.1, b.0, b.1), inl (omega (arith, a.0, a.1, b.0, b.1)))
        forth (inr (e, h)) = inr (omega (arith, a.0, a.1, b.0, b.1), inr (omega (arith, a.0, a.1, b.0, b.1), rising m n j h))

        back : Lighter w (subset_of D m) (subset_of D n) → Before (cost_of (weights_of w D)) m n
        back (inl h) = inl (omega (arith, a.0, a.1, b.0, b.1))
        back (inr (e, inl h)) = inl (omega (arith, a.0, b.0))
        back (inr (e, inr (s, h))) = inr (omega (arith, a.0, b.0), falling m n i h)

  -- the first that passes is lighter than every other
  pub lightest_first : (w : ℕ → ℕ) (test : Question → Bool) (n : ℕ)
      → first_of (cost_of (weights_of w D)) (λ n. test (question_at D n)) (2 ^ size D) ≡ some n → LightestOf w test D (subset_of D n)
  lightest_first w test n e = record { inside = in_inside 16 D n; passes = f.passes; first = λ Y i t d. other Y t d (all Y i) }
    where
      f : First (cost_of (weights_of w D)) (λ n. test (question_at D n)) (2 ^ size D) n
      f = first_some (cost_of (weights_of w D)) (λ n. test (question_at D n)) (2 ^ size D) n e

      other : (Y : ℕ) → test (record { asks = Y }) ≡ true → Y ≢ subset_of D n → (m : ℕ) × (m < 2 ^ size D) × (subset_of D m ≡ Y) → Lighter w (subset_of D n) Y
      other Y t d (m, l, is) = go (compare (cost_of (weights_of w D)) m n)
        where
          go : Compared (cost_of (weights_of w D)) m n → Lighter w (subset_of D n) Y
          go (first b) = absurd (true≢false (sym t ∙ ap (λ (y : ℕ). test (record { asks = y })) (sym is) ∙ f.first m l b))
          go (alike a) = absurd (d (sym is ∙ ap (subset_of D) a))
          go (second b) = subst (λ (y : ℕ). Lighter w (subset_of D n) y) is ((lightest w n m f.inside l).0 b)

  -- and is the preferred question
  module _ (w : ℕ → ℕ) (test : Question → Bool) where
    abbrev cost : ℕ → ℕ
    cost = cost_of (weights_of w D)

    abbrev passes : ℕ → Bool
    passes n = test (question_at D n)

    -- x, the set of candidate m, does not come before candidate n
    after : (n : ℕ) → First cost passes (2 ^ size D) n
        → (x : Question) → Subset x.asks D → test x ≡ true → lex_before (keys_by w x) (keys_by w (question_at D n)) ≡ false
    after n f x i t = not_before w x (question_at D n) (λ h. none h (all x.asks i))
      where
        none : Lighter w x.asks (subset_of D n) → (m : ℕ) × (m < 2 ^ size D) × (subset_of D m ≡ x.asks) → ⊥
        none h (m, k, is) =
            let b = (lightest w m n k f.inside).1 (subst (λ (y : ℕ). Lighter w y (subset_of D n)) (sym is) h) in
            true≢false (sym t ∙ ap (λ (y : ℕ). test (record { asks = y })) (sym is) ∙ f.first m k b)

    pub by_cost : question_for D (first_of cost passes (2 ^ size D)) ≡ preferred (keys_by w) test (candidates D)
    by_cost = go (first_of cost passes (2 ^ size D)) refl
      where
        go : (a : Option ℕ) → first_of cost passes (2 ^ size D) ≡ a → question_for D a ≡ preferred (keys_by w) test (candidates D)
        go none e =
            sym (none_preferred w test D l (λ q i.
            let o = all q.asks i in
            ap test (ap (λ (y : ℕ). record { asks = y }) (sym o.2)) ∙ first_none cost passes (2 ^ size D) e o.0 o.1))
        go (some n) e =
            let f = first_some cost passes (2 ^ size D) n e in
            sym (one_preferred w test D l (question_at D n) (in_inside 16 D n) f.passes (after n f))

  -- weights that are listed cost the same
  pub costs_alike : (w : ℕ → ℕ) (ws : List ℕ) → WeightsListed w D ws → (n : ℕ) → n < 2 ^ size D → cost_of ws n ≡ cost_of (weights_of w D) n
  unfolding cost_of
  costs_alike w ws h n k = omega (arith, weight_alike (size D) ws (weights_of w D) n k h)
