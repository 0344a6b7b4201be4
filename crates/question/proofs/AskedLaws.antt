-- What the search's answer asks is the preferred question. Assumes nothing.
use mathlib.Core.Path.{◌∙◌, ◌≡◌, ap, refl, subst, sym}
use mathlib.Core.Bool.{Bool, false, true}
use mathlib.Core.List.{List}
use mathlib.Core.Option.{Option, none, some}
use Prim.Native.Nat.{◌<◌, ◌^◌, ◌≤◌, ℕ}
use lib.Pow.{pow_mono, pow_pos}
use native.Mathlib.Omega.{arith}
use Rattle.atoms.specs.Sets.{Member, disjoint, size, union}
use Rattle.atoms.proofs.SetLaws.{bit_empty, bit_union, disjoint_true, ext, none_in_empty, true_disjoint}
use Rattle.atoms.proofs.SizeLaws.{size_credentials}
use Rattle.rules.specs.Unlocking.{grants}
use Rattle.arrays.specs.Arrays.{evaluated}
use Rattle.preference.specs.Candidates.{Members, switched, taken}
use Rattle.preference.specs.InArrays.{opens_at, opens_in, preferred_in}
use Rattle.preference.specs.Order.{Result, cost_of, first_of, searched, unlimited}
use Rattle.preference.specs.OrderTheorems.{question_at, question_for}
use Rattle.preference.specs.Question.{Question, no_question}
use Rattle.preference.specs.Subsets.{MembersOf, WeightsListed, subset_of, weights_of}
use Rattle.preference.specs.Weights.{weight_at}
use Rattle.preference.proofs.ByCostLaws.{by_cost, costs_alike}
use Rattle.preference.proofs.NumberLaws.{in_empty, in_inside}
use Rattle.preference.proofs.OrderLaws.{no_limit, searched_alike, searched_same}
use Rattle.preference.proofs.SwitchLaws as switching
use Rattle.search.specs.Types.{result_of}
use Rattle.search.specs.declared.result.SearchResult.{SearchResult}
use Rattle.search.specs.declared.result.SearchResult.TheVariants.{Found, Nothing, Spent}
use Rattle.question.specs.Types.{result_asks}

empty_union : (a : ℕ) → union 0 a ≡ a
empty_union a = ext (λ k. bit_union 0 a k ∙ omega (arith, bit_empty k))

module _ (levels : ℕ) (h p m s : List ℕ) (r P D : ℕ) (l : D < 2 ^ 16) (apart : disjoint P D ≡ true) (members : List ℕ) (listed : MembersOf D members) where
  abbrev test : Question → Bool
  test = opens_in levels h p m s r P

  -- what a candidate asks for, and what it tries
  pub asks : (n : ℕ) → switched 0 members (size D) n ≡ subset_of D n
  asks n =
      (switching.theorems).put_in 0 members (size D) n listed.each listed.different
      (true_disjoint 0 (taken members (size D) n) (λ k a b. none_in_empty k a))
      ∙ empty_union (taken members (size D) n) ∙ listed.subset n

  tries : (n : ℕ) → switched P members (size D) n ≡ union P (subset_of D n)
  tries n =
      let e = listed.subset n in
      (switching.theorems).put_in P members (size D) n listed.each listed.different
      (true_disjoint P (taken members (size D) n) (λ k a b. disjoint_true P D apart k a (in_inside 16 D n k (subst (Member k) e b))))
      ∙ ap (λ (x : ℕ). union P x) e

  pub same_test : (n : ℕ) → opens_at levels h p m s r P members (size D) n ≡ test (question_at D n)
  unfolding opens_at
  same_test n = ap (λ (x : ℕ). grants r (evaluated levels h p m s x)) (tries n)

  module _ (count : ℕ) (is : count ≡ size D) where
    pub counted : Members members count
    counted = subst (Members members) (sym is) listed.each

    -- the empty candidate asks for nothing
    pub locked : test no_question ≡ false → opens_at levels h p m s r P members count 0 ≡ false
    locked f =
        ap (λ (x : ℕ). opens_at levels h p m s r P members x 0) is ∙ same_test 0
        ∙ ap (λ (x : ℕ). grants r (evaluated levels h p m s (union P x))) (in_empty 16 D) ∙ f

    few : 2 ^ size D ≤ 65536
    few = pow_mono {i = size D} {j = 16} (size_credentials D l)

    module _ (ws listed-weights : List ℕ) (weighed : WeightsListed (weight_at ws) D listed-weights) where
      abbrev cost : ℕ → ℕ
      cost = cost_of (weights_of (weight_at ws) D)

      first : Option ℕ
      first = first_of cost (λ n. test (question_at D n)) (2 ^ size D)

      abbrev given : Option ℕ → Result
      given = unlimited cost (λ n. test (question_at D n)) (2 ^ size D)

      pub answered : (a : SearchResult) → result_of a ≡ searched (cost_of listed-weights) (opens_at levels h p m s r P members count) (2 ^ count) 65535
          → result_asks members count a ≡ preferred_in levels h p m s r P D ws
      unfolding first
      answered a e = go a first all ∙ by_cost D l (weight_at ws) test
        where
          all : result_of a ≡ given first
          all =
              e
              ∙ ap (λ (x : ℕ). searched (cost_of listed-weights) (opens_at levels h p m s r P members x) (2 ^ x) 65535) is
              ∙ searched_alike (cost_of listed-weights) cost (opens_at levels h p m s r P members (size D)) (2 ^ size D)
              (costs_alike D l (weight_at ws) listed-weights weighed) (pow_pos (size D)) 65535
              ∙ searched_same cost (opens_at levels h p m s r P members (size D)) (λ n. test (question_at D n)) (2 ^ size D) same_test (pow_pos (size D)) 65535
              ∙ no_limit cost (λ n. test (question_at D n)) (2 ^ size D) 65535 few

          question : (n k : ℕ) → n ≡ k → some (record { asks = switched 0 members count n }) ≡ some (question_at D k)
          question n k d =
              ap (λ (x : ℕ). some (record { asks = x }))
              (ap (λ (x : ℕ). switched 0 members x n) is ∙ asks n ∙ ap (subset_of D) d)

          go : (a : SearchResult) (o : Option ℕ) → result_of a ≡ given o → result_asks members count a ≡ question_for D o
          go (Found n q) (some k) f = question n k (cc)
          go (Found n q) none f = absurd (let z : ◌≡◌ {A = ℕ} 0 1 = cc in omega arith)
          go (Nothing q) (some k) f = absurd (let z : ◌≡◌ {A = ℕ} 0 1 = cc in omega arith)
          go (Nothing q) none f = refl
          go Spent (some k) f = absurd (let z : ◌≡◌ {A = ℕ} 0 1 = cc in omega arith)
          go Spent none f = absurd (let z : ◌≡◌ {A = ℕ} 0 1 = cc in omega arith)
