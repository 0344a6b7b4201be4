-- The theorems of the order: what is computed is what is meant, and the first candidate by cost is the preferred question. Assumes nothing.
use Rattle.std.specs.Prelude.{◌≡◌, ◌↔◌, ◌⊎◌, ◌≢◌, Bool, false, true, List, ◌*◌, ◌<◌, ◌^◌, ◌≤◌, suc, ℕ, get_or, length}
use Rattle.std.proofs.Math.Option.{Option, none, some}
use Rattle.lists.specs.Sums.{sum}
use Rattle.atoms.specs.Sets.{Subset, bit, size}
use Rattle.preference.specs.Preference.{preferred}
use Rattle.preference.specs.Question.{Question, candidates, keys_by}
use Rattle.preference.specs.Order.{Before, First, Result, Searched, before, cost_of, first_of, found, nothing, place, searched, spent, weight_of}
use Rattle.preference.specs.Subsets.{WeightsListed, subset_of, weights_of}
use Rattle.preference.specs.Weights.{Lighter, total}

-- the question that a candidate stands for, where D may be asked
abbrev pub question_at : ℕ → ℕ → Question
question_at D n = record { asks = subset_of D n }

abbrev pub question_for : ℕ → Option ℕ → Option Question
question_for D none = none
question_for D (some n) = some (question_at D n)

-- of the subsets of D that pass a test, X is the one that is lighter than every other
pub record LightestOf (w : ℕ → ℕ) (test : Question → Bool) (D X : ℕ) : Type 0 where
  pub inside : Subset X D
  pub passes : test (record { asks = X }) ≡ true
  pub first : (Y : ℕ) → Subset Y D → test (record { asks = Y }) ≡ true → Y ≢ X → Lighter w X Y

pub record OrderTheorems : Type 0 where
  pub before_means : (cost : ℕ → ℕ) (m n : ℕ) → (before cost m n ≡ true) ↔ Before cost m n
  -- what comes before has the smaller place, and every place is below the number of candidates
  pub places : (cost : ℕ → ℕ) (N m n : ℕ) → m < N → n < N → (place cost N m < place cost N n) ↔ Before cost m n
  pub place_most : (cost : ℕ → ℕ) (N n : ℕ) → n < N → place cost N n < N
  -- the empty candidate has place 0, and every other one a place from 1
  pub empty_place : (weights : List ℕ) (N : ℕ) → place (cost_of weights) N 0 ≡ 0
  pub other_places : (weights : List ℕ) (N n : ℕ) → n < N → n ≢ 0 → 0 < place (cost_of weights) N n
  -- each answer of a search is given exactly where it is meant
  pub searched_means : (cost : ℕ → ℕ) (test : ℕ → Bool) (N : ℕ) → 0 < N → (limit : ℕ) (a : Result)
      → (searched cost test N limit ≡ a) ↔ Searched cost test N limit a
  -- "A round with a limit below its trials answers "spent"" (document 02, R-9): at the place of the first it is found, below it spent
  pub at_the_limit : (cost : ℕ → ℕ) (test : ℕ → Bool) (N n : ℕ) → First cost test N n → searched cost test N (place cost N n) ≡ found n (place cost N n)
  pub below_it : (cost : ℕ → ℕ) (test : ℕ → Bool) (N n limit : ℕ) → First cost test N n → limit < place cost N n → searched cost test N limit ≡ spent
  -- where none passes, "all of them": as many as there are beside the empty one
  pub all_tried : (cost : ℕ → ℕ) (test : ℕ → Bool) (N : ℕ) → ((m : ℕ) → m < suc N → test m ≡ false) → searched cost test (suc N) N ≡ nothing N
  pub not_all_tried : (cost : ℕ → ℕ) (test : ℕ → Bool) (N limit : ℕ) → ((m : ℕ) → m < suc N → test m ≡ false) → limit < N
      → searched cost test (suc N) limit ≡ spent
  -- "A larger limit never changes an answer other than "spent"." (document 02, R-9)
  pub larger : (cost : ℕ → ℕ) (test : ℕ → Bool) (N : ℕ) → 0 < N → (limit limit' : ℕ) → limit ≤ limit' → searched cost test N limit ≢ spent
      → searched cost test N limit' ≡ searched cost test N limit
  -- the candidates below 2 to the power of D's size are the subsets of D, each once, rising
  pub inside : (D n : ℕ) → Subset (subset_of D n) D
  pub all : (D X : ℕ) → D < 2 ^ 16 → Subset X D → (n : ℕ) × (n < 2 ^ size D) × (subset_of D n ≡ X)
  pub rising : (D m n : ℕ) → D < 2 ^ 16 → n < 2 ^ size D → m < n → subset_of D m < subset_of D n
  -- weights are summed up over the members
  pub weight_means : (ws : List ℕ) (n : ℕ) → weight_of ws n ≡ sum (λ j. bit n j * get_or ws j 0) (length ws)
  pub total_means : (w : ℕ → ℕ) (X : ℕ) → total w X ≡ sum (λ k. bit X k * w k) 16
  -- of the sixteen credentials alone
  pub weights_alike : (v w : ℕ → ℕ) → ((k : ℕ) → k < 16 → v k ≡ w k) → (X : ℕ) → total v X ≡ total w X
  -- where each of them weighs 1, as without weights, "The preferred set has the fewest credentials, counted as one bits; among those, the smallest as a
  -- number." (document 01)
  pub equal_weights : (w : ℕ → ℕ) → ((k : ℕ) → k < 16 → w k ≡ 1) → (X Y : ℕ) → X < 2 ^ 16 → Y < 2 ^ 16
      → Lighter w X Y ↔ ((size X < size Y) ⊎ ((size X ≡ size Y) × (X < Y)))
  -- a candidate weighs what its set weighs, and has as many members
  pub weighed : (w : ℕ → ℕ) (D n : ℕ) → weight_of (weights_of w D) n ≡ total w (subset_of D n)
  pub sized : (D n : ℕ) → D < 2 ^ 16 → n < 2 ^ size D → size (subset_of D n) ≡ size n
  -- the order of cost is that of weight, size and number
  pub lightest : (w : ℕ → ℕ) (D m n : ℕ) → D < 2 ^ 16 → m < 2 ^ size D → n < 2 ^ size D
      → Before (cost_of (weights_of w D)) m n ↔ Lighter w (subset_of D m) (subset_of D n)
  -- the first by cost is the lightest that passes
  pub lightest_first : (w : ℕ → ℕ) (test : Question → Bool) (D n : ℕ) → D < 2 ^ 16
      → first_of (cost_of (weights_of w D)) (λ n. test (question_at D n)) (2 ^ size D) ≡ some n → LightestOf w test D (subset_of D n)
  -- "among subsets of D that with P unlock the request, the preferred one is asked": the first by cost, whatever the weights and the test
  pub by_cost : (w : ℕ → ℕ) (test : Question → Bool) (D : ℕ) → D < 2 ^ 16
      → question_for D (first_of (cost_of (weights_of w D)) (λ n. test (question_at D n)) (2 ^ size D)) ≡ preferred (keys_by w) test (candidates D)
  -- a candidate's cost is by the weights of D's members, whatever stands behind them
  pub costs_alike : (w : ℕ → ℕ) (D : ℕ) → D < 2 ^ 16 → (ws : List ℕ) → WeightsListed w D ws → (n : ℕ) → n < 2 ^ size D
      → cost_of ws n ≡ cost_of (weights_of w D) n
