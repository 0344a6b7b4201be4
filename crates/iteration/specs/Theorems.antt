-- The theorems of passes: there is a first that is idle, for any pass that only adds atoms and so for every list of rules and every set, and how soon it
-- comes. Assumes nothing.
use Rattle.std.specs.Prelude.{◌≡◌, ◌↔◌, ◌&&◌, cond, List, [], ◌∷◌, ◌+◌, ◌<◌, ◌^◌, ◌≤◌, suc, ℕ}
use Rattle.lists.specs.Lists.{Every, OneOf}
use Rattle.atoms.specs.Sets.{Member, Subset, difference, disjoint, single, size, subset, union}
use Rattle.rules.specs.LevelByLevel.{pass_over, settle}
use Rattle.rules.specs.Model.{applies, closure, pass_by, times}
use Rattle.rules.specs.Rules.{Headed, Rule}
use Rattle.iteration.specs.Counting.{pass_count, rule_pass_count}
use Rattle.iteration.specs.IdlePasses.{ClosedIn, Idle, LeastIdle, LeastIdleOf, RulesClosedIn, after_passes, atoms_added, heads_of}

-- of m sets, each with a pass, where a pass adds only atoms of H
module _ (m : ℕ) (pass : ℕ → ℕ → ℕ) (S : ℕ → ℕ) (H : ℕ) where
  pub record Counts : Type 0 where
    -- there is such a number, and it is computed
    pub exists : LeastIdle m pass S (pass_count m pass S)
    -- just one
    pub one : (n : ℕ) → LeastIdle m pass S n → n ≡ pass_count m pass S
    -- "so at most one more than the atoms added", to all of the sets together, and than the atoms that a pass may add
    pub few : (n : ℕ) → LeastIdle m pass S n → n ≤ suc (atoms_added m S (after_passes pass S n))
    pub few_heads : (n : ℕ) → LeastIdle m pass S n → n ≤ suc (size H)
    -- every later pass is idle too: any greater number of passes makes the same
    pub stay : (n : ℕ) → LeastIdle m pass S n → (k j : ℕ) → j < m → after_passes pass S (n + k) j ≡ after_passes pass S n j
    -- it is the greatest of what each set needs by itself
    pub each : (n : ℕ) → LeastIdle m pass S n → (j k : ℕ) → j < m → LeastIdleOf (pass j) (S j) k → k ≤ n
    pub some : (n : ℕ) → LeastIdle m pass S n → 0 < m → (j : ℕ) × ((j < m) × LeastIdleOf (pass j) (S j) n)
    -- what a loop says of its sets and its count: this is the least number, and the sets are what so many passes make
    pub loops : (R : ℕ → ℕ) (n : ℕ) → ClosedIn m pass S H R n
        ↔ (LeastIdle m pass S n × ((j : ℕ) → j < m → R j ≡ after_passes pass S n j))

-- what R-3 says of a closure: `reached` from S by passes, in n of them
pub record ReachedIn (pass : ℕ → ℕ) (S H reached n : ℕ) : Type 0 where
  pub count : LeastIdleOf pass S n
  pub same : times n pass S ≡ reached
  pub few : n ≤ suc (size (difference reached S))
  pub few_heads : n ≤ suc (size H)

pub record Theorems : Type 0 where
  -- any passes that only add, and only some of the 64 atoms
  pub counts : (m : ℕ) (pass : ℕ → ℕ → ℕ) (S : ℕ → ℕ) (H : ℕ) → H < 2 ^ 64
      → ((j : ℕ) → j < m → ((X : ℕ) → Subset X (pass j X)) × ((X : ℕ) → Subset (pass j X) (union X H)))
      → Counts m pass S H
  -- the atoms added to no set, and to one set more
  pub added_none : (S R : ℕ → ℕ) → atoms_added 0 S R ≡ 0
  pub added_more : (m : ℕ) (S R : ℕ → ℕ) → atoms_added (suc m) S R ≡ size (difference (R m) (S m)) + atoms_added m S R
  -- a pass is idle exactly where no set has an atom after it that it had not before
  pub idle_means : (m : ℕ) (pass : ℕ → ℕ → ℕ) (S : ℕ → ℕ) → ((j : ℕ) → j < m → (X : ℕ) → Subset X (pass j X)) → (n : ℕ)
      → Idle m pass S (suc n)
      ↔ ((j : ℕ) → j < m → (k : ℕ) → Member k (after_passes pass S (suc n) j) → Member k (after_passes pass S n j))
  -- of one set, from the passes alone
  pub one_set : (pass : ℕ → ℕ) (S n : ℕ)
      → LeastIdleOf pass S (suc n)
      ↔ ((times (suc n) pass S ≡ times n pass S) × ((k : ℕ) → times (suc k) pass S ≡ times k pass S → n ≤ k))
  -- the heads of rules are just the atoms that head one of them
  pub heads_are : (rs : List Rule) → Every Headed rs → (k : ℕ) → Member k (heads_of rs) ↔ ((r : Rule) × (OneOf r rs × (r.head ≡ k)))
  -- a pass goes over the rules once, in order; each adds its head where all of its positive part is in the set as it stands and nothing that it negates is in B
  pub no_rule : (B S : ℕ) → pass_over B [] S ≡ S
  pub rule_by_rule : (B : ℕ) (r : Rule) (rs : List Rule) (S : ℕ)
      → pass_over B (r ∷ rs) S ≡ pass_over B rs (cond (disjoint r.negated B && subset r.positive S) (union S (single r.head)) S)
  -- a pass over rules only adds, and only their heads
  pub rules_add : (B : ℕ) (rs : List Rule) (X : ℕ) → Subset X (pass_over B rs X) × Subset (pass_over B rs X) (union X (heads_of rs))
  -- every list of rules, with any set: the closure, and one level of the model
  pub closures : (rs : List Rule) (S : ℕ)
      → ReachedIn (pass_by applies rs) S (heads_of rs) (closure rs S) (pass_count 1 (λ _. pass_by applies rs) (λ _. S))
  pub levels : (rs : List Rule) (S : ℕ) → ReachedIn (pass_over S rs) S (heads_of rs) (settle rs S) (rule_pass_count rs S)
  -- and with any number of sets at once, each with the reduct by itself
  pub many : (m : ℕ) (rs : List Rule) (S : ℕ → ℕ) → Counts m (λ j. pass_over (S j) rs) S (heads_of rs)
  pub many_reach : (m : ℕ) (rs : List Rule) (S : ℕ → ℕ) (n : ℕ) → LeastIdle m (λ j. pass_over (S j) rs) S n
      → (j : ℕ) → j < m → after_passes (λ j. pass_over (S j) rs) S n j ≡ settle rs (S j)
  -- of rules and one set it says all that R-3 says
  pub rules_closed : (rs : List Rule) (S R n : ℕ) → RulesClosedIn rs S R n ↔ ReachedIn (pass_over S rs) S (heads_of rs) R n
