-- Document 02, R-3: passes, one after another, until one adds nothing, and their count. They are made over m sets side by side, set j for each j below m,
-- and each set has a pass of its own; of one set m is 1. Assumes nothing.
use Rattle.std.specs.Prelude.{◌≡◌, List, map, ◌<◌, ◌≤◌, suc, zero, ℕ}
use Rattle.lists.specs.Sums.{sum}
use Rattle.atoms.specs.Sets.{difference, set_of, size}
use Rattle.rules.specs.LevelByLevel.{pass_over}
use Rattle.rules.specs.Model.{times}
use Rattle.rules.specs.Rules.{Rule}

-- the heads of rules: what a pass over them may add
unfoldable pub heads_of : List Rule → ℕ
heads_of rs = set_of (map (λ (r : Rule). r.head) rs)

-- set j after n passes
abbrev pub after_passes : (ℕ → ℕ → ℕ) → (ℕ → ℕ) → ℕ → ℕ → ℕ
after_passes pass S n j = times n (pass j) (S j)

-- the atoms that are in sets R and were not in S, of all m sets together
abbrev pub atoms_added : ℕ → (ℕ → ℕ) → (ℕ → ℕ) → ℕ
atoms_added m S R = sum (λ j. size (difference (R j) (S j))) m

module _ (m : ℕ) (pass : ℕ → ℕ → ℕ) (S : ℕ → ℕ) where
  -- the "n-th pass adds nothing", to any of the sets; the first pass has number 1
  unfoldable pub Idle : ℕ → Type 0
  Idle zero = ⊥
  Idle (suc n) = (j : ℕ) → j < m → after_passes pass S (suc n) j ≡ after_passes pass S n j

  -- "the least n whose n-th pass adds nothing"
  pub record LeastIdle (n : ℕ) : Type 0 where
    pub idle : Idle n
    pub least : (k : ℕ) → Idle k → n ≤ k

  -- "each such loop shall end with the first pass that adds nothing. It carries its count of passes": of the sets R and the count n that a loop gives. H is
  -- what a pass may add.
  pub record ClosedIn (H : ℕ) (R : ℕ → ℕ) (n : ℕ) : Type 0 where
    -- R is what n passes make; the n-th adds nothing; none before it is idle
    pub made : (j : ℕ) → j < m → R j ≡ after_passes pass S n j
    pub idle : Idle n
    pub earlier : (k : ℕ) → k < n → Idle k → ⊥
    -- "so at most one more than the atoms added"
    pub few : n ≤ suc (atoms_added m S R)
    -- and than the atoms of H
    pub few_heads : n ≤ suc (size H)

-- the same of one set
abbrev pub LeastIdleOf : (ℕ → ℕ) → ℕ → ℕ → Type 0
LeastIdleOf pass S = LeastIdle 1 (λ _. pass) (λ _. S)

abbrev pub OneClosedIn : (ℕ → ℕ) → ℕ → ℕ → ℕ → ℕ → Type 0
OneClosedIn pass S H R = ClosedIn 1 (λ _. pass) (λ _. S) H (λ _. R)

-- the same of rules, "not" being read of the set as it is before the first pass
abbrev pub RulesClosedIn : List Rule → ℕ → ℕ → ℕ → Type 0
RulesClosedIn rs S = OneClosedIn (pass_over S rs) S (heads_of rs)
