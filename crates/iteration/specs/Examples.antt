-- Chosen cases of the count: no rule, one rule, chains of rules in either order, loops, many rules with one head, four sets at once. Assumes nothing.
use Rattle.std.specs.Prelude.{◌≡◌, List, [], ◌∷◌, ℕ}
use Rattle.atoms.specs.Sets.{empty, set_of}
use Rattle.rules.specs.LevelByLevel.{pass_over}
use Rattle.rules.specs.Rules.{Rule}
use Rattle.iteration.specs.Counting.{pass_count, rule_pass_count}

-- the rule that concludes h if k holds; the same, and n does not
abbrev pub rule : ℕ → ℕ → Rule
rule h k = record { head = h; positive = set_of (k ∷ []); negated = empty }

abbrev pub rule_not : ℕ → ℕ → ℕ → Rule
rule_not h k n = record { head = h; positive = set_of (k ∷ []); negated = set_of (n ∷ []) }

-- the count of passes over rules from the set of one credential, 0
unfoldable pub count_of : List Rule → ℕ
count_of rs = rule_pass_count rs (set_of (0 ∷ []))

-- the count of passes over four sets at once: no credential, 0, 1, and both; set j is the number j
unfoldable pub count_of_four : List Rule → ℕ
count_of_four rs = pass_count 4 (λ j. pass_over j rs) (λ j. j)

pub record Examples : Type 0 where
  -- no rule: the first pass is idle
  pub no_rule : count_of [] ≡ 1
  -- one rule that applies: one pass adds, and one is idle
  pub applies : count_of (rule 17 0 ∷ []) ≡ 2
  -- one whose body does not hold; one whose head is there; one that is struck
  pub body_missing : count_of (rule 17 1 ∷ []) ≡ 1
  pub head_there : count_of (rule 0 0 ∷ []) ≡ 1
  pub struck : count_of (rule_not 17 0 0 ∷ []) ≡ 1
  -- a chain of three rules in the right order of records: one pass adds all of it
  pub chain : count_of (rule 17 0 ∷ rule 18 17 ∷ rule 19 18 ∷ []) ≡ 2
  -- in the wrong order each pass adds one atom: no count can be above "one more than the atoms added", and this one is that
  pub chain_backwards : count_of (rule 19 18 ∷ rule 18 17 ∷ rule 17 0 ∷ []) ≡ 4
  -- a loop that nothing enters, and one that is entered at its last rule
  pub loop : count_of (rule 17 18 ∷ rule 18 17 ∷ []) ≡ 1
  pub loop_entered : count_of (rule 18 17 ∷ rule 17 18 ∷ rule 17 0 ∷ []) ≡ 3
  -- many rules, few atoms: by heads and not by rules
  pub one_head : count_of (rule 17 18 ∷ rule 17 19 ∷ rule 17 0 ∷ rule 17 0 ∷ []) ≡ 2
  -- four sets at once: idle where nothing is added to any of them, so as many as the slowest takes
  pub four_none : count_of_four (rule 17 2 ∷ []) ≡ 1
  pub four_one : count_of_four (rule_not 17 1 0 ∷ []) ≡ 2
  pub four_slow : count_of_four (rule 18 17 ∷ rule_not 17 1 0 ∷ rule 20 19 ∷ rule 19 0 ∷ []) ≡ 3
  pub four_slowest : count_of_four (rule 17 0 ∷ rule 20 19 ∷ rule 19 18 ∷ rule_not 18 1 0 ∷ []) ≡ 4
