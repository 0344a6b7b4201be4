-- The count of passes, computed: pass by pass, until one would add nothing. specs/Theorems says that it is the least number of an idle pass.
-- Assumes nothing.
use Rattle.std.specs.Prelude.{Bool, ◌&&◌, cond, true, List, suc, zero, ℕ, eqb}
use Rattle.rules.specs.LevelByLevel.{pass_over}
use Rattle.rules.specs.Rules.{Rule}

-- a pass would add nothing to any of the sets below m
unfoldable pub at_rest : ℕ → (ℕ → ℕ → ℕ) → (ℕ → ℕ) → Bool
at_rest zero pass S = true
at_rest (suc m) pass S = eqb (pass m (S m)) (S m) && at_rest m pass S

-- how many passes are made, of which at most `most` add something
unfoldable pub count_from : ℕ → ℕ → (ℕ → ℕ → ℕ) → (ℕ → ℕ) → ℕ
count_from zero m pass S = 1
count_from (suc most) m pass S = cond (at_rest m pass S) 1 (suc (count_from most m pass (λ j. pass j (S j))))

-- each pass but the last adds an atom, and there are 64
unfoldable pub pass_count : ℕ → (ℕ → ℕ → ℕ) → (ℕ → ℕ) → ℕ
pass_count m pass S = count_from 64 m pass S

-- the same of rules and one set, "not" being read of the set as it is before the first pass
unfoldable pub rule_pass_count : List Rule → ℕ → ℕ
rule_pass_count rs S = pass_count 1 (λ _. pass_over S rs) (λ _. S)
