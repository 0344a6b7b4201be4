-- `fixpoint::close` meets its contract, by the law of all loops that end with their first idle pass. Assumes nothing.
use mathlib.Core.List.{List}
use Prim.Native.Nat.{◌-◌, ℕ}
use Rattle.rules.specs.LevelByLevel.{pass_over}
use Rattle.rules.specs.Rules.{Rule}
use Rattle.iteration.proofs.LoopLaws.{Running}
use Rattle.arrays.specs.Arrays.{rules_in}
use Rattle.fixpoint.proofs.close.Given as goal

-- n passes over rules rs have made R of S
abbrev pub Closing : List Rule → ℕ → ℕ → ℕ → Type 0
Closing rs S R n = Running 1 (λ _. pass_over S rs) (λ _. S) (λ _. R) n

abbrev pub invariant-loop-set : goal.invariant-loop-set
invariant-loop-set l = Closing (rules_in l.rules.heads l.rules.positive l.rules.negated l.from (l.to - l.from)) l.set.bits l.reached.bits l.passes

abbrev pub decreases-loop-set : goal.decreases-loop-set
decreases-loop-set l = 64 - l.passes
