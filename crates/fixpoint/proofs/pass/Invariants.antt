-- `fixpoint::pass` meets its contract. The loop's invariant: what is left of the rules makes of the set what all of them make of the first
-- one. Assumes nothing.
use mathlib.Core.Path.{◌≡◌}
use Prim.Native.Nat.{◌-◌}
use Rattle.rules.specs.LevelByLevel.{pass_over}
use Rattle.arrays.specs.Arrays.{rules_in}
use Rattle.fixpoint.proofs.pass.Given as goal

abbrev pub invariant-loop-k : goal.invariant-loop-k
invariant-loop-k l = pass_over l.below.bits (rules_in l.rules.heads l.rules.positive l.rules.negated l.k (l.to - l.k)) l.reached.bits
    ≡ pass_over l.below.bits (rules_in l.rules.heads l.rules.positive l.rules.negated l.from (l.to - l.from)) l.initial.reached.bits
