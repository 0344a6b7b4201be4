use Prim.Native.Nat.{◌-◌}
use Rattle.arrays.specs.Arrays.{rules_in}
use Rattle.relevance.specs.Relevance.{Followed}
use Rattle.relevance.proofs.reach.follow_all.Given as goal

abbrev pub invariant-loop-k : goal.invariant-loop-k
invariant-loop-k l =
    Followed (rules_in l.rules.heads l.rules.positive l.rules.negated l.k (l.count - l.k)) l.initial.reached.bits l.reached.bits
