use Prim.Native.Nat.{◌-◌}
use Rattle.atoms.specs.Sets.{size}
use Rattle.arrays.specs.Arrays.{rules_in}
use Rattle.relevance.proofs.FollowLaws.{OnTheWay}
use Rattle.relevance.proofs.reach.relevant.Given as goal

abbrev pub invariant-loop-next : goal.invariant-loop-next
invariant-loop-next l = OnTheWay (rules_in l.rules.heads l.rules.positive l.rules.negated 0 l.count) l.request l.reached.bits

abbrev pub decreases-loop-next : goal.decreases-loop-next
decreases-loop-next l = 64 - size l.reached.bits
