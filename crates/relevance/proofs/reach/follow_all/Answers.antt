use Prim.Native.Nat.{◌-◌}
use native.Mathlib.Omega.{arith}
use Rattle.relevance.proofs.FollowLaws.{pass_down, pass_start}
use Rattle.relevance.proofs.reach.follow_all.Goals as goal

pub loop-k-init : goal.loop-k-init
loop-k-init c =
    let r = c.args.rules.now in
    pass_start r.heads r.positive r.negated c.args.count c.args.set.bits

pub loop-k-preserved : goal.loop-k-preserved
loop-k-preserved c =
    let r = c.args.rules.now in
    let l = c.loop-k in
    pass_down r.heads r.positive r.negated c.args.count l.k (l.k - 1) (omega arith) (omega arith)
    c.args.set.bits l.reached.bits c.follow-reached.result.bits l.invariant c.follow-reached.ensures
