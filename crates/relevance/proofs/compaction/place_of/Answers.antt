use native.Mathlib.Omega.{arith}
use Rattle.relevance.proofs.PlaceLaws.{before_most, before_step}
use Rattle.relevance.proofs.compaction.place_of.Goals as goal

pub after-next-requires : goal.after-next-requires
after-next-requires c =
    let l = c.loop-k in
    (omega (arith, before_most c.args.set.bits c.args.heads.now l.k), c.requires.0.singles l.k (omega arith))

pub loop-k-preserved : goal.loop-k-preserved
loop-k-preserved c =
    let a = c.args in
    let l = c.loop-k in
    before_step a.set.bits a.heads.now l.k l.next _ l.invariant c.after-next.ensures
