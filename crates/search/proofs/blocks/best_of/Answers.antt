use Rattle.search.proofs.BlockLaws.{best_more}
use native.Mathlib.Omega.{arith}
use Rattle.search.proofs.blocks.best_of.Goals as goal

pub loop-high-preserved : goal.loop-high-preserved
loop-high-preserved c =
    let k = c.is_last.ensures.no c.if-is_last.false in (
      omega (arith, c.requires),
      best_more _ _ _ _ _ c.args.tables.now.tables _ _ _ c.loop-high.invariant.1 c.next_key-key.ensures _ (omega (arith, c.requires)) c.visit-best.ensures,
    )
