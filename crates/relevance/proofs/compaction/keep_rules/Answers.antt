use mathlib.Core.Path.{sym}
use native.Mathlib.Omega.{arith}
use Rattle.arrays.proofs.HeadLaws.{room_start}
use Rattle.relevance.proofs.CompactionLaws.{compacting_done, compacting_next}
use Rattle.relevance.proofs.PlaceLaws.{before_none}
use Rattle.relevance.proofs.compaction.keep_rules.Goals as goal

pub loop-k-init : goal.loop-k-init
loop-k-init c =
    record {
      below = omega arith;
      goes = sym (before_none c.args.set.bits c.args.rules.now.rules.now.heads);
      wide = room_start;
      begins = c.kept_starts-starts.ensures;
      put = λ i l m. absurd (omega arith);
    }

pub loop-k-preserved : goal.loop-k-preserved
loop-k-preserved c =
    compacting_next _ _ _ _ _ _ _ _ _ _ _ _ c.args.rules.now.placed c.loop-k.invariant c.loop-k-test.true c.after-place.result c.after-place.ensures

pub returns : goal.returns
returns c = compacting_done _ _ _ _ _ _ _ _ _ _ _ _ c.args.rules.now.placed c.loop-k.invariant (omega arith)
