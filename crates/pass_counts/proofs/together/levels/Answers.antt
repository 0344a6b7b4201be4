-- `pass_counts::together::levels` is safe: each level has its places. Assumes nothing.
use native.Mathlib.Omega.{arith}
use Rattle.arrays.specs.Arrays.{level_count}
use Rattle.arrays.proofs.StartLaws.{level_places}
use Rattle.lane_fixpoint.proofs.StepLaws.{covers_all}
use Rattle.pass_counts.proofs.together.levels.Goals as goal

pub close-fixpoint-requires-clause-placed : goal.close-fixpoint-requires-clause-placed
close-fixpoint-requires-clause-placed g c =
    let rules = c.args.rules.now in
    level_places level_count rules.rules.now.heads rules.starts.now rules.placed c.loop-level.level (omega arith)

pub close-fixpoint-requires-clause-covered : goal.close-fixpoint-requires-clause-covered
close-fixpoint-requires-clause-covered g c = covers_all _
