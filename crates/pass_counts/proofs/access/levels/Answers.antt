-- `pass_counts::access::levels` is safe: each level has its places. Assumes nothing.
use native.Mathlib.Omega.{arith}
use Rattle.arrays.specs.Arrays.{level_count}
use Rattle.arrays.proofs.StartLaws.{level_places}
use Rattle.pass_counts.proofs.access.levels.Goals as goal

pub close-fixpoint-requires : goal.close-fixpoint-requires
close-fixpoint-requires g c =
    let rules = c.args.rules.now in
    level_places level_count rules.rules.now.heads rules.starts.now rules.placed c.loop-level.level (omega arith)
