use mathlib.Core.Path.{◌≡◌, ap}
use Prim.Native.Nat.{ℕ}
use lib.ListN.{get_or}
use native.Mathlib.Omega.{arith}
use Rattle.arrays.specs.Arrays.{level_count}
use Rattle.arrays.proofs.StartLaws.{level_places}
use Rattle.lanes.proofs.EvaluateLaws.{evaluating_done, evaluating_next}
use Rattle.lanes.proofs.levels.evaluate.Goals as goal

pub returns-then-from-end : goal.returns-then-from-end
returns-then-from-end c =
    let l = c.loop-level in
    evaluating_done _ _ _ _ _ c.args.rules.now.placed.ordered _ _ _ l.level (omega arith) (omega arith) l.invariant

pub close-fixpoint-requires-clause-placed : goal.close-fixpoint-requires-clause-placed
close-fixpoint-requires-clause-placed c =
    let rules = c.args.rules.now in
    level_places level_count rules.rules.now.heads rules.starts.now rules.placed c.loop-level.level (omega arith)

pub loop-level-preserved : goal.loop-level-preserved
loop-level-preserved c =
    let l = c.loop-level in
    evaluating_next _ _ _ _ _ _ _ _ l.level _ _ (omega arith) l.invariant c.close-fixpoint.ensures.level

pub returns : goal.returns
returns c =
    let l = c.loop-level in
    let rules = c.args.rules.now in
    let last : l.level ≡ level_count = omega arith in
    evaluating_done _ _ _ _ _ rules.placed.ordered _ _ _ l.level (omega arith) (omega (arith, ap (λ (x : ℕ). get_or rules.starts.now x 0) last)) l.invariant
