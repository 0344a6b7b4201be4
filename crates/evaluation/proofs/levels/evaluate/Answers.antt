-- `evaluation::levels::evaluate` meets its contract: its loop's invariant, and that levels without rules change nothing. Assumes nothing.
use mathlib.Core.Path.{◌≡◌, refl}
use lib.ListN.{get_or}
use native.Mathlib.Omega.{arith}
use Rattle.arrays.specs.Arrays.{level_count}
use Rattle.arrays.proofs.ArrayLaws.{levels_next_at}
use Rattle.arrays.proofs.EndLaws.{levels_end_at}
use Rattle.arrays.proofs.StartLaws.{level_places}
use Rattle.evaluation.proofs.levels.evaluate.Goals as goal

pub close-set-requires : goal.close-set-requires
close-set-requires c =
    let r = c.args.rules.now in
    level_places level_count r.rules.now.heads r.starts.now r.placed c.loop-level.level (omega arith)

pub loop-level-preserved : goal.loop-level-preserved
loop-level-preserved c =
    let r = c.args.rules.now in
    let l = c.loop-level in
    levels_next_at level_count r.rules.now.heads r.rules.now.positive r.rules.now.negated r.starts.now l.level (omega arith) l.set.bits _ _ c.close-set.ensures l.invariant

pub returns-then-from-end : goal.returns-then-from-end
returns-then-from-end c =
    let r = c.args.rules.now in
    let l = c.loop-level in
    levels_end_at level_count r.starts.now r.placed.ordered r.rules.now.heads r.rules.now.positive r.rules.now.negated l.level _ (record { low = omega arith; here = refl })
    (omega arith) l.set.bits _ l.invariant

pub returns-after-loop-level : goal.returns-after-loop-level
returns-after-loop-level c =
    let r = c.args.rules.now in
    let l = c.loop-level in
    let last : l.level ≡ level_count = omega arith in
    let same : get_or r.starts.now l.level 0 ≡ get_or r.starts.now level_count 0 = cc in
    levels_end_at level_count r.starts.now r.placed.ordered r.rules.now.heads r.rules.now.positive r.rules.now.negated l.level _ (record { low = omega arith; here = refl })
    (omega arith) l.set.bits _ l.invariant
