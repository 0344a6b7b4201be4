-- `evaluation::levels::evaluate` meets its contract. The loop's invariant: what is left of the levels makes of the set what all of them make of the
-- credentials. Assumes nothing.
use mathlib.Core.Path.{◌≡◌}
use Prim.Native.Nat.{◌-◌}
use Rattle.rules.specs.LevelByLevel.{level_by_level}
use Rattle.arrays.specs.Arrays.{evaluated, level_count, levels_in}
use Rattle.evaluation.proofs.levels.evaluate.Given as goal

abbrev pub invariant-loop-level : goal.invariant-loop-level
invariant-loop-level l = level_by_level (levels_in l.rules.rules.now.heads l.rules.rules.now.positive l.rules.rules.now.negated l.rules.starts.now l.level (level_count - l.level)) l.set.bits
    ≡ evaluated level_count l.rules.rules.now.heads l.rules.rules.now.positive l.rules.rules.now.negated l.rules.starts.now l.initial.set.bits
