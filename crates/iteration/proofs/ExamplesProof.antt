-- The counts of specs/Examples, by computing. Assumes nothing.
use mathlib.Core.Path.{refl}
use Rattle.atoms.specs.Sets.{set_of}
use Rattle.rules.specs.LevelByLevel.{pass_over}
use Rattle.rules.specs.Model.{pass_by}
use Rattle.rules.specs.Stable.{reduct}
use Rattle.iteration.specs.Counting.{at_rest, count_from, pass_count, rule_pass_count}
use Rattle.iteration.specs.Examples.{Examples, count_of, count_of_four}

pub examples : Examples
unfolding count_of count_of_four rule_pass_count pass_count count_from at_rest pass_over pass_by reduct set_of
examples = record {
  no_rule = refl;
  applies = refl;
  body_missing = refl;
  head_there = refl;
  struck = refl;
  chain = refl;
  chain_backwards = refl;
  loop = refl;
  loop_entered = refl;
  one_head = refl;
  four_none = refl;
  four_one = refl;
  four_slow = refl;
  four_slowest = refl;
}
