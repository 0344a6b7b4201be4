-- The theorems of specs/Theorems. Assumes nothing.
use Rattle.rules.specs.Model.{applies}
use Rattle.rules.specs.Theorems.{Theorems}
use Rattle.rules.proofs.BodyLaws.{empty_body, stable_applied, two_sided}
use Rattle.rules.proofs.ClosureLaws.{closure_by-fixed, closure_by-pass, pass_grows}
use Rattle.rules.proofs.LayoutLaws.{one_of_level}
use Rattle.rules.proofs.LeastLaws.{closure_least, idle_closed}
use Rattle.rules.proofs.LevelByLevelLaws.{level_by_level_lem}
use Rattle.rules.proofs.LevelLaws.{one_stable_any}
use Rattle.rules.proofs.MeaningLaws.{closed_means, same_stable, stable_means}
use Rattle.rules.proofs.ReductLaws.{reduct_every}
use Rattle.rules.proofs.UnlockLaws.{equivalent, grants_means, unlocks_iff}
use Rattle.rules.proofs.WeightLaws.{named_weight, unnamed_weight}

pub theorems : Theorems
theorems = record {
  reducts = reduct_every;
  closed_means = closed_means;
  stable_means = stable_means;
  applied = stable_applied;
  two_sided = two_sided;
  never_applies = equivalent;
  empty_body = empty_body;
  closures = closure_least;
  models = one_stable_any;
  grants_means = grants_means;
  unlocking = unlocks_iff;
  orders = same_stable;
  of_level_lem = one_of_level;
  levels = level_by_level_lem;
  inflationary = pass_grows applies;
  passes = closure_by-pass applies;
  idle = closure_by-fixed applies;
  idle_closed = idle_closed;
  unnamed_weight = unnamed_weight;
  named_weight = named_weight;
}
