-- The theorems of specs/Theorems. Assumes nothing.
use Rattle.strata.specs.Theorems.{Theorems}
use Rattle.strata.proofs.LoopLaws.{loop_none, loops_iff, no_loops_iff}
use Rattle.strata.proofs.StrataLaws.{exists, levels, models, none}

pub theorems : Theorems
theorems = record {
  exists = exists;
  none = none;
  levels = levels;
  models = models;
  loop_none = loop_none;
  loops = loops_iff;
  no_loops = no_loops_iff;
}
