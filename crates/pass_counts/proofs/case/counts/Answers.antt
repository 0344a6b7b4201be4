-- `pass_counts::case::counts` meets its contract: every place holds a head at first. Assumes nothing.
use Rattle.arrays.proofs.HeadLaws.{heads_start}
use Rattle.pass_counts.proofs.case.counts.Goals as goal

pub access_rules-starts-requires : goal.access_rules-starts-requires
access_rules-starts-requires g c = (c.requires.form, (c.requires.levels, heads_start))
