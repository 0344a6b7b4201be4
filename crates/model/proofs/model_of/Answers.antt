-- `model::model_of` meets its contract: the rules laid out by level have the model. Assumes nothing.
use Rattle.encoding.proofs.ByteLaws.{slice_bytes}
use Rattle.levels.specs.Levels.{level_at}
use Rattle.arrays.specs.Arrays.{level_count}
use Rattle.arrays.proofs.HeadLaws.{heads_start}
use Rattle.arrays.proofs.ModelLaws.{laid_model_at}
use Rattle.layout.proofs.AccessLaws.{access_levels_lem}
use Rattle.model.proofs.model_of.Goals as goal

pub access_rules-starts-requires : goal.access_rules-starts-requires
access_rules-starts-requires c = (c.requires.form, (c.requires.levels, heads_start))

pub returns : goal.returns
returns c =
    let bytes = c.args.policy.now in
    let of = c.args.levels.now in
    laid_model_at (level_at of) level_count _ (access_levels_lem bytes (slice_bytes bytes c.type_inv.policy) c.requires.form of c.requires.levels) _ _ _ _
    c.access_rules-starts.ensures _ _ _ c.credentials.ensures c.evaluate.ensures
