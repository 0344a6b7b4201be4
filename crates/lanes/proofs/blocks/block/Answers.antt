use Rattle.lanes.proofs.BlockLaws.{unlocking}
use Rattle.lanes.proofs.FillLaws.{covers_base, zeros}
use Rattle.lanes.proofs.blocks.block.Goals as goal

pub fill-requires : goal.fill-requires
fill-requires c = zeros 768

pub switch-possible-requires : goal.switch-possible-requires
switch-possible-requires c = covers_base _ _ c.fill.ensures

pub returns : goal.returns
returns c =
    unlocking _ _ _ _ _ _ _ _ _ _ _ _ _ _ _ _ _ c.args.search.now.searchable.atom c.fill.ensures c.switch-possible.ensures.0 c.evaluate.ensures
    c.load-wanted.ensures c.load-breached.ensures c.complement.ensures c.intersection-granted.ensures
