use Rattle.search.proofs.BlockLaws.{visited}
use Rattle.search.proofs.blocks.visit.Goals as goal

pub returns : goal.returns
returns c = visited _ _ _ _ _ _ _ _ _ _ _ _ _ _ _ _ _ _ c.args.tables.now.tables c.block-words.ensures c.cheapest-lane.ensures c.better.ensures
