-- `disclosure::disclosable_of` meets its contract: every place holds a head at first. Assumes nothing.
use Rattle.arrays.proofs.HeadLaws.{heads_start}
use Rattle.disclosure.proofs.disclosable_of.Goals as goal

pub list-count-requires : goal.list-count-requires
list-count-requires c = (c.requires, heads_start)
