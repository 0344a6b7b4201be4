use Rattle.log_comparison.proofs.ChunkLaws.{parted}
use Rattle.log_comparison.proofs.compare.diverge.Goals as goal

pub returns : goal.returns
returns c =
    simp (c.or.ensures, c.then_some-ends.ensures, c.min-shorter.ensures, c.first_differing.ensures, c.as_chunks.ensures.front, c.as_chunks-2.ensures.front)
    (parted c.args.first.now c.args.second.now)
