use Rattle.ranking.specs.Next.{NextKey}
use Rattle.ranking.proofs.next.next_key.Given as goal

abbrev pub invariant-loop-key : goal.invariant-loop-key
invariant-loop-key l = NextKey l.keys l.key-index l.from l.least
