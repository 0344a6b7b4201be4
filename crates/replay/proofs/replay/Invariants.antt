use Rattle.replay.specs.Types.{replayed_of}
use Rattle.replay.proofs.ReplayLaws.{Reached}
use Rattle.replay.proofs.replay.Given as goal

abbrev pub invariant-loop-shows : goal.invariant-loop-shows
invariant-loop-shows l = Reached l.policy l.request l.shown l.shows-index (replayed_of l.state)
