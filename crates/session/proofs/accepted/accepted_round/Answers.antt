-- `session::accepted::accepted_round` meets its contract: by those of its calls. Assumes nothing.
use mathlib.Core.Path.{◌∙◌, ap}
use Rattle.rounds.specs.Rounds.{decided}
use Rattle.session.specs.Types.{move_of, session_of}
use Rattle.session.proofs.ProgramLaws.{passed_count, passed_service}
use Rattle.session.proofs.accepted.accepted_round.Goals as goal

pub worked-working-requires : goal.worked-working-requires
worked-working-requires c = (c.requires.0, passed_service (session_of c.args.session) (move_of c.args.taken) c.requires.1)

pub decided-requires : goal.decided-requires
decided-requires c = passed_count (session_of c.args.session) (move_of c.args.taken) c.requires.1

pub returns : goal.returns
returns c = c.decided.ensures ∙ ap (decided (session_of c.args.session)) c.worked-working.ensures
