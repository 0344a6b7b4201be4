-- `session::accepted::decided` meets its contract: by the phase after the ending. Assumes nothing.
use Rattle.session.specs.Types.{session_of, working_of}
use Rattle.session.proofs.ProgramLaws.{round_decided}
use Rattle.std.proofs.Common.{rules}
use Rattle.session.proofs.accepted.decided.Goals as goal

pub returns : goal.returns
returns c =
    let a = c.args in
    round_decided (session_of a.session) (working_of a.working) _ (search rules)
