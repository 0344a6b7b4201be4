-- `session::next` meets its contract: under an accepted policy by the two answers of the session's tests. Assumes nothing.
use Rattle.std.proofs.Common.{◌∙◌}
use Rattle.std.proofs.lemmas.Result.{err_from_is_err_and}
use Rattle.session.specs.Types.{move_of, session_of}
use Rattle.session.proofs.ProgramLaws.{round_tested}
use Rattle.session.proofs.next.Goals as goal

pub returns-in_err-test : goal.returns-in_err-test
returns-in_err-test c =
    let a = c.args in
    let p = err_from_is_err_and c.from_residual.result c.from_residual.ensures.1 in
    rw (p.1, p.2) (round_tested a.policy.now (session_of a.session) (move_of a.taken) _ c.in-Ok.ensures.answer c.in_err-test.ensures)

pub returns : goal.returns
returns c =
    let a = c.args in
    c.accepted_round.ensures
    ∙ round_tested a.policy.now (session_of a.session) (move_of a.taken) _ c.in-Ok.ensures.answer c.in_ok-test.ensures
