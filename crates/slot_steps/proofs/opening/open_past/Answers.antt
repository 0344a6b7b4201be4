-- `slot_steps::opening::open_past` meets its contract: 7 by the session's opening, then 14. Assumes nothing.
use Rattle.std.proofs.lemmas.Result.{err_from_is_err_and}
use Rattle.slot_steps.proofs.StepLaws.{past_with_lem}
use Rattle.slot_steps.proofs.opening.open_past.Goals as goal

pub returns-in_err-open : goal.returns-in_err-open
returns-in_err-open c =
    let p = err_from_is_err_and c.from_residual.result c.from_residual.ensures.1 in
    rw (p.1, p.2) (past_with_lem c.args.request _ c.in_err-open.ensures.answer)

pub returns : goal.returns
returns c = past_with_lem c.args.request _ c.in_ok-open.ensures.answer
