-- `policy::check` meets its contract: a refusal has the meaning of the test's. Assumes nothing.
use Rattle.std.proofs.lemmas.Result.{err_from_is_err_and}
use Rattle.encoding.proofs.ByteLaws.{slice_bytes}
use Rattle.policy.proofs.WholeLaws.{meant}
use Rattle.policy.proofs.check.Goals as goal

pub returns-in_err-examine-clause-meaning : goal.returns-in_err-examine-clause-meaning
returns-in_err-examine-clause-meaning c =
    let bytes = c.args.policy.now in
    let p = err_from_is_err_and c.from_residual.result c.from_residual.ensures.1 in
    rw (p.1, p.2) (meant bytes (slice_bytes bytes c.type_inv.policy) _ c.in_err-examine.ensures.answer)
