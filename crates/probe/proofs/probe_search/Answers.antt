-- `probe::probe_search` meets its contract: by the policy's test and the range of the request. Assumes nothing.
use native.Mathlib.Omega.{arith}
use Rattle.probe.proofs.ReplyLaws.{replies_above, replies_below, replies_refused, replies_tested, rest_apart}
use Rattle.probe.proofs.probe_search.Goals as goal

pub returns-in_default-clause-answer : goal.returns-in_default-clause-answer
returns-in_default-clause-answer c =
    let a = c.args in
    replies_refused a.policy.now a.request a.shown a.within a.weights.now a.limit _ c.in_default.ensures.answer

pub returns-then-request-from-clause-answer : goal.returns-then-request-from-clause-answer
returns-then-request-from-clause-answer c =
    let a = c.args in
    replies_below a.policy.now a.request a.shown a.within a.weights.now a.limit c.in-Ok.ensures.answer (omega arith)

pub returns-then-request-from-2-clause-answer : goal.returns-then-request-from-2-clause-answer
returns-then-request-from-2-clause-answer c =
    let a = c.args in
    replies_above a.policy.now a.request a.shown a.within a.weights.now a.limit c.in-Ok.ensures.answer (omega arith) (omega arith)

pub accepted-requires : goal.accepted-requires
accepted-requires c =
    let a = c.args in
    record { form = c.in-Ok.ensures.levels; atom = omega arith; apart = rest_apart a.within a.shown _ c.without-rest.ensures }

pub returns-clause-answer : goal.returns-clause-answer
returns-clause-answer c =
    let a = c.args in
    replies_tested a.policy.now a.request a.shown a.within a.weights.now a.limit c.in-Ok.ensures.answer (omega arith) (omega arith) _ _
    c.without-rest.ensures c.accepted.ensures
