-- `slot_steps::opening::slot_open` meets its contract: 7 by the session's opening, then 15 and 16. Assumes nothing.
use Rattle.std.proofs.Common.{◌∙◌, sym}
use Rattle.std.proofs.lemmas.Result.{err_from_is_err_and}
use Rattle.session.specs.Types.{session_of}
use Rattle.slot_steps.specs.Types.{slot_of}
use Rattle.slot_steps.proofs.StepLaws.{opens_with_lem, takes, takes_15, takes_16}
use Rattle.slot_steps.proofs.opening.slot_open.Goals as goal

pub returns-in_err-session : goal.returns-in_err-session
returns-in_err-session c =
    let a = c.args in
    let p = err_from_is_err_and c.from_residual.result c.from_residual.ensures.1 in
    rw (p.1, p.2) (opens_with_lem (slot_of a.slot) a.count a.owner a.request _ c.in_err-session.ensures.answer)

pub returns-then-not-is_free : goal.returns-then-not-is_free
returns-then-not-is_free c =
    let a = c.args in
    takes_15 (slot_of a.slot) a.count a.owner (session_of c.in_ok-session.session) (sym c.is_free.ensures ∙ c.if-not-is_free.true)
    ∙ opens_with_lem (slot_of a.slot) a.count a.owner a.request _ c.in_ok-session.ensures.answer

pub returns-then-count-ge-MOST_UNFINISHED : goal.returns-then-count-ge-MOST_UNFINISHED
returns-then-count-ge-MOST_UNFINISHED c =
    let a = c.args in
    takes_16 (slot_of a.slot) a.count a.owner (session_of c.in_ok-session.session) (sym c.is_free.ensures ∙ c.if-not-is_free.false)
    c.if-count-ge-MOST_UNFINISHED.true
    ∙ opens_with_lem (slot_of a.slot) a.count a.owner a.request _ c.in_ok-session.ensures.answer

pub returns : goal.returns
returns c =
    let a = c.args in
    takes (slot_of a.slot) a.count a.owner (session_of c.in_ok-session.session) (sym c.is_free.ensures ∙ c.if-not-is_free.false)
    c.if-count-ge-MOST_UNFINISHED.false
    ∙ opens_with_lem (slot_of a.slot) a.count a.owner a.request _ c.in_ok-session.ensures.answer
