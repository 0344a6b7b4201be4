-- `session::Session::open` meets its contract: the request is tested. Assumes nothing.
use mathlib.Core.Path.{◌∙◌, sym}
use Rattle.session.proofs.FitLaws.{opened_meets}
use Rattle.session.proofs.ProgramLaws.{opens_fresh, opens_refused}
use Rattle.session.proofs.Session.open.Goals as goal

pub returns-then-not-is_service : goal.returns-then-not-is_service
returns-then-not-is_service c =
    let v = c.is_service in
    let the_parts = opened_meets c.args.request _
    (opens_refused c.args.request (sym v.ensures ∙ c.if-not-is_service.true)) in
    record {
      answer = the_parts.0;
      meaning = the_parts.1;
    }

pub returns : goal.returns
returns c =
    let v = c.is_service in
    let the_parts = opened_meets c.args.request _
    (opens_fresh c.args.request (sym v.ensures ∙ c.if-not-is_service.false)) in
    record {
      answer = the_parts.0;
      meaning = the_parts.1;
    }
