-- `session::Session::round` meets its contract: what it comes to meets the demands. Assumes nothing.
use native.Mathlib.Omega.{arith}
use Rattle.encoding.proofs.ByteLaws.{slice_bytes}
use Rattle.session.specs.Types.{move_of, session_of}
use Rattle.session.proofs.FitLaws.{outcome_meets, session_fits}
use Rattle.session.proofs.Session.round.Goals as goal

pub returns-in-Ok-clause-meaning : goal.returns-in-Ok-clause-meaning
returns-in-Ok-clause-meaning c =
    let a = c.args in
    let g = c.well_formed in
    let bytes = a.policy.now in
    outcome_meets bytes (slice_bytes bytes c.type_inv.policy) (session_of a.self) (session_fits a.self _ g.0) (move_of a.taken)
    (omega (arith, g.1.1.0)) _ c.in-Ok.ensures

pub returns-in-Err-clause-meaning : goal.returns-in-Err-clause-meaning
returns-in-Err-clause-meaning c =
    let a = c.args in
    let g = c.well_formed in
    let bytes = a.policy.now in
    outcome_meets bytes (slice_bytes bytes c.type_inv.policy) (session_of a.self) (session_fits a.self _ g.0) (move_of a.taken)
    (omega (arith, g.1.1.0)) _ c.in-Err.ensures
