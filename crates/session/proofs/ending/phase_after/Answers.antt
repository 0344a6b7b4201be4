-- `session::ending::phase_after` meets its contract: one case for each ending. Assumes nothing.
use Rattle.session.proofs.ending.phase_after.Goals as goal

pub returns-in-Grant : goal.returns-in-Grant
returns-in-Grant c = simp c.in-Grant.is

pub returns-in-Deny : goal.returns-in-Deny
returns-in-Deny c = simp c.in-Deny.is

pub returns-in-Ask : goal.returns-in-Ask
returns-in-Ask c = simp c.in-Ask.is
