-- `session::sound::phase_fits` meets its contract: one case for each phase. Assumes nothing.
use Rattle.session.proofs.sound.phase_fits.Goals as goal

pub returns-in-Fresh : goal.returns-in-Fresh
returns-in-Fresh c = simp (c.in-Fresh.is, c.is_untouched.ensures)

pub returns-in-Waiting : goal.returns-in-Waiting
returns-in-Waiting c = simp (c.in-Waiting.is, c.waiting_fits.ensures)

pub returns-in-Closed : goal.returns-in-Closed
returns-in-Closed c = simp (c.in-Closed.is, c.count_fits.ensures)
