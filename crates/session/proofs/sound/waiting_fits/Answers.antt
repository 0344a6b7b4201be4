-- `session::sound::waiting_fits` meets its contract: by the two tests. Assumes nothing.
use Rattle.session.proofs.sound.waiting_fits.Goals as goal

pub returns-then-question_fits : goal.returns-then-question_fits
returns-then-question_fits c = simp (← c.question_fits.ensures, c.if-question_fits.true, c.count_fits.ensures)

pub returns-else-question_fits : goal.returns-else-question_fits
returns-else-question_fits c = simp (← c.question_fits.ensures, c.if-question_fits.false)
