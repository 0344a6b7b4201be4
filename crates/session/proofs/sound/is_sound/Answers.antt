-- `session::sound::is_sound` meets its contract: by the two tests. Assumes nothing.
use Rattle.session.proofs.sound.is_sound.Goals as goal

pub returns-then-is_service : goal.returns-then-is_service
returns-then-is_service c = simp (← c.is_service.ensures, c.if-is_service.true, c.phase_fits.ensures)

pub returns-else-is_service : goal.returns-else-is_service
returns-else-is_service c = simp (← c.is_service.ensures, c.if-is_service.false)
