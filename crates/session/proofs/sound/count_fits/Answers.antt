-- `session::sound::count_fits` meets its contract: by the count of ones and the two comparisons. Assumes nothing.
use native.Mathlib.Omega.{arith}
use Rattle.atoms.proofs.SizeLaws.{size_most}
use Rattle.session.proofs.sound.count_fits.Goals as goal

pub overflow_add-most : goal.overflow_add-most
overflow_add-most c = record { fits = omega (arith, c.count-most.ensures, size_most c.credentials-met.result.bits) }
