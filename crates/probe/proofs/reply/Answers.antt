-- `probe::reply` meets its contract: one case for each answer, each small enough for its number. Assumes nothing.
use mathlib.Core.Path.{ap}
use native.Mathlib.Omega.{arith}
use Rattle.preference.specs.Order.{trials}
use Rattle.search.specs.Types.{result_of}
use Rattle.probe.proofs.reply.Goals as goal

pub overflow_mul-result : goal.overflow_mul-result
overflow_mul-result c = record { fits = omega (arith, c.requires.1, ap (λ a. trials (result_of a)) c.in-Found.is) }

pub overflow_add-result : goal.overflow_add-result
overflow_add-result c = record { fits = omega (arith, c.requires.1, ap (λ a. trials (result_of a)) c.in-Found.is) }

pub overflow_mul-result-in-Nothing : goal.overflow_mul-result-in-Nothing
overflow_mul-result-in-Nothing c = record { fits = omega (arith, c.requires.1, ap (λ a. trials (result_of a)) c.in-Nothing.is) }

pub overflow_add-result-in-Nothing : goal.overflow_add-result-in-Nothing
overflow_add-result-in-Nothing c = record { fits = omega (arith, c.requires.1, ap (λ a. trials (result_of a)) c.in-Nothing.is) }

pub returns-in-Found : goal.returns-in-Found
returns-in-Found c = simp (c.from.ensures, c.switched-asked.ensures, c.in-Found.is)

pub returns-in-Nothing : goal.returns-in-Nothing
returns-in-Nothing c = simp c.in-Nothing.is
