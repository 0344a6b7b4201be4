use Rattle.atoms.proofs.SizeLaws.{size_credentials}
use native.Mathlib.Omega.{arith}
use Rattle.ranking.proofs.keys.key.Goals as goal

pub overflow_add-result : goal.overflow_add-result
overflow_add-result c = omega (arith, c.count-ones.ensures, size_credentials c.from.result (omega arith))

pub overflow_mul-result-2 : goal.overflow_mul-result-2
overflow_mul-result-2 c = omega (arith, c.count-ones.ensures, size_credentials c.from.result (omega arith))

pub overflow_add-result-2 : goal.overflow_add-result-2
overflow_add-result-2 c = omega (arith, c.count-ones.ensures, size_credentials c.from.result (omega arith))
