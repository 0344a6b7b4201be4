use native.Mathlib.Omega.{arith}
use Rattle.log_comparison.proofs.CompareLaws.{first_refused, meant, not_refused, second_refused}
use Rattle.log_comparison.proofs.compare.compare.Goals as goal

pub returns-in_err-test-clause-meaning : goal.returns-in_err-test-clause-meaning
returns-in_err-test-clause-meaning c = meant c.args.first.now c.args.second.now _ (grind (arith, first_refused))

pub returns-in_err-test-2-clause-meaning : goal.returns-in_err-test-2-clause-meaning
returns-in_err-test-2-clause-meaning c = meant c.args.first.now c.args.second.now _ (grind (arith, second_refused))

pub returns-clause-meaning : goal.returns-clause-meaning
returns-clause-meaning c = meant c.args.first.now c.args.second.now _ (grind (arith, not_refused))
