use mathlib.Core.Path.{◌∙◌, refl}
use native.Mathlib.Numerals.{add-one}
use native.Mathlib.Omega.{arith}
use Rattle.search.proofs.SingleLaws.{turn_2, turn_3, turn_other}
use Rattle.search.proofs.singles.turn.Goals as goal

pub returns-in-2 : goal.returns-in-2
returns-in-2 c = (turn_2 _ _ c.in-2.is refl, omega arith)

pub returns-in-3 : goal.returns-in-3
returns-in-3 c = (turn_3 _ _ c.in-3.is refl, omega arith)

pub returns-in_default : goal.returns-in_default
returns-in_default c =
    let k = c.args.k in
    (add-one k ∙ turn_other k (λ e. omega arith) (λ e. omega arith), omega arith)
