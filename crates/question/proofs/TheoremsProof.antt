-- The theorems of specs/Theorems. Assumes nothing.
use mathlib.Core.Path.{◌≡◌, refl}
use mathlib.Core.Option.{Option, none, some}
use Rattle.std.specs.Prelude.{None, Option as Answer, Some}
use Rattle.atoms.proofs.MapLaws.{one_to_one}
use Rattle.preference.specs.Question as Q
use Rattle.question.specs.Theorems.{Theorems}
use Rattle.question.specs.Types.{found_of}
use Rattle.question.specs.declared.Question.{Question}

found_back : Option Q.Question → Answer Question
found_back none = None
found_back (some q) = Some (record { asks = q.asks })

found_back_lem : (x : Answer Question) → found_back (found_of x) ≡ x
unfolding found_back
found_back_lem None = refl
found_back_lem (Some q) = refl

pub theorems : Theorems
theorems = record { asked = λ q. refl; one_to_one = one_to_one found_of found_back found_back_lem }
