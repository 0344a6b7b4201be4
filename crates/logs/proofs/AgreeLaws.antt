-- When two log records agree: the one place that looks into the definitions. Assumes nothing.
use mathlib.Core.Path.{◌∙◌, ◌≡◌, refl, sym}
use mathlib.Core.Logic.{◌↔◌}
use mathlib.Core.Bool.{◌&&◌, false, true, true≢false}
use lib.Dec.{eqb}
use Rattle.validation.specs.Statements.{Decides}
use Rattle.validation.proofs.DecideLaws.{decides_and, decides_eq}
use Rattle.logs.specs.Agreement.{Agree, agree}
use Rattle.logs.specs.Entries.{Entry}
use Rattle.logs.specs.Theorems as T

pub agree_means : (x y : Entry) → Agree x y ↔ ((x.answer ≡ y.answer) × (x.asked ≡ y.asked))
unfolding Agree
agree_means x y = (λ h. h, λ h. h)

pub tested : (x y : Entry) → Decides (agree x y) (Agree x y)
unfolding Agree agree
tested x y = decides_and _ _ (decides_eq x.answer y.answer) (decides_eq x.asked y.asked)

-- the test, as a program makes it
pub agree_is : (x y : Entry) → agree x y ≡ (eqb x.answer y.answer && eqb x.asked y.asked)
unfolding agree
agree_is x y = refl

pub same : (x : Entry) → Agree x x
unfolding Agree
same x = (refl, refl)

pub turned : (x y : Entry) → Agree x y → Agree y x
unfolding Agree
turned x y h = (sym h.0, sym h.1)

pub through : (x y z : Entry) → Agree x y → Agree y z → Agree x z
unfolding Agree
through x y z h i = (h.0 ∙ i.0, h.1 ∙ i.1)

pub answers : (x y : Entry) → Agree x y → (x.answer ≡ y.answer) × (x.asked ≡ y.asked)
unfolding Agree
answers x y h = h

pub agree_laws : T.AgreeLaws
agree_laws = record { tested = tested; same = same; turned = turned; through = through; answers = answers }

-- ---- the test, from these laws

pub agree_same : (x : Entry) → agree x x ≡ true
agree_same x = (tested x x).1 (same x)

pub agree_not : (x y : Entry) → agree x y ≡ false → Agree x y → ⊥
agree_not x y e h = true≢false (sym ((tested x y).1 h) ∙ e)
