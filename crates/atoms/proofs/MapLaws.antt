-- Maps that lose nothing. Assumes nothing.
use mathlib.Core.Path.{◌∙◌, ◌≡◌, ap, sym}

-- a map with a way back is one-to-one
pub one_to_one : {A B : Type 0} (f : A → B) (g : B → A) → ((x : A) → g (f x) ≡ x) → (x y : A) → f x ≡ f y → x ≡ y
one_to_one f g back x y e = sym (back x) ∙ ap g e ∙ back y
