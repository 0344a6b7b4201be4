-- What holds of the elements of a list and those before them. Assumes nothing.
use Rattle.std.specs.Prelude.{List, [], ◌∷◌}

-- P holds of each element and those before it, the latest first
unfoldable pub Each {ℓ} : {A : Type ℓ} → (List A → A → Type 0) → List A → List A → Type 0
Each P past [] = Unit {0}
Each P past (t ∷ ts) = P past t × Each P (t ∷ past) ts

-- the past after further elements, the latest first
abbrev pub passed : {A : Type 0} → List A → List A → List A
passed past [] = past
passed past (t ∷ ts) = passed (t ∷ past) ts

-- P holds of each of the past, the latest first, and those before it
unfoldable pub Past {ℓ} : {A : Type ℓ} → (List A → A → Type 0) → List A → Type 0
Past P [] = Unit {0}
Past P (t ∷ past) = Past P past × P past t
