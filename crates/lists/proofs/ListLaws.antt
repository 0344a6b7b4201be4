-- What holds of every element of a list; what is made of each. Assumes nothing.
use mathlib.Core.Path.{◌≡◌, ap, refl, subst, sym}
use mathlib.Core.Logic.{inl, inr}
use mathlib.Core.List.{List, [], ◌++◌, ◌∷◌, map}
use Rattle.lists.specs.Lists.{Every, OneOf}

pub every_imp {ℓ} : {A : Type ℓ} (P Q : A → Type 0) → ((x : A) → P x → Q x) → (xs : List A) → Every P xs → Every Q xs
every_imp P Q h [] p = tt
every_imp P Q h (x ∷ xs) p = (h x p.0, every_imp P Q h xs p.1)

pub every_imp₂ {ℓ} : {A : Type ℓ} (P Q R : A → Type 0) → ((x : A) → P x → Q x → R x) → (xs : List A) → Every P xs → Every Q xs → Every R xs
every_imp₂ P Q R h [] p q = tt
every_imp₂ P Q R h (x ∷ xs) p q = (h x p.0 q.0, every_imp₂ P Q R h xs p.1 q.1)

pub every_append {ℓ} : {A : Type ℓ} (P : A → Type 0) (xs ys : List A) → Every P xs → Every P ys → Every P (xs ++ ys)
every_append P [] ys p q = q
every_append P (x ∷ xs) ys p q = (p.0, every_append P xs ys p.1 q)

pub every_left {ℓ} : {A : Type ℓ} (P : A → Type 0) (xs ys : List A) → Every P (xs ++ ys) → Every P xs
every_left P [] ys p = tt
every_left P (x ∷ xs) ys p = (p.0, every_left P xs ys p.1)

pub every_right {ℓ} : {A : Type ℓ} (P : A → Type 0) (xs ys : List A) → Every P (xs ++ ys) → Every P ys
every_right P [] ys p = p
every_right P (x ∷ xs) ys p = every_right P xs ys p.1

pub every_map : {A B : Type 0} (P : A → Type 0) (Q : B → Type 0) (f : A → B) → ((a : A) → P a → Q (f a)) → (xs : List A) → Every P xs
    → Every Q (map f xs)
every_map P Q f h [] p = tt
every_map P Q f h (x ∷ xs) p = (h x p.0, every_map P Q f h xs p.1)

pub every_unmap : {A B : Type 0} (P : B → Type 0) (f : A → B) (xs : List A) → Every P (map f xs) → Every (λ x. P (f x)) xs
every_unmap P f [] p = tt
every_unmap P f (x ∷ xs) p = (p.0, every_unmap P f xs p.1)

pub map_append : {A B : Type 0} (f : A → B) (xs ys : List A) → map f (xs ++ ys) ≡ map f xs ++ map f ys
map_append f [] ys = refl
map_append f (x ∷ xs) ys = ap (◌∷◌ (f x)) (map_append f xs ys)

-- ---- what holds of each element holds of every one of them

pub every_one_of : {A : Type 0} (P : A → Type 0) (xs : List A) → Every P xs → (x : A) → OneOf x xs → P x
every_one_of {A = A} P [] h x x4 = elim x4 [ ]
every_one_of P (y ∷ ys) h x (inl e) = subst P (sym e) h.0
every_one_of P (y ∷ ys) h x (inr i) = every_one_of P ys h.1 x i

pub one_of_every : {A : Type 0} (P : A → Type 0) (xs : List A) → ((x : A) → OneOf x xs → P x) → Every P xs
one_of_every P [] h = tt
one_of_every P (y ∷ ys) h = (h y (inl refl), one_of_every P ys (λ x i. h x (inr i)))
