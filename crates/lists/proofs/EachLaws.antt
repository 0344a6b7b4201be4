-- Elements of a list with those before them. Assumes nothing.
use mathlib.Core.Path.{◌≡◌, ap, refl, subst}
use mathlib.Core.Logic.{◌↔◌}
use mathlib.Core.List.{List, [], ◌++◌, ◌∷◌}
use Prim.Native.Nat.{◌+◌, ◌≤◌, ℕ}
use lib.ListN.{length}
use native.Mathlib.Omega.{arith}
use Rattle.lists.specs.Each.{Each, Past, passed}

module _ {A : Type 0} where
  pub each_imp : (P Q : List A → A → Type 0) → ((past : List A) (t : A) → P past t → Q past t) → (past ts : List A) → Each P past ts → Each Q past ts
  unfolding Each
  each_imp P Q h past [] e = tt
  each_imp P Q h past (t ∷ ts) e = (h past t e.0, each_imp P Q h (t ∷ past) ts e.1)

  pub each_both : (P Q : List A → A → Type 0) (past ts : List A) → Each P past ts → Each Q past ts → Each (λ past t. P past t × Q past t) past ts
  unfolding Each
  each_both P Q past [] e f = tt
  each_both P Q past (t ∷ ts) e f = ((e.0, f.0), each_both P Q (t ∷ past) ts e.1 f.1)

  pub each_past : (R : List A → A → Type 0) (past ts : List A) → Past R past → Each R past ts → Each (λ past t. Past R (t ∷ past)) past ts
  unfolding Each Past
  each_past R past [] h e = tt
  each_past R past (t ∷ ts) h e = ((h, e.0), each_past R (t ∷ past) ts (h, e.0) e.1)

  pub each_length : (k : ℕ) (past ts : List A) → length past ≤ k → Each (λ past t. length (t ∷ past) ≤ k) past ts → length past + length ts ≤ k
  unfolding Each
  each_length k past [] h e = omega arith
  each_length k past (t ∷ ts) h e = omega (arith, each_length k (t ∷ past) ts e.0 e.1)

  nothing_there : (ys zs : List A) (x : A) → [] ≡ ys ++ (x ∷ zs) → ⊥
  nothing_there [] zs x e = let z : ◌≡◌ {A = ℕ} 0 1 = cc in omega arith
  nothing_there (y ∷ ys) zs x e = let z : ◌≡◌ {A = ℕ} 0 1 = cc in omega arith

  each_there : (P : List A → A → Type 0) (past ts : List A) → Each P past ts → (ys : List A) (x : A) (zs : List A) → ts ≡ ys ++ (x ∷ zs)
      → P (passed past ys) x
  unfolding Each
  each_there P past [] e ys x zs i = absurd (nothing_there ys zs x i)
  each_there P past (t ∷ ts) e [] x zs i = let j : t ≡ x = cc in subst (P past) j e.0
  each_there P past (t ∷ ts) e (y ∷ ys) x zs i =
      let j : t ≡ y = cc in
      let k : ts ≡ ys ++ (x ∷ zs) = cc in
      subst (λ (z : A). P (passed (z ∷ past) ys) x) j (each_there P (t ∷ past) ts e.1 ys x zs k)

  there_each : (P : List A → A → Type 0) (past ts : List A) → ((ys : List A) (x : A) (zs : List A) → ts ≡ ys ++ (x ∷ zs) → P (passed past ys) x)
      → Each P past ts
  unfolding Each
  there_each P past [] f = tt
  there_each P past (t ∷ ts) f = (f [] t ts refl, there_each P (t ∷ past) ts (λ ys x zs i. f (t ∷ ys) x zs (ap (◌∷◌ t) i)))

  -- at each place where the list is cut
  pub each_means : (P : List A → A → Type 0) (ts : List A)
      → Each P [] ts ↔ ((ys : List A) (x : A) (zs : List A) → ts ≡ ys ++ (x ∷ zs) → P (passed [] ys) x)
  each_means P ts = (each_there P [] ts, there_each P [] ts)
