-- What a `for` over the members of a set has come to. Assumes nothing.
use mathlib.Core.Path.{◌∙◌, ◌≡◌, ap, subst, sym}
use mathlib.Core.Logic.{◌↔◌, ◌⊎◌, inl, inr}
use mathlib.Core.List.{List, [], ◌++◌, ◌∷◌}
use Prim.Native.Nat.{◌<◌, ◌^◌, ℕ}
use Rattle.std.specs.Prelude.{None, Option}
use Rattle.std.specs.Iterator.{Yields, YieldsFirst}
use Rattle.std.proofs.lemmas.Iterator.{YieldsList}
use Rattle.std.proofs.lemmas.Iterator.Consumers.{YieldsList-end, YieldsList-from_first}
use Rattle.std.proofs.lemmas.List.{map-id}
use Rattle.lists.specs.Lists.{OneOf}
use Rattle.atoms.specs.Sets.{Member, atoms_of}
use Rattle.atoms.specs.declared.Members.{Members}
use Rattle.atoms.proofs.ListedLaws.{listed_iff}

-- ---- one atom more

pub one_of_push : (ks : List ℕ) (x k : ℕ) → OneOf k (ks ++ (x ∷ [])) ↔ (OneOf k ks ⊎ (k ≡ x))
one_of_push [] x k = (forth, back)
  where
    forth : (k ≡ x) ⊎ ⊥ → ⊥ ⊎ (k ≡ x)
    forth (inl e) = inr e
    forth (inr a) = absurd a

    back : ⊥ ⊎ (k ≡ x) → (k ≡ x) ⊎ ⊥
    back (inl a) = absurd a
    back (inr e) = inl e
one_of_push (j ∷ ks) x k = let ih = one_of_push ks x k in (forth ih.0, back ih.1)
  where
    forth : (OneOf k (ks ++ (x ∷ [])) → OneOf k ks ⊎ (k ≡ x)) → (k ≡ j) ⊎ OneOf k (ks ++ (x ∷ [])) → ((k ≡ j) ⊎ OneOf k ks) ⊎ (k ≡ x)
    forth f (inl e) = inl (inl e)
    forth f (inr i) = go (f i)
      where
        go : OneOf k ks ⊎ (k ≡ x) → ((k ≡ j) ⊎ OneOf k ks) ⊎ (k ≡ x)
        go (inl i) = inl (inr i)
        go (inr e) = inr e

    back : (OneOf k ks ⊎ (k ≡ x) → OneOf k (ks ++ (x ∷ []))) → ((k ≡ j) ⊎ OneOf k ks) ⊎ (k ≡ x) → (k ≡ j) ⊎ OneOf k (ks ++ (x ∷ []))
    back f (inl (inl e)) = inl e
    back f (inl (inr i)) = inr (f (inl i))
    back f (inr e) = inr (f (inr e))

-- ---- a `for` over the atoms of s has come to ks

abbrev Gives : Members → Option ℕ → Members → Type 0
Gives = YieldsFirst (λ (m : Members). atoms_of m.left)

module _ (s : ℕ) (m : Members) (e : m.left ≡ s) (ks : List ℕ) (t : Members) (y : Yields Gives m ks t) where
  road : YieldsList Gives (λ (k : ℕ). k) m (atoms_of s)
  road = YieldsList-from_first (λ (k : ℕ). k) (λ (m : Members). atoms_of m.left) (atoms_of s) (ap atoms_of e)

  -- at the end it has come to each, and to no other
  pub all_members : s < 2 ^ 64 → (r : Option ℕ) (u : Members) → r ≡ None → Gives t r u → (k : ℕ) → OneOf k ks ↔ Member k s
  all_members l r u q f k = subst (λ (xs : List ℕ). OneOf k xs ↔ Member k s) (sym (sym (map-id ks) ∙ (YieldsList-end road ks t y r u q f).0)) (listed_iff s k l)
