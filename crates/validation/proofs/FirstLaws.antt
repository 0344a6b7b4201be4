-- The first test of a list that fails is the first statement that does not hold; lists put together, and what stands beside them changed. Assumes
-- nothing.
use mathlib.Core.Path.{◌∙◌, ◌≡◌, ap, refl, subst, sym}
use mathlib.Core.Logic.{◌↔◌, ◌⊎◌, inl, inr}
use mathlib.Core.Bool.{Bool, cond, false, true, true≢false}
use mathlib.Core.List.{List, [], ◌++◌, ◌∷◌}
use mathlib.Core.Option.{map, none-ne-some, some-injective, some-ne-none, none, or_else, some}
use Rattle.validation.specs.Statements.{AllHold, DecideAll, Decides, FirstBroken}
use Rattle.validation.specs.Tests.{first_failed, relabelled}
use Rattle.validation.specs.Theorems.{BrokenThere}

-- ---- the one law

module _ {A : Type 0} where
  pub first_none : (bs : List (Bool × A)) (ks : List (Type 0 × A)) → DecideAll bs ks → (first_failed bs ≡ none) ↔ AllHold ks
  unfolding first_failed
  first_none [] [] d = (λ e. tt, λ h. refl)
  first_none [] (k ∷ ks) d = absurd d
  first_none (b ∷ bs) [] d = absurd d
  first_none (b ∷ bs) (k ∷ ks) d = go b.0 d.0 (first_none bs ks d.2)
    where
      go : (x : Bool) → Decides x k.0 → (first_failed bs ≡ none) ↔ AllHold ks → (cond x (first_failed bs) (some b.1) ≡ none) ↔ (k.0 × AllHold ks)
      go true i ih = (λ e. (i.0 refl, ih.0 e), λ h. ih.1 h.1)
      go false i ih = (λ e. absurd (some-ne-none b.1 e), λ h. absurd (true≢false (sym (i.1 h.0))))

  pub first_some : (bs : List (Bool × A)) (ks : List (Type 0 × A)) → DecideAll bs ks → (a : A) → (first_failed bs ≡ some a) ↔ FirstBroken ks a
  unfolding first_failed
  first_some [] [] d a = (λ e. absurd (none-ne-some a e), λ h. absurd h)
  first_some [] (k ∷ ks) d a = absurd d
  first_some (b ∷ bs) [] d a = absurd d
  first_some (b ∷ bs) (k ∷ ks) d a = go b.0 d.0 (first_some bs ks d.2 a)
    where
      go : (x : Bool) → Decides x k.0 → (first_failed bs ≡ some a) ↔ FirstBroken ks a
          → (cond x (first_failed bs) (some b.1) ≡ some a) ↔ (((k.0 → ⊥) × (a ≡ k.1)) ⊎ (k.0 × FirstBroken ks a))
      go false i ih = (λ e. inl (λ h. true≢false (sym (i.1 h)), sym (some-injective b.1 a e) ∙ d.1), back)
        where
          back : ((k.0 → ⊥) × (a ≡ k.1)) ⊎ (k.0 × FirstBroken ks a) → some b.1 ≡ some a
          back (inl (n, e)) = ap some (d.1 ∙ sym e)
          back (inr (h, f)) = absurd (true≢false (sym (i.1 h)))
      go true i ih = (λ e. inr (i.0 refl, ih.0 e), back)
        where
          back : ((k.0 → ⊥) × (a ≡ k.1)) ⊎ (k.0 × FirstBroken ks a) → first_failed bs ≡ some a
          back (inl (n, e)) = absurd (n (i.0 refl))
          back (inr (h, f)) = ih.1 f

-- ---- what it is to be the first

module _ {A : Type 0} where
  pub broken_there : (ks : List (Type 0 × A)) (a : A) → FirstBroken ks a → BrokenThere ks a
  broken_there [] a x = absurd x
  broken_there (k ∷ ks) a (inl (n, e)) =
      record { before = []; statement = k.0; after = ks; there = ap (λ (x : A). (k.0, x) ∷ ks) (sym e); hold = tt; broken = n }
  broken_there (k ∷ ks) a (inr (h, x)) = later (broken_there ks a x)
    where
      later : BrokenThere ks a → BrokenThere (k ∷ ks) a
      later t = record { before = k ∷ t.before; statement = t.statement; after = t.after; there = ap (◌∷◌ k) t.there; hold = (h, t.hold); broken = t.broken }

  there_broken : (before : List (Type 0 × A)) (K : Type 0) (a : A) (after : List (Type 0 × A)) → AllHold before → (K → ⊥)
      → FirstBroken (before ++ ((K, a) ∷ after)) a
  there_broken [] K a after h n = inl (n, refl)
  there_broken (k ∷ before) K a after h n = inr (h.0, there_broken before K a after h.1 n)

  pub is_broken_there : (ks : List (Type 0 × A)) (a : A) → BrokenThere ks a → FirstBroken ks a
  is_broken_there ks a t =
      subst (λ (x : List (Type 0 × A)). FirstBroken x a) (sym t.there) (there_broken t.before t.statement a t.after t.hold t.broken)

-- ---- one list after another

module _ {A : Type 0} where
  pub first_append : (bs cs : List (Bool × A)) → first_failed (bs ++ cs) ≡ or_else (first_failed bs) (first_failed cs)
  unfolding first_failed or_else
  first_append [] cs = refl
  first_append (b ∷ bs) cs = go b.0 (first_append bs cs)
    where
      go : (x : Bool) → first_failed (bs ++ cs) ≡ or_else (first_failed bs) (first_failed cs)
          → cond x (first_failed (bs ++ cs)) (some b.1) ≡ or_else (cond x (first_failed bs) (some b.1)) (first_failed cs)
      go true ih = ih
      go false ih = refl

  pub decide_append : (bs cs : List (Bool × A)) (ks ls : List (Type 0 × A)) → DecideAll bs ks → DecideAll cs ls → DecideAll (bs ++ cs) (ks ++ ls)
  decide_append [] cs [] ls d e = e
  decide_append [] cs (k ∷ ks) ls d e = absurd d
  decide_append (b ∷ bs) cs [] ls d e = absurd d
  decide_append (b ∷ bs) cs (k ∷ ks) ls d e = (d.0, d.1, decide_append bs cs ks ls d.2 e)

  pub hold_append : (ks ls : List (Type 0 × A)) → AllHold (ks ++ ls) ↔ (AllHold ks × AllHold ls)
  hold_append [] ls = (λ h. (tt, h), λ h. h.1)
  hold_append (k ∷ ks) ls =
      let i = hold_append ks ls in
      (λ h. let j = i.0 h.1 in ((h.0, j.0), j.1), λ h. (h.0.0, i.1 (h.0.1, h.1)))

  pub broken_append : (ks ls : List (Type 0 × A)) (a : A) → FirstBroken (ks ++ ls) a ↔ (FirstBroken ks a ⊎ (AllHold ks × FirstBroken ls a))
  broken_append [] ls a = (λ x. inr (tt, x), back)
    where
      back : ⊥ ⊎ (Unit {0} × FirstBroken ls a) → FirstBroken ls a
      back (inl x) = absurd x
      back (inr (_, x)) = x
  broken_append (k ∷ ks) ls a = go (broken_append ks ls a)
    where
      go : FirstBroken (ks ++ ls) a ↔ (FirstBroken ks a ⊎ (AllHold ks × FirstBroken ls a))
          → FirstBroken (k ∷ (ks ++ ls)) a ↔ (FirstBroken (k ∷ ks) a ⊎ (AllHold (k ∷ ks) × FirstBroken ls a))
      go ih = (forth, back)
        where
          later : k.0 → FirstBroken ks a ⊎ (AllHold ks × FirstBroken ls a) → FirstBroken (k ∷ ks) a ⊎ (AllHold (k ∷ ks) × FirstBroken ls a)
          later h (inl x) = inl (inr (h, x))
          later h (inr (i, x)) = inr ((h, i), x)

          forth : FirstBroken (k ∷ (ks ++ ls)) a → FirstBroken (k ∷ ks) a ⊎ (AllHold (k ∷ ks) × FirstBroken ls a)
          forth (inl x) = inl (inl x)
          forth (inr (h, x)) = later h (ih.0 x)

          back : FirstBroken (k ∷ ks) a ⊎ (AllHold (k ∷ ks) × FirstBroken ls a) → FirstBroken (k ∷ (ks ++ ls)) a
          back (inl (inl x)) = inl x
          back (inl (inr (h, x))) = inr (h, ih.1 (inl x))
          back (inr (h, x)) = inr (h.0, ih.1 (inr (h.1, x)))

-- ---- something else beside them

module _ {A B : Type 0} (f : A → B) where
  pub first_relabelled : (bs : List (Bool × A)) → first_failed (relabelled f bs) ≡ map f (first_failed bs)
  unfolding first_failed relabelled
  first_relabelled [] = refl
  first_relabelled (b ∷ bs) = go b.0 (first_relabelled bs)
    where
      go : (x : Bool) → first_failed (relabelled f bs) ≡ map f (first_failed bs)
          → cond x (first_failed (relabelled f bs)) (some (f b.1)) ≡ map f (cond x (first_failed bs) (some b.1))
      go true ih = ih
      go false ih = refl

  pub decide_relabelled : (bs : List (Bool × A)) (ks : List (Type 0 × A)) → DecideAll bs ks → DecideAll (relabelled f bs) (relabelled f ks)
  unfolding relabelled
  decide_relabelled [] [] d = tt
  decide_relabelled [] (k ∷ ks) d = absurd d
  decide_relabelled (b ∷ bs) [] d = absurd d
  decide_relabelled (b ∷ bs) (k ∷ ks) d = (d.0, ap f d.1, decide_relabelled bs ks d.2)

  pub hold_relabelled : (ks : List (Type 0 × A)) → AllHold (relabelled f ks) ↔ AllHold ks
  unfolding relabelled
  hold_relabelled [] = (λ h. h, λ h. h)
  hold_relabelled (k ∷ ks) = let i = hold_relabelled ks in (λ h. (h.0, i.0 h.1), λ h. (h.0, i.1 h.1))

  pub broken_relabelled : (ks : List (Type 0 × A)) (b : B) → FirstBroken (relabelled f ks) b ↔ ((a : A) × (FirstBroken ks a × (b ≡ f a)))
  unfolding relabelled
  broken_relabelled [] b = (λ x. absurd x, λ h. h.1.0)
  broken_relabelled (k ∷ ks) b = go (broken_relabelled ks b)
    where
      go : FirstBroken (relabelled f ks) b ↔ ((a : A) × (FirstBroken ks a × (b ≡ f a)))
          → (((k.0 → ⊥) × (b ≡ f k.1)) ⊎ (k.0 × FirstBroken (relabelled f ks) b)) ↔ ((a : A) × (FirstBroken (k ∷ ks) a × (b ≡ f a)))
      go ih = (forth, λ (a, (x, e)). back a x e)
        where
          forth : ((k.0 → ⊥) × (b ≡ f k.1)) ⊎ (k.0 × FirstBroken (relabelled f ks) b) → (a : A) × (FirstBroken (k ∷ ks) a × (b ≡ f a))
          forth (inl (n, e)) = (k.1, (inl (n, refl), e))
          forth (inr (h, x)) = let (a, (y, e)) = ih.0 x in (a, (inr (h, y), e))

          back : (a : A) → FirstBroken (k ∷ ks) a → b ≡ f a → ((k.0 → ⊥) × (b ≡ f k.1)) ⊎ (k.0 × FirstBroken (relabelled f ks) b)
          back a (inl (n, i)) e = inl (n, e ∙ ap f i)
          back a (inr (h, x)) e = inr (h, ih.1 (a, (x, e)))
