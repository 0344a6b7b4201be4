-- What is given unless a test fails. Assumes nothing.
use mathlib.Core.Path.{◌∙◌, ◌≡◌, ap, refl, subst, sym}
use mathlib.Core.Logic.{◌↔◌}
use mathlib.Core.Option.{Option, none, some}
use Prim.Native.Nat.{ℕ}
use native.Mathlib.Omega.{arith}
use Rattle.validation.specs.Unless.{GivenExactly, given, unless, withheld}

none≢some : {F : Type 0} (f : F) → none ≡ some f → ⊥
none≢some f e = let z : ◌≡◌ {A = ℕ} 0 1 = cc in omega arith

module _ {F A : Type 0} where
  not_both : (x : A) (f : F) → given x ≡ withheld f → ⊥
  not_both x f e = let z : ◌≡◌ {A = ℕ} 0 1 = cc in omega arith

  -- x is the one value that is right where all is allowed, and o says whether it is
  pub given_exactly : (Allowed : Type 0) (Right : A → Type 0) (Reason : F → Type 0) (x : A) (o : Option F) → (o ≡ none) ↔ Allowed
      → ((f : F) → (o ≡ some f) ↔ Reason f) → (Allowed → Right x) → (Allowed → (y : A) → Right y → y ≡ x)
      → GivenExactly Allowed Right Reason (unless o x)
  given_exactly Allowed Right Reason x none accepts refuses right only = record {
    values = λ y. (
      λ e. let i : x ≡ y = cc in (accepts.0 refl, subst Right i (right (accepts.0 refl))),
      λ h. ap given (sym (only h.0 y h.1)),
    );
    refusals = λ f. (λ e. absurd (not_both x f e), λ h. absurd (none≢some f ((refuses f).1 h)));
  }
  given_exactly Allowed Right Reason x (some f) accepts refuses right only = record {
    values = λ y. (λ e. absurd (not_both y f (sym e)), λ h. absurd (none≢some f (sym (accepts.1 h.0))));
    refusals = λ g. (λ e. let i : f ≡ g = cc in (refuses g).0 (ap some i), λ h. let i : some f ≡ some g = (refuses g).1 h in cc);
  }

  -- the two ways that an answer is given
  pub unless_given : (o : Option F) (x y : A) → o ≡ none → y ≡ x → given y ≡ unless o x
  unless_given o x y e i = ap given i ∙ ap (λ (p : Option F). unless p x) (sym e)

  pub unless_withheld : (o : Option F) (x : A) (f : F) → o ≡ some f → withheld f ≡ unless o x
  unless_withheld o x f e = ap (λ (p : Option F). unless p x) (sym e)
