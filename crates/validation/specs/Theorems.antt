-- The theorems of tests: the first test that fails is the first statement that does not hold. Assumes nothing.
use Rattle.std.specs.Prelude.{◌≡◌, ◌↔◌, Bool, List, ◌++◌, ◌∷◌}
use Rattle.std.proofs.Math.Option.{Option, map, none, some}
use Rattle.validation.specs.Statements.{AllHold, DecideAll, FirstBroken}
use Rattle.validation.specs.Tests.{first_failed, relabelled}
use Rattle.validation.specs.Unless.{GivenExactly, unless}

-- the statements before one hold, it does not, and a stands beside it
pub record BrokenThere {A : Type 0} (ks : List (Type 0 × A)) (a : A) : Type 1 where
  pub before : List (Type 0 × A)
  pub statement : Type 0
  pub after : List (Type 0 × A)
  pub there : ks ≡ before ++ ((statement, a) ∷ after)
  pub hold : AllHold before
  pub broken : statement → ⊥

pub record Theorems : Type 1 where
  -- nothing is given exactly where all statements hold, and else what stands beside the first that does not
  pub accepts : {A : Type 0} (bs : List (Bool × A)) (ks : List (Type 0 × A)) → DecideAll bs ks → (first_failed bs ≡ none) ↔ AllHold ks
  pub refuses : {A : Type 0} (bs : List (Bool × A)) (ks : List (Type 0 × A)) → DecideAll bs ks → (a : A) → (first_failed bs ≡ some a) ↔ FirstBroken ks a
  -- what it is to be the first that does not hold
  pub first : {A : Type 0} (ks : List (Type 0 × A)) (a : A) → FirstBroken ks a → BrokenThere ks a
  pub is_first : {A : Type 0} (ks : List (Type 0 × A)) (a : A) → BrokenThere ks a → FirstBroken ks a
  -- with f of what stands beside each, f of it is given, where the same statements do not hold
  pub relabelled_tests : {A B : Type 0} (f : A → B) (bs : List (Bool × A)) → first_failed (relabelled f bs) ≡ map f (first_failed bs)
  pub relabelled_hold : {A B : Type 0} (f : A → B) (ks : List (Type 0 × A)) → AllHold (relabelled f ks) ↔ AllHold ks
  pub relabelled_broken : {A B : Type 0} (f : A → B) (ks : List (Type 0 × A)) (b : B)
      → FirstBroken (relabelled f ks) b ↔ ((a : A) × (FirstBroken ks a × (b ≡ f a)))
  -- x is the one value that is right, and o says whether it is given: then it is given exactly so
  pub exactly : {F A : Type 0} (Allowed : Type 0) (Right : A → Type 0) (Reason : F → Type 0) (x : A) (o : Option F) → (o ≡ none) ↔ Allowed
      → ((f : F) → (o ≡ some f) ↔ Reason f) → (Allowed → Right x) → (Allowed → (y : A) → Right y → y ≡ x)
      → GivenExactly Allowed Right Reason (unless o x)
