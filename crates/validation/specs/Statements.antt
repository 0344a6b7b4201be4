-- Statements in order, each beside what is given where it does not hold. Nothing here computes. Assumes nothing.
use Rattle.std.specs.Prelude.{◌≡◌, ◌↔◌, ◌⊎◌, Bool, true, List, [], ◌∷◌}

module _ {A : Type 0} where
  abbrev pub AllHold : List (Type 0 × A) → Type 0
  AllHold [] = Unit {0}
  AllHold (k ∷ ks) = k.0 × AllHold ks

  -- "Only the first that applies is given": a stands beside the first statement that does not hold
  abbrev pub FirstBroken : List (Type 0 × A) → A → Type 0
  FirstBroken [] a = ⊥
  FirstBroken (k ∷ ks) a = ((k.0 → ⊥) × (a ≡ k.1)) ⊎ (k.0 × FirstBroken ks a)

-- a test passes exactly where a statement holds
abbrev pub Decides : Bool → Type 0 → Type 0
Decides b K = (b ≡ true) ↔ K

-- every test of a list decides its statement, and the same stands beside both
abbrev pub DecideAll : {A : Type 0} → List (Bool × A) → List (Type 0 × A) → Type 0
DecideAll [] [] = Unit {0}
DecideAll [] (k ∷ ks) = ⊥
DecideAll (b ∷ bs) [] = ⊥
DecideAll (b ∷ bs) (k ∷ ks) = Decides b.0 k.0 × (b.1 ≡ k.1) × DecideAll bs ks
