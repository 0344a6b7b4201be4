-- A run of steps, one after another: each takes an input and gives an output, from which the next step goes on. Assumes nothing.
use Rattle.std.specs.Prelude.{List, [], ◌∷◌}
use Rattle.std.proofs.Math.Option.{Option, none, some}

-- a step of a run: what it took, and what it gave
pub record Turn (I O : Type 0) : Type 0 where
  pub takes : I
  pub gives : O

-- the first step begins with s, every later one with what `next` makes of that which the one before gave
module _ {S I O : Type 0} (step : S → I → O) (next : O → S) where
  unfoldable pub run : S → List I → List (Turn I O)
  run s [] = []
  run s (x ∷ xs) = let o = step s x in record { takes = x; gives = o } ∷ run (next o) xs

-- the last of a list, if there is one
unfoldable pub last : {A : Type 0} → List A → Option A
last [] = none
last (x ∷ []) = some x
last (x ∷ y ∷ xs) = last (y ∷ xs)

-- what a further step begins with, after a run from s with this last step
abbrev pub reached : {S I O : Type 0} → (O → S) → S → Option (Turn I O) → S
reached next s none = s
reached next s (some t) = next t.gives
