-- The theorems of runs, and of the last of a list. Assumes nothing.
use Rattle.std.specs.Prelude.{◌≡◌, ◌↔◌, List, [], ◌++◌, ◌∷◌, map, length}
use Rattle.std.proofs.Math.Option.{some}
use Rattle.lists.specs.Each.{Each, passed}
use Rattle.lists.specs.Lists.{Every, OneOf}
use Rattle.lists.specs.Runs.{Turn, last, reached, run}

pub record Theorems : Type 1 where
  -- what holds of each element holds of every one that is there
  pub every : {A : Type 0} (P : A → Type 0) (xs : List A) → Every P xs ↔ ((x : A) → OneOf x xs → P x)
  -- what holds of each element and those before it holds wherever the list is cut at an element
  pub each : {A : Type 0} (P : List A → A → Type 0) (xs : List A)
      → Each P [] xs ↔ ((ys : List A) (x : A) (zs : List A) → xs ≡ ys ++ (x ∷ zs) → P (passed [] ys) x)
  -- a run takes all of its inputs, in order, in as many steps
  pub inputs : {S I O : Type 0} (step : S → I → O) (next : O → S) (s : S) (xs : List I)
      → map (λ (t : Turn I O). t.takes) (run step next s xs) ≡ xs
  pub steps : {S I O : Type 0} (step : S → I → O) (next : O → S) (s : S) (xs : List I) → length (run step next s xs) ≡ length xs
  -- which list is a run: its first step gave what a step from s gives, and the others are a run from what it left
  pub one_more : {S I O : Type 0} (step : S → I → O) (next : O → S) (s : S) (t : Turn I O) (ts : List (Turn I O)) (xs : List I)
      → (t ∷ ts ≡ run step next s (t.takes ∷ xs)) ↔ ((t.gives ≡ step s t.takes) × (ts ≡ run step next (next t.gives) xs))
  -- with one more input at the end it has one more step, which goes on from the last
  pub later : {S I O : Type 0} (step : S → I → O) (next : O → S) (s : S) (xs : List I) (x : I)
      → run step next s (xs ++ (x ∷ []))
      ≡ run step next s xs ++ (record { takes = x; gives = step (reached next s (last (run step next s xs))) x } ∷ [])
  -- the last of a list
  pub last_one : {A : Type 0} (xs : List A) (x : A) → last (xs ++ (x ∷ [])) ≡ some x
