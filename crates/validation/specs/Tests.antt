-- Tests in the order in which they are made, each beside what is given where it fails. Assumes nothing.
use Rattle.std.specs.Prelude.{Bool, cond, List, [], ◌∷◌}
use Rattle.std.proofs.Math.Option.{Option, none, some}

-- "Only the first that applies is given": what stands beside the first test that fails
unfoldable pub first_failed : {A : Type 0} → List (Bool × A) → Option A
first_failed [] = none
first_failed (t ∷ ts) = cond t.0 (first_failed ts) (some t.1)

-- the same tests (or statements, specs/Statements), with f of what stood beside each
unfoldable pub relabelled {ℓ} : {T : Type ℓ} {A B : Type 0} → (A → B) → List (T × A) → List (T × B)
relabelled f [] = []
relabelled f (t ∷ ts) = (t.0, f t.1) ∷ relabelled f ts
