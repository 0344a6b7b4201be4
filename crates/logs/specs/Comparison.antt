-- Document 02, R-1: two logs held against each other. Assumes nothing.
use Rattle.std.specs.Prelude.{cond, List, [], ◌∷◌, suc, ℕ}
use Rattle.std.proofs.Math.Option.{Option, map, none, some}
use Rattle.validation.specs.Tests.{first_failed}
use Rattle.validation.specs.Unless.{Unless, unless}
use Rattle.logs.specs.Agreement.{agree}
use Rattle.logs.specs.Entries.{Entry, entries_of}
use Rattle.logs.specs.LogForm.{comparison_tests}

-- "The result is the first record, from 0, where they part (the shorter log's end counts), or agreement."
unfoldable pub divergence : List Entry → List Entry → Option ℕ
divergence [] [] = none
divergence [] (y ∷ ys) = some 0
divergence (x ∷ xs) [] = some 0
divergence (x ∷ xs) (y ∷ ys) = cond (agree x y) (map suc (divergence xs ys)) (some 0)

-- "Two logs are read": a refusal's number, or where they part, if they do
unfoldable pub compared : List ℕ → List ℕ → Unless ℕ (Option ℕ)
compared first second = unless (first_failed (comparison_tests first second)) (divergence (entries_of first) (entries_of second))
