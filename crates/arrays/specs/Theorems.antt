-- The theorem of rules in arrays. Assumes nothing.
use Rattle.std.specs.Prelude.{◌≡◌, List, ℕ}
use Rattle.rules.specs.Model.{model}
use Rattle.rules.specs.Rules.{Rule}
use Rattle.arrays.specs.Arrays.{KeepLevels, LaidOut, evaluated}

pub record Theorems : Type 0 where
  -- rules in arrays, laid out by levels that they keep, have the model
  pub laid_out : (lev : ℕ → ℕ) (levels : ℕ) (rs : List Rule) → KeepLevels lev levels rs → (heads positive negated starts : List ℕ)
      → LaidOut lev levels rs heads positive negated starts → (C : ℕ)
      → evaluated levels heads positive negated starts C ≡ model rs C
