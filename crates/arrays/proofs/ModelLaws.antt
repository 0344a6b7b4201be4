-- Rules in arrays, laid out by levels that they keep, have the model. Assumes nothing.
use mathlib.Core.Path.{◌∙◌, ◌≡◌, ap}
use mathlib.Core.List.{List}
use Prim.Native.Nat.{ℕ}
use Rattle.rules.specs.LevelByLevel.{level_by_level}
use Rattle.rules.specs.Model.{model}
use Rattle.rules.specs.Rules.{Rule}
use Rattle.rules.proofs.LevelByLevelLaws.{level_by_level_lem}
use Rattle.arrays.specs.Arrays.{KeepLevels, LaidOut, evaluated}

module _ (lev : ℕ → ℕ) (levels : ℕ) (rs : List Rule) (keep : KeepLevels lev levels rs) (h p m s : List ℕ) (l : LaidOut lev levels rs h p m s) where
  pub laid_model : (C : ℕ) → evaluated levels h p m s C ≡ model rs C
  laid_model C = ap (λ (ls : List (List Rule)). level_by_level ls C) l.rules ∙ level_by_level_lem lev rs keep.stratified C levels keep.low

  -- as a program comes by it: X from credentials S that are C
  pub laid_model_at : (S C X : ℕ) → S ≡ C → X ≡ evaluated levels h p m s S → X ≡ model rs C
  laid_model_at S C X e x = x ∙ laid_model S ∙ ap (model rs) e
