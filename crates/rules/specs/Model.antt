-- The least closed set and the stable set, computed. specs/Theorems says that they are what specs/Stable means. Assumes nothing.
use Rattle.std.specs.Prelude.{Bool, cond, List, [], ◌∷◌, suc, zero, ℕ, length}
use Rattle.atoms.specs.Sets.{empty, single, subset, union}
use Rattle.rules.specs.Rules.{Rule}
use Rattle.rules.specs.Stable.{reduct}

-- f, n times
unfoldable pub times : ℕ → (ℕ → ℕ) → ℕ → ℕ
times zero f x = x
times (suc n) f x = times n f (f x)

-- Rules of which `on` says when one applies to a set: in a pass each in turn adds its head where it applies, and there are as many passes as rules.
module _ (on : Rule → ℕ → Bool) where
  unfoldable pub pass_by : List Rule → ℕ → ℕ
  pass_by [] S = S
  pass_by (r ∷ rs) S = pass_by rs (cond (on r S) (union S (single r.head)) S)

  unfoldable pub closure_by : List Rule → ℕ → ℕ
  closure_by rs C = times (length rs) (pass_by rs) C

-- "An empty body always applies": a rule without negation applies where its positive part holds
abbrev pub applies : Rule → ℕ → Bool
applies r S = subset r.positive S

abbrev pub closure : List Rule → ℕ → ℕ
closure = closure_by applies

-- "the least set that holds C and is closed under what remains" of the rules by M
unfoldable pub consequences : List Rule → ℕ → ℕ → ℕ
consequences rs C M = closure (reduct M rs) C

-- "just one stable set exists; that is the model": after n steps the atoms of the n lowest levels are settled, whatever candidate one begins with, and
-- 64 atoms have at most 64 levels
unfoldable pub model : List Rule → ℕ → ℕ
model rs C = times 64 (consequences rs C) empty
