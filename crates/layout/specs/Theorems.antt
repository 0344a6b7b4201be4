-- The theorem of rules in arrays, for policies of the written form. Assumes nothing.
use Rattle.std.specs.Prelude.{◌≡◌, List, ℕ}
use Rattle.encoding.specs.LittleEndian.{Bytes}
use Rattle.rules.specs.Model.{model}
use Rattle.records.specs.Policies.{policy_of}
use Rattle.levels.specs.Levels.{Levels, level_at}
use Rattle.form.specs.WrittenForm.{WellFormed}
use Rattle.arrays.specs.Arrays.{KeepLevels, LaidOut, evaluated, level_count}

pub record Theorems : Type 0 where
  -- the access rules keep levels that were found for them
  pub keeps : (bytes : List ℕ) → Bytes bytes → WellFormed bytes → (of : List ℕ) → Levels (policy_of bytes).access of
      → KeepLevels (level_at of) level_count (policy_of bytes).access
  -- in arrays, laid out by these, they have the model
  pub laid_out : (bytes : List ℕ) → Bytes bytes → WellFormed bytes → (of : List ℕ) → Levels (policy_of bytes).access of
      → (heads positive negated starts : List ℕ) → LaidOut (level_at of) level_count (policy_of bytes).access heads positive negated starts → (C : ℕ)
      → evaluated level_count heads positive negated starts C ≡ model (policy_of bytes).access C
