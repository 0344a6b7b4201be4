-- The access rules of a policy of the written form: they keep the levels that were found, so that in arrays they have the model. Assumes nothing.
use mathlib.Core.Path.{◌≡◌}
use mathlib.Core.List.{List, [], ◌∷◌}
use Prim.Native.Nat.{◌<◌, ℕ}
use Rattle.encoding.specs.LittleEndian.{Bytes}
use Rattle.lists.specs.Lists.{Every}
use Rattle.lists.proofs.ListLaws.{every_imp₂}
use Rattle.rules.specs.Model.{model}
use Rattle.rules.specs.Rules.{Levelled, Rule, Stratified}
use Rattle.strata.specs.Theorems.{Over64}
use Rattle.records.specs.Policies.{policy_of}
use Rattle.levels.specs.Levels.{Levels, Low, level_at}
use Rattle.form.specs.WrittenForm.{WellFormed}
use Rattle.form.proofs.PolicyLaws.{over_atoms}
use Rattle.arrays.specs.Arrays.{KeepLevels, LaidOut, evaluated, level_count}
use Rattle.arrays.proofs.ModelLaws.{laid_model}

lows : (of : List ℕ) → Low of → (rs : List Rule) → Every (λ r. level_at of r.head < level_count) rs
lows of l [] = tt
lows of l (r ∷ rs) = (l r.head, lows of l rs)

module _ (bytes : List ℕ) (b : Bytes bytes) (w : WellFormed bytes) (of : List ℕ) (f : Levels (policy_of bytes).access of) where
  pub access_levels_lem : KeepLevels (level_at of) level_count (policy_of bytes).access
  access_levels_lem = record {
    stratified =
        every_imp₂ (Levelled (level_at of)) Over64 (Stratified (level_at of)) (λ r k o. record { levelled = k; headed = o.headed; sized = o.sized })
        (policy_of bytes).access f.kept (over_atoms bytes b w);
    low = lows of f.low (policy_of bytes).access;
  }

  pub access_model : (h p m s : List ℕ) → LaidOut (level_at of) level_count (policy_of bytes).access h p m s → (C : ℕ)
      → evaluated level_count h p m s C ≡ model (policy_of bytes).access C
  access_model = laid_model (level_at of) level_count (policy_of bytes).access access_levels_lem
