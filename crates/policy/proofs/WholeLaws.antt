-- The last test, from the levels that are found or not. Assumes nothing.
use mathlib.Core.Path.{◌≡◌, ap, subst, sym}
use mathlib.Core.Bool.{Bool, cond}
use mathlib.Core.List.{List}
use mathlib.Core.Option.{Option, none, some}
use Prim.Native.Nat.{◌%◌, ◌≤◌, ℕ}
use lib.ListN.{length}
use Rattle.std.proofs.Common.{None, Some}
use Rattle.encoding.specs.LittleEndian.{Bytes}
use Rattle.validation.specs.Tests.{first_failed}
use Rattle.strata.proofs.StrataLaws as strata
use Rattle.records.specs.Records.{access_kind, rules_of, whole_records}
use Rattle.levels.specs.Levels.{Found, level_at}
use Rattle.form.specs.PolicyTest.{policy_refusal, tests_from}
use Rattle.form.specs.Theorems.{Tested}
use Rattle.form.specs.WrittenForm.{Refusal, at}
use Rattle.form.proofs.RefusalLaws.{rules_sized, tested}
use Rattle.policy.specs.Types.{AcceptedWith}
use Rattle.policy.proofs.LoopLaws.{by_levels}

module _ (bytes : List ℕ) (b : Bytes bytes) (l : length bytes ≤ 2304) (e : length bytes % 18 ≡ 0)
    (r : none ≡ first_failed (tests_from bytes 0 (whole_records bytes))) where
  -- no levels are found: the last test refuses
  pub levels_none : Found (rules_of access_kind bytes) None → some (at 6 (whole_records bytes)) ≡ policy_refusal bytes
  unfolding first_failed
  levels_none n =
      by_levels bytes l e _ r
      (sym (ap (λ (t : Bool). cond t none (some (at 6 (whole_records bytes))))
      ((strata.none (rules_of access_kind bytes) (rules_sized bytes b access_kind)).1 n)))

  -- levels are found: the policy is accepted
  pub levels_some : (of : List ℕ) → Found (rules_of access_kind bytes) (Some of) → none ≡ policy_refusal bytes
  unfolding first_failed
  levels_some of f =
      by_levels bytes l e _ r
      (sym (ap (λ (t : Bool). cond t none (some (at 6 (whole_records bytes))))
      ((strata.exists (rules_of access_kind bytes) (rules_sized bytes b access_kind)).1 (record { lev = level_at of; levels = f.kept }))))

  pub accepted_with : (of : List ℕ) → Found (rules_of access_kind bytes) (Some of) → AcceptedWith bytes of
  accepted_with of f = record { form = (tested bytes b).accepts.0 (sym (levels_some of f)); levels = f }

pub meant : (bytes : List ℕ) → Bytes bytes → (o : Option Refusal) → o ≡ policy_refusal bytes → Tested bytes o
meant bytes b o e = subst (Tested bytes) (sym e) (tested bytes b)
