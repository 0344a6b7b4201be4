-- The comparison from its parts: the tests of the two logs, and where the two part. Assumes nothing.
use mathlib.Core.Path.{◌≡◌, ap, subst, sym}
use mathlib.Core.List.{List}
use mathlib.Core.Option.{Option, none, or_else, some}
use Prim.Native.Nat.{ℕ}
use Rattle.validation.specs.Tests.{first_failed}
use Rattle.validation.specs.Unless.{Unless, given, unless, withheld}
use Rattle.validation.proofs.FirstLaws.{first_append}
use Rattle.logs.specs.Comparison.{compared, divergence}
use Rattle.logs.specs.Entries.{entries_of}
use Rattle.logs.specs.LogForm.{comparison_tests, log_tests}
use Rattle.logs.specs.Theorems.{Compares}
use Rattle.logs.proofs.ComparisonLaws.{compares}

module _ (first second : List ℕ) where
  -- the tests of the first log, then those of the second
  compared_parts : compared first second
      ≡ unless (or_else (first_failed (log_tests first)) (first_failed (log_tests second))) (divergence (entries_of first) (entries_of second))
  unfolding compared comparison_tests
  compared_parts =
      ap (λ (o : Option ℕ). unless o (divergence (entries_of first) (entries_of second))) (first_append (log_tests first) (log_tests second))

  pub first_refused : (n : ℕ) → first_failed (log_tests first) ≡ some n → withheld n ≡ compared first second
  unfolding or_else
  first_refused n e = rw (compared_parts, e)

  pub second_refused : (n : ℕ) → first_failed (log_tests first) ≡ none → first_failed (log_tests second) ≡ some n → withheld n ≡ compared first second
  unfolding or_else
  second_refused n e f = rw (compared_parts, e, f)

  pub not_refused : first_failed (log_tests first) ≡ none → first_failed (log_tests second) ≡ none
      → given (divergence (entries_of first) (entries_of second)) ≡ compared first second
  unfolding or_else
  not_refused e f = rw (compared_parts, e, f)

  -- an answer that is the comparison's has its meaning
  pub meant : (u : Unless ℕ (Option ℕ)) → u ≡ compared first second → Compares first second u
  meant u e = subst (Compares first second) (sym e) (compares first second)
