-- The theorems of specs/Theorems. Assumes nothing.
use Rattle.validation.specs.Theorems.{Theorems}
use Rattle.validation.proofs.FirstLaws as first
use Rattle.validation.proofs.UnlessLaws.{given_exactly}

pub theorems : Theorems
theorems = record {
  accepts = first.first_none;
  refuses = first.first_some;
  first = first.broken_there;
  is_first = first.is_broken_there;
  relabelled_tests = first.first_relabelled;
  relabelled_hold = first.hold_relabelled;
  relabelled_broken = first.broken_relabelled;
  exactly = given_exactly;
}
