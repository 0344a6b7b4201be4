-- The theorems of specs/Theorems. Assumes nothing.
use mathlib.Core.Path.{refl}
use Rattle.records.specs.Theorems.{Theorems}
use Rattle.records.proofs.KindLaws.{unweighted_iff, weights_aside}
use Rattle.records.proofs.PutLaws.{as_long, others, written_there}
use Rattle.records.proofs.RuleLaws.{every_before, every_whole, whole_records_lem}
use Rattle.records.proofs.TypeLaws.{record_one}
use Rattle.records.proofs.WritingLaws.{written}

pub theorems : Theorems
theorems = record {
  whole_records_lem = whole_records_lem;
  written = written;
  written_there = written_there;
  others = λ bytes k j l d n. others bytes k l d j n;
  as_long = as_long;
  listed = every_whole;
  earlier = every_before;
  policies = λ bytes. (refl, (refl, refl));
  unweighted_ones = unweighted_iff;
  weights_aside = weights_aside;
  one_to_one = record_one;
}
