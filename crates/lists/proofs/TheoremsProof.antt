-- The theorems of specs/Theorems. Assumes nothing.
use Rattle.lists.specs.Theorems.{Theorems}
use Rattle.lists.proofs.EachLaws.{each_means}
use Rattle.lists.proofs.ListLaws.{every_one_of, one_of_every}
use Rattle.lists.proofs.RunLaws.{last_one, run_inputs, run_later, run_length, run_more}

pub theorems : Theorems
theorems = record {
  every = λ P xs. (every_one_of P xs, one_of_every P xs);
  each = each_means;
  inputs = run_inputs;
  steps = run_length;
  one_more = run_more;
  later = run_later;
  last_one = last_one;
}
