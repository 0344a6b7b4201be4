-- The theorems of specs/Theorems. Assumes nothing.
use mathlib.Core.Path.{refl}
use Rattle.lists.specs.Runs.{run}
use Rattle.rounds.specs.Theorems.{Theorems}
use Rattle.rounds.proofs.RefusalLaws.{accepted_counted, numbers, refused_unchanged}
use Rattle.rounds.proofs.SessionLaws.{decides_closed, decides_service, decides_sound}

pub theorems : Theorems
unfolding run
theorems = record {
  round_numbers = numbers;
  service = decides_service;
  sound = decides_sound;
  finished = decides_closed;
  counted = accepted_counted;
  unchanged = refused_unchanged;
  no_round = λ bytes s. refl;
  one_more_round = λ bytes s m ms. refl;
  shows = λ p. refl;
  numbers = λ n. refl;
  of_policy_lem = λ n k. refl;
}
