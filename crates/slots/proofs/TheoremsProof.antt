-- The theorems of specs/Theorems. Assumes nothing.
use Rattle.slots.specs.Theorems.{Theorems}
use Rattle.slots.proofs.CountLaws as count
use Rattle.slots.proofs.FreeLaws as free
use Rattle.slots.proofs.NumbersProof as numbers
use Rattle.slots.proofs.OpeningLaws.{opening_meets}
use Rattle.slots.proofs.RoundAtLaws.{round_at-meets}

pub theorems : Theorems
theorems = record {
  opening = opening_meets;
  opening_numbers = numbers.opening_numbers;
  round = round_at-meets;
  round_numbers = numbers.round_at-numbers;
  counted = count.counted;
  free = free.decides_free;
  not_free = free.not_free;
  taken_from = free.taken_from;
  counts_for = free.counts_for;
}
