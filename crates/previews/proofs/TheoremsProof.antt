-- The theorems of specs/Theorems. Assumes nothing.
use Rattle.previews.specs.Theorems.{Theorems}
use Rattle.previews.proofs.ActLaws.{acts_mean, between, left, stays, taken_out}
use Rattle.previews.proofs.ExamplesProof.{examples}
use Rattle.previews.proofs.PreviewLaws.{inside, outside, preview_meets, preview_numbers, round_after, unread}

pub theorems : Theorems
theorems = record {
  preview = preview_meets;
  numbers = preview_numbers;
  round_after = round_after;
  inside = λ bytes xs i m. inside bytes i m xs;
  outside = λ bytes xs i m. outside bytes i m xs;
  unread = λ bytes xs i m. unread bytes i m xs;
  acts = acts_mean;
  taken_out = taken_out;
  left = left;
  between = between;
  stays = stays;
  examples = examples;
}
