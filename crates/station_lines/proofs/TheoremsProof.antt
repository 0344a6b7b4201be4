-- The theorems of specs/Theorems. Assumes nothing.
use mathlib.Core.Path.{◌∙◌, ap, refl}
use mathlib.Core.List.{List, ◌++◌, flat_map}
use Prim.Native.Nat.{ℕ}
use lib.ListN.{take}
use borrow.Author.Tests.{ne_eqb}
use Rattle.lists.specs.Runs.{run}
use Rattle.slots.specs.Slots as S
use Rattle.transcript.specs.Events.{policy_bytes}
use Rattle.transcript.specs.Lines.{round_line}
use Rattle.station_lines.specs.Lines.{round_at_line}
use Rattle.station_lines.specs.Output.{acts_in, printed_by, station_output}
use Rattle.station_lines.specs.Theorems.{OutputTheorems, Theorems, input_of}
use Rattle.station_lines.proofs.ExampleProof.{policy_A, previewed_A}
use Rattle.station_lines.proofs.OutputLaws.{calls_printed, incomplete_none}
use Rattle.station_lines.proofs.PreviewLaws.{preview_round}

outputs : (policy : List ℕ) → OutputTheorems policy
unfolding station_output acts_in printed_by flat_map run round_at_line round_line
outputs policy = record {
  begins = λ file input. refl;
  opening = λ i o low high bytes. refl;
  round = λ i o low high bytes. refl;
  preview = λ i o low high bytes. refl;
  other = λ x n m l i o low high bytes. rw (ne_eqb x 1 n, ne_eqb x 2 m, ne_eqb x 3 l) refl;
  incomplete = incomplete_none policy;
  nothing = λ xs. refl;
  opens_line = λ xs i o r acts. refl;
  plays_line = λ xs i m acts. refl;
  previews_line = λ xs i m acts. refl;
  bench_line = λ i m o. refl;
  preview_round = preview_round policy;
}

pub theorems : Theorems
unfolding station_output
theorems = record {
  outputs = outputs;
  program = λ file xs e cs h rest l.
      calls_printed (take policy_bytes file) xs cs h rest l
      ∙ ap (λ (ys : List S.Slot). printed_by ys (acts_in (take policy_bytes file) (input_of cs ++ rest))) e;
  policy_A = policy_A;
  previewed_A = previewed_A;
}
