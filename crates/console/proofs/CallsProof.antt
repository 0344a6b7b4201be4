-- What the steps promise carries over to every list of their calls. Assumes nothing.
use mathlib.Core.Path.{◌∙◌, ◌≡◌, ap, refl, sym}
use mathlib.Core.List.{List, [], ◌++◌, ◌∷◌, flat_map, map}
use Prim.Native.Nat.{ℕ}
use lib.ListN.{take}
use Rattle.lists.proofs.RunLaws.{run_more}
use Rattle.lists.specs.Runs.{Turn, last, reached, run}
use Rattle.transcript.proofs.StepLaws.{bytes_events, events_stop}
use Rattle.transcript.specs.Events.{events}
use Rattle.transcript.specs.Output.{output, printed}
use Rattle.transcript.specs.Steps as S
use Rattle.transcript.specs.Steps.{begun, byte_step, bytes_run, is_ended, read_step, told_by}
use Rattle.console.specs.Calls.{CallsMean, ProgramPrints, ProgramStops, ProgramTells, input_of, reader_after, told_in, turn_of}
use Rattle.console.specs.Steps.{events_of, reader_of}
use Rattle.console.specs.declared.reader.Reader.{Reader}
use Rattle.console.specs.declared.reader.Step.{Step}

pub calls_mean : CallsMean
unfolding run
calls_mean = record {
  none = λ policy r. refl;
  one_more = λ policy r c cs. run_more (byte_step policy) (λ (x : S.Step). x.reader) (reader_of r) (turn_of c) (map turn_of cs) (input_of cs);
}

-- the events are what the steps tell
calls_told : (cs : List (Turn ℕ Step)) → told_in cs ≡ told_by (map turn_of cs)
unfolding flat_map
calls_told [] = refl
calls_told (c ∷ cs) = ap (◌++◌ (events_of c.gives.event)) (calls_told cs)

pub program_tells : ProgramTells
program_tells file r e cs h =
    calls_told cs
    ∙ ap told_by h
    ∙ ap (λ (q : S.Reader). told_by (bytes_run (take 2305 file) q (input_of cs))) e
    ∙ bytes_events file (input_of cs)

pub program_prints : ProgramPrints
unfolding output
program_prints file r e cs h = ap printed (program_tells file r e cs h)

-- the reader after the calls is that after the bytes
after_calls : (r : Reader) (cs : List (Turn ℕ Step))
    → reader_of (reader_after r cs) ≡ reached (λ (x : S.Step). x.reader) (reader_of r) (last (map turn_of cs))
unfolding last
after_calls r [] = refl
after_calls r (c ∷ []) = refl
after_calls r (c ∷ d ∷ cs) = after_calls r (d ∷ cs)

pub program_stops : ProgramStops
unfolding read_step output
program_stops file r e cs h i ys =
    let to : S.Reader → S.Reader = λ q. reached (λ (x : S.Step). x.reader) q (last (bytes_run (take 2305 file) q (input_of cs))) in
    let k : reader_of (reader_after r cs) ≡ to begun =
    after_calls r cs
    ∙ ap (λ (ts : List (Turn ℕ S.Step)). reached (λ (x : S.Step). x.reader) (reader_of r) (last ts)) h
    ∙ ap to e
    in
    let told : told_in cs ≡ events file (input_of cs ++ ys) = program_tells file r e cs h ∙ sym (events_stop file (input_of cs) ys (sym (ap is_ended k) ∙ i)) in
    (told, ap printed told)
