-- The theorems of what the station program prints: over any list of calls of its step the lines are the output. Assumes nothing.
use Rattle.std.specs.Prelude.{◌≡◌, ◌≢◌, ◌<◌, ℕ, length, take}
use mathlib.Core.List.{List, [], ◌++◌, ◌∷◌, flat_map}
use Rattle.encoding.specs.LittleEndian.{little_endian}
use Rattle.lists.specs.Runs.{Turn}
use Rattle.rounds.specs.Moves.{Move, showing}
use Rattle.rounds.specs.Rounds.{Outcome}
use Rattle.slots.specs.Openings.{open_at}
use Rattle.slots.specs.RoundsAt.{round_at}
use Rattle.slots.specs.Slots as S
use Rattle.operations.specs.Operations.{opens, plays}
use Rattle.previews.specs.Acts.{Act, does, previews}
use Rattle.previews.specs.Previews.{preview_at}
use Rattle.slot_steps.specs.declared.Slot.{Slot}
use Rattle.occupancy.specs.Types.{table_of}
use Rattle.marked.specs.Marked.{policy_a}
use Rattle.station_table.specs.Types.{count_at, empty_table}
use Rattle.transcript.specs.Lines.{round_line}
use Rattle.transcript.specs.Numerals.{ascii, decimal}
use Rattle.lines.specs.Lines.{text_of}
use Rattle.station_lines.specs.Lines.{opening_line, preview_line, round_at_line}
use Rattle.station_lines.specs.Output.{acts_in, printed_by, station_output}
use Rattle.station_lines.specs.Steps.{Does, record_step}
use Rattle.station_lines.specs.declared.step.Step.{Step}

-- a call of the step, which took the bytes of one record: each is as `record` promises it, the first with these slots, every later one with those that the
-- one before gave back
abbrev pub Calls : List ℕ → List Slot → List (Turn (List ℕ) Step) → Type 0
Calls policy xs [] = Unit {0}
Calls policy xs (c ∷ cs) =
    (length c.takes ≡ 5) × (Does c.gives (record_step policy (table_of xs) c.takes) × Calls policy c.gives.slots cs)

-- the bytes that they took
abbrev pub input_of : List (Turn (List ℕ) Step) → List ℕ
input_of cs = flat_map (λ (c : Turn (List ℕ) Step). c.takes) cs

-- all that is written
abbrev pub text_in : List (Turn (List ℕ) Step) → List ℕ
text_in cs = flat_map (λ (c : Turn (List ℕ) Step). text_of c.gives.line) cs

-- The output record by record.
pub record OutputTheorems (policy : List ℕ) : Type 0 where
  -- what there are records for prints, from 64 empty slots, with at most 2,305 bytes of the file
  pub begins : (file input : List ℕ) → station_output file input ≡ printed_by empty_table (acts_in (take 2305 file) input)
  -- a record of five bytes: 1 is an opening, 2 a round, 3 a preview of one, and any other is passed over
  pub opening : (i o low high : ℕ) (bytes : List ℕ)
      → acts_in policy (1 ∷ i ∷ o ∷ low ∷ high ∷ bytes) ≡ does (opens i o (little_endian (low ∷ high ∷ []))) ∷ acts_in policy bytes
  pub round : (i o low high : ℕ) (bytes : List ℕ)
      → acts_in policy (2 ∷ i ∷ o ∷ low ∷ high ∷ bytes) ≡ does (plays policy i (showing (little_endian (low ∷ high ∷ [])))) ∷ acts_in policy bytes
  pub preview : (i o low high : ℕ) (bytes : List ℕ)
      → acts_in policy (3 ∷ i ∷ o ∷ low ∷ high ∷ bytes) ≡ previews policy i (showing (little_endian (low ∷ high ∷ []))) ∷ acts_in policy bytes
  pub other : (x : ℕ) → x ≢ 1 → x ≢ 2 → x ≢ 3 → (i o low high : ℕ) (bytes : List ℕ)
      → acts_in policy (x ∷ i ∷ o ∷ low ∷ high ∷ bytes) ≡ acts_in policy bytes
  -- a last incomplete record counts for nothing
  pub incomplete : (bytes : List ℕ) → length bytes < 5 → acts_in policy bytes ≡ []
  -- one line for each of these, and the next finds the slots as it left them
  pub nothing : (xs : List S.Slot) → printed_by xs [] ≡ []
  pub opens_line : (xs : List S.Slot) (i o r : ℕ) (acts : List Act)
      → printed_by xs (does (opens i o r) ∷ acts) ≡ opening_line i (open_at xs i o r).answer ++ printed_by (open_at xs i o r).table acts
  pub plays_line : (xs : List S.Slot) (i : ℕ) (m : Move) (acts : List Act)
      → printed_by xs (does (plays policy i m) ∷ acts)
      ≡ round_at_line i m (round_at policy xs i m).answer (count_at (round_at policy xs i m).table i) ++ printed_by (round_at policy xs i m).table acts
  -- a preview leaves them: what is printed after it is what is printed without it
  pub previews_line : (xs : List S.Slot) (i : ℕ) (m : Move) (acts : List Act)
      → printed_by xs (previews policy i m ∷ acts) ≡ preview_line i m (preview_at policy xs i m) ++ printed_by xs acts
  -- a round's line is the bench program's, with the slot's number before it; a preview's is the round's, with a word between
  pub bench_line : (i : ℕ) (m : Move) (o : Outcome) → round_at_line i m o.answer o.session.count ≡ decimal i ++ (ascii " " ++ round_line m o)
  pub preview_round : (xs : List S.Slot) (i : ℕ) (m : Move)
      → (rest : List ℕ) × ((preview_line i m (preview_at policy xs i m) ≡ decimal i ++ (ascii " preview " ++ rest))
      × (round_at_line i m (round_at policy xs i m).answer (count_at (round_at policy xs i m).table i) ≡ decimal i ++ (ascii " " ++ rest)))

pub record Theorems : Type 0 where
  pub outputs : (policy : List ℕ) → OutputTheorems policy
  -- From 64 empty slots, with "at most 2,305 bytes" of the file, the lines of any number of calls are the output for the file and the bytes taken, and
  -- for those with the bytes of an incomplete record after them.
  pub program : (file : List ℕ) (xs : List Slot) → table_of xs ≡ empty_table → (cs : List (Turn (List ℕ) Step)) → Calls (take 2305 file) xs cs
      → (rest : List ℕ) → length rest < 5 → text_in cs ≡ station_output file (input_of cs ++ rest)
  -- under policy A an opening, a round, one more opening there, one past the slots, a round at an empty slot, and a record that is passed over
  pub policy_A : station_output policy_a
      (1 ∷ 3 ∷ 7 ∷ 16 ∷ 0 ∷ 2 ∷ 3 ∷ 0 ∷ 0 ∷ 0 ∷ 1 ∷ 3 ∷ 8 ∷ 16 ∷ 0 ∷ 1 ∷ 64 ∷ 7 ∷ 16 ∷ 0 ∷ 2 ∷ 5 ∷ 0 ∷ 0 ∷ 0 ∷ 0 ∷ 3 ∷ 7 ∷ 16 ∷ 0 ∷ [])
      ≡ ascii "3 opened\n3 round 1 got 0000 ask 0004\n3 refused 15\n64 refused 14\n5 refused 8\n"
  -- an opening, two previews there and the first of them played; one at an empty slot, and one past the slots
  pub previewed_A : station_output policy_a
      (1 ∷ 3 ∷ 7 ∷ 16 ∷ 0 ∷ 3 ∷ 3 ∷ 0 ∷ 0 ∷ 0 ∷ 3 ∷ 3 ∷ 0 ∷ 4 ∷ 0 ∷ 2 ∷ 3 ∷ 0 ∷ 0 ∷ 0 ∷ 3 ∷ 5 ∷ 0 ∷ 0 ∷ 0 ∷ 3 ∷ 64 ∷ 0 ∷ 0 ∷ 0 ∷ [])
      ≡ ascii "3 opened\n3 preview round 1 got 0000 ask 0004\n3 preview round 1 got 0004 grant\n3 round 1 got 0000 ask 0004\n"
      ++ ascii "5 preview refused 8\n64 preview refused 14\n"
