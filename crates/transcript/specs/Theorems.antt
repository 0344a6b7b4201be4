-- The theorems of what the bench program prints: its steps tell the events that are defined, and so print the output, however the input is cut; and
-- the output sentence by sentence. Assumes nothing.
use Rattle.std.specs.Prelude.{◌≡◌, true, ◌%◌, ◌*◌, ◌+◌, ◌<◌, ◌≤◌, ℕ, length, take}
use mathlib.Core.List.{List, [], ◌++◌, ◌∷◌, flatten}
use Rattle.std.proofs.Math.Option.{none, some}
use Rattle.encoding.specs.LittleEndian.{Bytes}
use Rattle.form.specs.PolicyTest.{policy_refusal}
use Rattle.form.specs.WrittenForm as W
use Rattle.form.specs.WrittenForm.{WellFormed, at}
use Rattle.preference.specs.Question.{Question}
use Rattle.rounds.specs.Endings.{ask, deny, grant}
use Rattle.rounds.specs.Moves.{Move, showing}
use Rattle.rounds.specs.Refusals.{Refusal, number, of_policy}
use Rattle.rounds.specs.Rounds.{Outcome, ends, refused, round}
use Rattle.rounds.specs.Sessions.{Finished, Service, Session, SoundSession, opened}
use Rattle.marked.specs.Marked.{policy_a}
use Rattle.transcript.specs.Events.{Event, events, input_records, played, policy_bytes, round_events, unopened}
use Rattle.transcript.specs.Lines.{refused_line, round_line}
use Rattle.transcript.specs.NumeralTheorems.{NumeralTheorems}
use Rattle.transcript.specs.Numerals.{ascii, decimal, hexadecimal}
use Rattle.transcript.specs.Output.{output, printed, records_output, round_lines}
use Rattle.transcript.specs.Steps.{Reader, begun, bytes_run, is_ended, printed_by, read_step, reads_run, told_by}

-- ---- the steps

pub record StepTheorems : Type 0 where
  -- a byte after another tells what is defined
  pub told : (file input : List ℕ) → told_by (bytes_run (take 2305 file) begun input) ≡ events file input
  -- and prints it
  pub bytes : (file input : List ℕ) → printed_by (bytes_run (take 2305 file) begun input) ≡ output file input
  -- and so does a read after another, in whatever pieces the input comes
  pub reads : (file : List ℕ) (rs : List (List ℕ)) → printed_by (reads_run (take 2305 file) begun rs) ≡ output file (flatten rs)
  -- so the input so far has printed its own output before more is waited for, and the rest of the input only adds to that
  pub at_once : (file xs ys : List ℕ) → (zs : List ℕ) × (output file (xs ++ ys) ≡ output file xs ++ zs)
  -- once the output has ended nothing more is printed
  pub ended : (policy : List ℕ) (r : Reader) → is_ended r ≡ true → (xs : List ℕ) → printed_by (bytes_run policy r xs) ≡ []
  -- and it has ended wherever nothing more can be printed
  pub ends : (policy : List ℕ) (r : Reader) → ((xs : List ℕ) → printed_by (bytes_run policy r xs) ≡ []) → is_ended r ≡ true
  -- so that a program which stops there has printed all of it, whatever is left of the input
  pub stops : (file xs ys : List ℕ) → is_ended (read_step (take 2305 file) begun xs).reader ≡ true → output file (xs ++ ys) ≡ output file xs

-- ---- the lines

pub record LineTheorems (policy : List ℕ) (s : Session) (p : ℕ) : Type 0 where
  -- "It prints a line a round: "round", the count, "got", the shown set p as four lower-case hexadecimal digits, then "ask" with four digits, or
  -- "grant", or "deny"."
  pub grants : (round policy s (showing p)).answer ≡ ends grant
      → round_line (showing p) (round policy s (showing p))
      ≡ ascii "round " ++ (decimal (1 + s.count) ++ (ascii " got " ++ (hexadecimal p ++ ascii " grant\n")))
  pub denies : (round policy s (showing p)).answer ≡ ends deny
      → round_line (showing p) (round policy s (showing p))
      ≡ ascii "round " ++ (decimal (1 + s.count) ++ (ascii " got " ++ (hexadecimal p ++ ascii " deny\n")))
  pub asks : (q : Question) → (round policy s (showing p)).answer ≡ ends (ask q)
      → round_line (showing p) (round policy s (showing p))
      ≡ ascii "round " ++ (decimal (1 + s.count) ++ (ascii " got " ++ (hexadecimal p ++ (ascii " ask " ++ (hexadecimal q.asks ++ ascii "\n")))))
  -- "A refusal prints "refused" with its number, and for the policy "at" with its record number"
  pub refuses : (n : ℕ) → (round policy s (showing p)).answer ≡ refused (number n)
      → round_line (showing p) (round policy s (showing p)) ≡ ascii "refused " ++ (decimal n ++ ascii "\n")
  pub refuses_policy : (n k : ℕ) → (round policy s (showing p)).answer ≡ refused (of_policy (at n k))
      → round_line (showing p) (round policy s (showing p)) ≡ ascii "refused " ++ (decimal n ++ (ascii " at " ++ (decimal k ++ ascii "\n")))
  -- "a round after closing prints "refused 9" for each record left"
  pub after_closing : Bytes policy → WellFormed policy → SoundSession s → Finished s
      → (ps : List ℕ) → round_lines policy s (p ∷ ps) ≡ ascii "refused 9\n" ++ round_lines policy s ps

-- ---- what there is to tell

pub record EventTheorems (file : List ℕ) : Type 0 where
  -- "No request record: no output, policy untested."
  pub no_request : (xs : List ℕ) → length xs < 2 → events file xs ≡ []
  -- "A refused policy or request ends the output, the policy being tested first"
  pub refused_policy : (f : W.Refusal) → policy_refusal (take 2305 file) ≡ some f → (low high : ℕ) (rest : List ℕ)
      → events file (low ∷ high ∷ rest) ≡ unopened (of_policy f) ∷ []
  pub refused_request : policy_refusal (take 2305 file) ≡ none → (low high : ℕ) → (Service (low + 256 * high) → ⊥) → (rest : List ℕ)
      → events file (low ∷ high ∷ rest) ≡ unopened (number 7) ∷ []
  -- "first the request, then one shown set a round"
  pub rounds : policy_refusal (take 2305 file) ≡ none → (low high : ℕ) → Service (low + 256 * high) → (rest : List ℕ)
      → events file (low ∷ high ∷ rest) ≡ round_events (take 2305 file) (opened (low + 256 * high)) (input_records rest)
  -- each record a round, with "the session that the one before gave back, refused or not"
  pub no_round : (s : Session) → round_events (take 2305 file) s [] ≡ []
  pub one_more : (s : Session) (p : ℕ) (ps : List ℕ)
      → round_events (take 2305 file) s (p ∷ ps)
      ≡ played (showing p) (round (take 2305 file) s (showing p)) ∷ round_events (take 2305 file) (round (take 2305 file) s (showing p)).session ps

-- ---- the output

pub record OutputTheorems (file : List ℕ) : Type 0 where
  -- "A refusal prints "refused" with its number", and a round its line
  pub nothing_told : printed [] ≡ []
  pub unopened_told : (f : Refusal) (es : List Event) → printed (unopened f ∷ es) ≡ refused_line f ++ printed es
  pub played_told : (m : Move) (o : Outcome) (es : List Event) → printed (played m o ∷ es) ≡ round_line m o ++ printed es
  -- "No request record: no output, policy untested."
  pub no_request : (xs : List ℕ) → length xs < 2 → output file xs ≡ []
  -- "A last odd byte counts for nothing"
  pub odd_byte : (xs : List ℕ) (b : ℕ) → length xs % 2 ≡ 0 → output file (xs ++ (b ∷ [])) ≡ output file xs
  -- "A refused policy or request ends the output, the policy being tested first": whatever is asked and shown
  pub refused_policy : (n k : ℕ) → policy_refusal (take 2305 file) ≡ some (at n k) → (low high : ℕ) (rest : List ℕ)
      → output file (low ∷ high ∷ rest) ≡ ascii "refused " ++ (decimal n ++ (ascii " at " ++ (decimal k ++ ascii "\n")))
  -- "1: more than 2,304 bytes; record number 128.", however long the file is
  pub too_long : 2304 < length file → (low high : ℕ) (rest : List ℕ) → output file (low ∷ high ∷ rest) ≡ ascii "refused 1 at 128\n"
  -- and of a file no longer than this every byte counts
  pub all_read : length file ≤ 2304 → (xs : List ℕ) → output file xs ≡ records_output file (input_records xs)
  -- "7: request outside 16 to 62"; the request is "2-byte little-endian"
  pub refused_request : policy_refusal (take 2305 file) ≡ none → (low high : ℕ) → (Service (low + 256 * high) → ⊥) → (rest : List ℕ)
      → output file (low ∷ high ∷ rest) ≡ ascii "refused 7\n"
  -- "first the request, then one shown set a round"
  pub rounds : policy_refusal (take 2305 file) ≡ none → (low high : ℕ) → Service (low + 256 * high) → (rest : List ℕ)
      → output file (low ∷ high ∷ rest) ≡ round_lines (take 2305 file) (opened (low + 256 * high)) (input_records rest)
  pub records : (low high : ℕ) (rest : List ℕ) → input_records (low ∷ high ∷ rest) ≡ (low + 256 * high) ∷ input_records rest
  pub no_record : (xs : List ℕ) → length xs < 2 → input_records xs ≡ []
  pub no_round : (s : Session) → round_lines (take 2305 file) s [] ≡ []
  -- each record a round, with "the session that the one before gave back, refused or not"
  pub one_more : (s : Session) (p : ℕ) (ps : List ℕ)
      → round_lines (take 2305 file) s (p ∷ ps)
      ≡ round_line (showing p) (round (take 2305 file) s (showing p)) ++ round_lines (take 2305 file) (round (take 2305 file) s (showing p)).session ps

pub record Theorems : Type 0 where
  -- "at most 2,305 bytes of it": the room that the program has for the file
  pub at_most : policy_bytes ≡ 2305
  -- numbers as text
  pub numerals : NumeralTheorems
  pub steps : StepTheorems
  pub lines : (policy : List ℕ) (s : Session) (p : ℕ) → LineTheorems policy s p
  pub events : (file : List ℕ) → EventTheorems file
  pub outputs : (file : List ℕ) → OutputTheorems file
  -- "Input 10 00 00 00 00 00 03 00 prints, in whole"
  pub policy_A : output policy_a (0x10 ∷ 0x00 ∷ 0x00 ∷ 0x00 ∷ 0x00 ∷ 0x00 ∷ 0x03 ∷ 0x00 ∷ [])
      ≡ ascii "round 1 got 0000 ask 0004\nround 2 got 0000 ask 0003\nround 3 got 0003 grant\n"
