-- The output, sentence by sentence. Assumes nothing.
use mathlib.Core.Path.{◌∙◌, ◌≡◌, ap, ap₂, refl, sym}
use mathlib.Core.Bool.{Bool, false, true}
use mathlib.Core.List.{List, [], ◌++◌, ◌∷◌, append_assoc, append-nil, flat_map}
use mathlib.Core.Option.{none, some}
use Prim.Native.Nat.{◌%◌, ◌*◌, ◌+◌, ◌<◌, ℕ}
use lib.ListN.{length, length-take, take}
use lib.Seq.{take_all}
use borrow.Author.Tests.{lt-leb}
use native.Mathlib.Omega.{arith}
use Rattle.encoding.specs.LittleEndian.{little_endian}
use Rattle.lists.specs.Runs.{run}
use Rattle.validation.specs.Tests.{first_failed, relabelled}
use Rattle.validation.specs.Unless.{given, withheld}
use Rattle.form.specs.PolicyTest.{policy_refusal, policy_tests}
use Rattle.form.specs.WrittenForm as W
use Rattle.form.specs.WrittenForm.{WellFormed, at}
use Rattle.rounds.proofs.SessionLaws.{decides_service}
use Rattle.rounds.proofs.TheoremsProof as rounds
use Rattle.rounds.specs.Endings.{Ending, ask, deny, grant}
use Rattle.rounds.specs.Moves.{Move, showing}
use Rattle.rounds.specs.Refusals.{Refusal, number, of_policy}
use Rattle.rounds.specs.Rounds.{Answer, Outcome, ends, opening, refused, round}
use Rattle.rounds.specs.RoundTest.{opening_tests}
use Rattle.rounds.specs.Sessions.{Service, Session, is_service, opened}
use Rattle.transcript.specs.Events.{Event, events, input_records, policy_bytes, records_events, round_events, session_events, tested_events, unopened}
use Rattle.transcript.specs.Lines.{answer_text, ending_text, got_text, line, refused_line, round_line, round_text}
use Rattle.transcript.specs.Numerals.{ascii, decimal, decimal_in, digit, hexadecimal}
use Rattle.transcript.specs.Output.{event_text, output, printed, records_output, round_lines}
use Rattle.transcript.specs.Theorems.{EventTheorems, LineTheorems, OutputTheorems}

-- ---- records

records_cons : (low high : ℕ) (rest : List ℕ) → input_records (low ∷ high ∷ rest) ≡ (low + 256 * high) ∷ input_records rest
unfolding input_records little_endian
records_cons low high rest =
    let e : low + 256 * (high + 256 * 0) ≡ low + 256 * high = omega arith in
    ap (λ (n : ℕ). n ∷ input_records rest) e

records_odd : (xs : List ℕ) (b : ℕ) → length xs % 2 ≡ 0 → input_records (xs ++ (b ∷ [])) ≡ input_records xs
unfolding input_records
records_odd [] b e = refl
records_odd (x ∷ []) b e = absurd (omega (arith, e))
records_odd (x ∷ y ∷ xs) b e = ap (◌∷◌ (little_endian (x ∷ y ∷ []))) (records_odd xs b (omega (arith, e)))

records_none : (xs : List ℕ) → length xs < 2 → input_records xs ≡ []
unfolding input_records
records_none [] l = refl
records_none (x ∷ []) l = refl
records_none (x ∷ y ∷ xs) l = absurd (omega (arith, l))

-- ---- opening

opening_given : (r : ℕ) → Service r → opening r ≡ given (opened r)
unfolding opening opening_tests first_failed relabelled
opening_given r h = rw ((decides_service r).1 h) refl

pub opening_withheld : (r : ℕ) → (Service r → ⊥) → opening r ≡ withheld (number 7)
unfolding opening opening_tests first_failed relabelled
opening_withheld r h = go (is_service r) refl
  where
    go : (b : Bool) → is_service r ≡ b → opening r ≡ withheld (number 7)
    go true e = absurd (h ((decides_service r).0 e))
    go false e = rw e refl

-- ---- the length

too_long : (bytes : List ℕ) → 2304 < length bytes → policy_refusal bytes ≡ some (at 1 128)
unfolding policy_refusal policy_tests first_failed
too_long bytes l = rw (lt-leb (length bytes) 2304 l) refl

long_taken : (file : List ℕ) → 2304 < length file → 2304 < length (take policy_bytes file)
long_taken file l = omega (arith, length-take policy_bytes file)

-- ---- the text of events

pub printed_more : (xs ys : List Event) → printed (xs ++ ys) ≡ printed xs ++ printed ys
unfolding printed flat_map
printed_more [] ys = refl
printed_more (x ∷ xs) ys = ap (◌++◌ (event_text x)) (printed_more xs ys) ∙ sym (append_assoc (event_text x) (printed xs) (printed ys))

pub printed_one : (x : Event) → printed (x ∷ []) ≡ event_text x
unfolding printed flat_map
printed_one x = append-nil (event_text x)

-- ---- what there is to tell

nothing_told : (policy : List ℕ) → records_events policy [] ≡ []
nothing_told policy = refl

-- "the policy being tested first"
policy_told : (f : W.Refusal) (policy : List ℕ) (r : ℕ) (ps : List ℕ) → tested_events (some f) policy r ps ≡ unopened (of_policy f) ∷ []
policy_told f policy r ps = refl

module _ (file : List ℕ) where
  abbrev policy : List ℕ
  policy = take policy_bytes file

  begins : (low high : ℕ) (rest : List ℕ)
      → events file (low ∷ high ∷ rest) ≡ tested_events (policy_refusal policy) policy (low + 256 * high) (input_records rest)
  unfolding events
  begins low high rest = ap (records_events policy) (records_cons low high rest)

  opened_events : policy_refusal policy ≡ none → (low high : ℕ) (rest : List ℕ)
      → events file (low ∷ high ∷ rest) ≡ session_events policy (opening (low + 256 * high)) (input_records rest)
  opened_events e low high rest = begins low high rest ∙ ap (λ o. tested_events o policy (low + 256 * high) (input_records rest)) e

  pub events_told : EventTheorems file
  unfolding events round_events run
  events_told = record {
    no_request = λ xs l. ap (records_events policy) (records_none xs l) ∙ nothing_told policy;
    refused_policy = λ f e low high rest.
        begins low high rest
        ∙ ap (λ o. tested_events o policy (low + 256 * high) (input_records rest)) e
        ∙ policy_told f policy (low + 256 * high) (input_records rest);
    refused_request = λ e low high h rest.
        opened_events e low high rest ∙ ap (λ u. session_events policy u (input_records rest)) (opening_withheld (low + 256 * high) h);
    rounds = λ e low high h rest.
        opened_events e low high rest ∙ ap (λ u. session_events policy u (input_records rest)) (opening_given (low + 256 * high) h);
    no_round = λ s. refl;
    one_more = λ s p ps. refl;
  }

-- ---- the output

policy_text : (n k : ℕ) → refused_line (of_policy (at n k)) ≡ ascii "refused " ++ (decimal n ++ (ascii " at " ++ (decimal k ++ ascii "\n")))
unfolding refused_line
policy_text n k = append_assoc (ascii "refused " ++ decimal n) (ascii " at " ++ decimal k) (ascii "\n")

number_text : (n : ℕ) → refused_line (number n) ≡ ascii "refused " ++ (decimal n ++ ascii "\n")
unfolding refused_line
number_text n =
    append_assoc (ascii "refused ") (decimal n ++ []) (ascii "\n")
    ∙ ap (λ (d : List ℕ). ascii "refused " ++ (d ++ ascii "\n")) (append-nil (decimal n))

refused_policy : (file : List ℕ) (n k : ℕ) → policy_refusal (take policy_bytes file) ≡ some (at n k) → (low high : ℕ) (rest : List ℕ)
    → output file (low ∷ high ∷ rest) ≡ ascii "refused " ++ (decimal n ++ (ascii " at " ++ (decimal k ++ ascii "\n")))
unfolding output
refused_policy file n k e low high rest =
    ap printed ((events_told file).refused_policy (at n k) e low high rest) ∙ printed_one (unopened (of_policy (at n k))) ∙ policy_text n k

one_at_128 : ascii "refused " ++ (decimal 1 ++ (ascii " at " ++ (decimal 128 ++ ascii "\n"))) ≡ ascii "refused 1 at 128\n"
unfolding decimal_in digit
one_at_128 = refl

seven : refused_line (number 7) ≡ ascii "refused 7\n"
unfolding refused_line decimal_in digit
seven = refl

round_more : (policy : List ℕ) (s : Session) (p : ℕ) (ps : List ℕ)
    → round_lines policy s (p ∷ ps)
    ≡ round_line (showing p) (round policy s (showing p)) ++ round_lines policy (round policy s (showing p)).session ps
unfolding round_lines round_events printed run flat_map
round_more policy s p ps = refl

pub outputs : (file : List ℕ) → OutputTheorems file
unfolding output events round_lines round_events printed run flat_map
outputs file = record {
  nothing_told = refl;
  unopened_told = λ f es. refl;
  played_told = λ m o es. refl;
  no_request = λ xs l. ap printed ((events_told file).no_request xs l);
  odd_byte = λ xs b e. ap (records_output (take policy_bytes file)) (records_odd xs b e);
  refused_policy = refused_policy file;
  too_long = λ l low high rest. refused_policy file 1 128 (too_long (take policy_bytes file) (long_taken file l)) low high rest ∙ one_at_128;
  all_read = λ l xs. ap (λ (p : List ℕ). records_output p (input_records xs)) (take_all policy_bytes file (omega (arith, l)));
  refused_request = λ e low high h rest.
      ap printed ((events_told file).refused_request e low high h rest) ∙ printed_one (unopened (number 7)) ∙ seven;
  rounds = λ e low high h rest. ap printed ((events_told file).rounds e low high h rest);
  records = records_cons;
  no_record = records_none;
  no_round = λ s. refl;
  one_more = round_more (take policy_bytes file);
}

-- ---- the lines

got_then : (count : ℕ) (m : Move) (xs : List ℕ)
    → got_text count m ++ xs ≡ ascii "round " ++ (decimal count ++ (ascii " got " ++ (hexadecimal m.shows ++ xs)))
got_then count m xs = append_assoc (ascii "round " ++ decimal count) (ascii " got " ++ hexadecimal m.shows) xs

module _ (policy : List ℕ) (s : Session) (p : ℕ) where
  o : Outcome
  o = round policy s (showing p)

  answered : (e : Ending) → o.answer ≡ ends e → round_line (showing p) o ≡ line (round_text (1 + s.count) (showing p) e)
  unfolding round_line o
  answered e h =
      let c : o.session.count ≡ 1 + s.count = omega (arith, (rounds.theorems).counted policy s (showing p) e h) in
      ap (λ (n : ℕ). line (answer_text n (showing p) o.answer)) c ∙ ap (λ (a : Answer). line (answer_text (1 + s.count) (showing p) a)) h

  ended_text : (e : Ending) → o.answer ≡ ends e → (xs : List ℕ) → (ascii " " ++ ending_text e) ++ ascii "\n" ≡ xs
      → round_line (showing p) o ≡ ascii "round " ++ (decimal (1 + s.count) ++ (ascii " got " ++ (hexadecimal p ++ xs)))
  ended_text e h xs i =
      answered e h
      ∙ append_assoc (got_text (1 + s.count) (showing p)) (ascii " " ++ ending_text e) (ascii "\n")
      ∙ ap (λ (ys : List ℕ). got_text (1 + s.count) (showing p) ++ ys) i
      ∙ got_then (1 + s.count) (showing p) xs

  nine : o.answer ≡ refused (number 9) → round_line (showing p) o ≡ ascii "refused 9\n"
  unfolding round_line decimal_in digit
  nine h = ap (λ (a : Answer). line (answer_text o.session.count (showing p) a)) h

  turned_back_lem : (f : Refusal) → o.answer ≡ refused f → round_line (showing p) o ≡ refused_line f
  unfolding round_line refused_line
  turned_back_lem f h = ap (λ (a : Answer). line (answer_text o.session.count (showing p) a)) h

  pub lines : LineTheorems policy s p
  unfolding o
  lines = record {
    grants = λ h. ended_text grant h (ascii " grant\n") refl;
    denies = λ h. ended_text deny h (ascii " deny\n") refl;
    asks = λ q h. ended_text (ask q) h (ascii " ask " ++ (hexadecimal q.asks ++ ascii "\n")) refl;
    refuses = λ n h. turned_back_lem (number n) h ∙ number_text n;
    refuses_policy = λ n k h. turned_back_lem (of_policy (at n k)) h ∙ policy_text n k;
    after_closing = λ b w i f ps.
        let h = ((rounds.theorems).round_numbers policy b s (showing p)).finished.1 (w, (i, f)) in
        let k : o.session ≡ s = (rounds.theorems).unchanged policy s (showing p) (number 9) h in
        round_more policy s p ps ∙ ap₂ (λ (x : List ℕ) (r : Session). x ++ round_lines policy r ps) (nine h) k;
  }
