-- Records and bytes one after another tell the events, and so print the output. Assumes nothing.
use mathlib.Core.Path.{◌∙◌, ◌≡◌, ap, refl, sym}
use mathlib.Core.Bool.{false≢true, true}
use mathlib.Core.List.{List, [], ◌++◌, ◌∷◌, append_assoc, append-nil, flat_map, flatten}
use mathlib.Core.Option.{Option, none, some}
use Prim.Native.Nat.{ℕ}
use lib.ListN.{take}
use native.Mathlib.Omega.{arith}
use Rattle.encoding.specs.LittleEndian.{little_endian}
use Rattle.lists.proofs.RunLaws.{reached_next}
use Rattle.lists.specs.Runs.{last, reached, run}
use Rattle.validation.specs.Unless.{Unless, given, withheld}
use Rattle.form.specs.PolicyTest.{policy_refusal}
use Rattle.form.specs.WrittenForm as W
use Rattle.rounds.specs.Moves.{showing}
use Rattle.rounds.specs.Refusals.{Refusal, number, of_policy}
use Rattle.rounds.specs.Rounds.{opening, round}
use Rattle.rounds.specs.Sessions.{Service, Session}
use Rattle.transcript.specs.Events.{Event, events, input_records, played, policy_bytes, records_events, round_events, session_events, tested_events, unopened}
use Rattle.transcript.specs.Lines.{answer_text, line, refused_line, refused_text, round_line}
use Rattle.transcript.specs.Output.{output, printed}
use Rattle.transcript.specs.Steps.{Reader, Stage, Step, begun, byte_step, bytes_run, ended, is_ended, is_ended_stage, opened_step, printed_by, read_step}
use Rattle.transcript.specs.Steps.{reads_run, record_step, request, request_step, rounds, told_by}
use Rattle.transcript.proofs.OutputLaws.{opening_withheld, printed_more}

-- ---- a record after another

records_tell : List ℕ → Stage → List ℕ → List Event
records_tell policy s [] = []
records_tell policy s (r ∷ rs) = (record_step policy s r).tells ++ records_tell policy (record_step policy s r).stage rs

tell_ended : (policy rs : List ℕ) → records_tell policy ended rs ≡ []
unfolding records_tell record_step
tell_ended policy [] = refl
tell_ended policy (r ∷ rs) = tell_ended policy rs

tell_rounds : (policy : List ℕ) (s : Session) (ps : List ℕ) → records_tell policy (rounds s) ps ≡ round_events policy s ps
unfolding records_tell record_step round_events run
tell_rounds policy s [] = refl
tell_rounds policy s (p ∷ ps) =
    let o = round policy s (showing p) in
    ap (◌∷◌ (played (showing p) o)) (tell_rounds policy o.session ps)

tell_opened : (policy : List ℕ) (u : Unless Refusal Session) (ps : List ℕ)
    → (opened_step u).tells ++ records_tell policy (opened_step u).stage ps ≡ session_events policy u ps
tell_opened policy (given s) ps = tell_rounds policy s ps
tell_opened policy (withheld f) ps = ap (◌∷◌ (unopened f)) (tell_ended policy ps)

tell_request : (policy : List ℕ) (o : Option W.Refusal) (r : ℕ) (ps : List ℕ)
    → (request_step o r).tells ++ records_tell policy (request_step o r).stage ps ≡ tested_events o policy r ps
tell_request policy none r ps = tell_opened policy (opening r) ps
tell_request policy (some f) r ps = ap (◌∷◌ (unopened (of_policy f))) (tell_ended policy ps)

tell_records : (policy rs : List ℕ) → records_tell policy request rs ≡ records_events policy rs
unfolding records_tell record_step
tell_records policy [] = refl
tell_records policy (r ∷ ps) = tell_request policy (policy_refusal policy) r ps

-- ---- a byte after another

bytes_records : (policy : List ℕ) (s : Stage) (xs : List ℕ)
    → told_by (bytes_run policy (record { stage = s; half = none }) xs) ≡ records_tell policy s (input_records xs)
unfolding records_tell byte_step run flat_map input_records
bytes_records policy s [] = refl
bytes_records policy s (low ∷ []) = refl
bytes_records policy s (low ∷ high ∷ xs) =
    let x = record_step policy s _ in
    ap (◌++◌ x.tells) (bytes_records policy x.stage xs)

pub bytes_events : (file input : List ℕ) → told_by (bytes_run (take policy_bytes file) begun input) ≡ events file input
unfolding events
bytes_events file input =
    bytes_records (take policy_bytes file) request input ∙ tell_records (take policy_bytes file) (input_records input)

pub bytes_output : (file input : List ℕ) → printed_by (bytes_run (take policy_bytes file) begun input) ≡ output file input
unfolding output
bytes_output file input = ap printed (bytes_events file input)

-- ---- reads

after : List ℕ → Reader → List ℕ → Reader
after policy r xs = reached (λ (x : Step). x.reader) r (last (bytes_run policy r xs))

after_next : (policy : List ℕ) (r : Reader) (x : ℕ) (xs : List ℕ) → after policy r (x ∷ xs) ≡ after policy (byte_step policy r x).reader xs
unfolding run after
after_next policy r x xs =
    reached_next (λ (y : Step). y.reader) r (record { takes = x; gives = byte_step policy r x }) (bytes_run policy (byte_step policy r x).reader xs)

bytes_more : (policy : List ℕ) (r : Reader) (xs ys : List ℕ)
    → told_by (bytes_run policy r (xs ++ ys)) ≡ told_by (bytes_run policy r xs) ++ told_by (bytes_run policy (after policy r xs) ys)
unfolding run flat_map after last
bytes_more policy r [] ys = refl
bytes_more policy r (x ∷ xs) ys =
    let s = byte_step policy r x in
    let now = told_by (bytes_run policy s.reader xs) in
    let later : Reader → List Event = λ q. told_by (bytes_run policy q ys) in
    ap (◌++◌ s.tells) (bytes_more policy s.reader xs ys)
    ∙ sym (append_assoc s.tells now (later (after policy s.reader xs)))
    ∙ ap (λ (q : Reader). (s.tells ++ now) ++ later q) (sym (after_next policy r x xs))

reads_bytes : (policy : List ℕ) (r : Reader) (rs : List (List ℕ)) → told_by (reads_run policy r rs) ≡ told_by (bytes_run policy r (flatten rs))
unfolding run flat_map flatten read_step after
reads_bytes policy r [] = refl
reads_bytes policy r (xs ∷ rs) =
    ap (◌++◌ (told_by (bytes_run policy r xs))) (reads_bytes policy (after policy r xs) rs) ∙ sym (bytes_more policy r xs (flatten rs))

pub reads_output : (file : List ℕ) (rs : List (List ℕ)) → printed_by (reads_run (take policy_bytes file) begun rs) ≡ output file (flatten rs)
reads_output file rs = ap printed (reads_bytes (take policy_bytes file) begun rs) ∙ bytes_output file (flatten rs)

-- what is told stays
pub events_more : (file xs ys : List ℕ) → (es : List Event) × (events file (xs ++ ys) ≡ events file xs ++ es)
events_more file xs ys =
    let policy = take policy_bytes file in
    let es = told_by (bytes_run policy (after policy begun xs) ys) in
    (es, sym (bytes_events file (xs ++ ys)) ∙ bytes_more policy begun xs ys ∙ ap (λ (o : List Event). o ++ es) (bytes_events file xs))

-- and so what is printed
pub output_more : (file xs ys : List ℕ) → (zs : List ℕ) × (output file (xs ++ ys) ≡ output file xs ++ zs)
unfolding output
output_more file xs ys =
    let (es, e) = events_more file xs ys in
    (printed es, ap printed e ∙ printed_more (events file xs) es)

-- ---- the end

-- nothing is told once the output has ended, with half a record read or not
ended_untold : (policy : List ℕ) (r : Reader) → is_ended r ≡ true → (xs : List ℕ) → told_by (bytes_run policy r xs) ≡ []
unfolding run flat_map byte_step record_step
ended_untold policy r e xs = go r.stage r.half e xs
  where
    go : (s : Stage) (h : Option ℕ) → is_ended_stage s ≡ true → (ys : List ℕ) → told_by (bytes_run policy (record { stage = s; half = h }) ys) ≡ []
    go request h i ys = absurd (false≢true i)
    go (rounds s) h i ys = absurd (false≢true i)
    go ended h i [] = refl
    go ended none i (y ∷ ys) = go ended (some y) refl ys
    go ended (some x) i (y ∷ ys) = go ended none refl ys

-- and so nothing is printed
pub ended_nothing : (policy : List ℕ) (r : Reader) → is_ended r ≡ true → (xs : List ℕ) → printed_by (bytes_run policy r xs) ≡ []
unfolding printed flat_map
ended_nothing policy r e xs = ap printed (ended_untold policy r e xs)

pub events_stop : (file xs ys : List ℕ) → is_ended (read_step (take policy_bytes file) begun xs).reader ≡ true
    → events file (xs ++ ys) ≡ events file xs
unfolding read_step after
events_stop file xs ys e =
    let policy = take policy_bytes file in
    let q = after policy begun xs in
    sym (bytes_events file (xs ++ ys))
    ∙ bytes_more policy begun xs ys
    ∙ ap (◌++◌ (told_by (bytes_run policy begun xs))) (ended_untold policy q e ys)
    ∙ append-nil (told_by (bytes_run policy begun xs))
    ∙ bytes_events file xs

pub output_stops : (file xs ys : List ℕ) → is_ended (read_step (take policy_bytes file) begun xs).reader ≡ true
    → output file (xs ++ ys) ≡ output file xs
unfolding output
output_stops file xs ys e = ap printed (events_stop file xs ys e)

-- a line has its end at least, and so has what begins with a line
line_some : (xs ys : List ℕ) → line xs ++ ys ≡ [] → ⊥
line_some [] ys e = let z : ◌≡◌ {A = ℕ} 0 1 = cc in omega arith
line_some (x ∷ xs) ys e = let z : ◌≡◌ {A = ℕ} 0 1 = cc in omega arith

-- an event is printed
event_some : (x : Event) (es : List Event) → printed (x ∷ es) ≡ [] → ⊥
unfolding printed flat_map refused_line round_line
event_some (unopened f) es e = line_some (refused_text f) (printed es) e
event_some (played m o) es e = line_some (answer_text o.session.count m o.answer) (printed es) e

-- a request that is no service is answered
request_some : (policy : List ℕ) (r : ℕ) → (Service r → ⊥) → printed ((record_step policy request r).tells ++ []) ≡ [] → ⊥
unfolding record_step
request_some policy r h e = go (policy_refusal policy) e
  where
    go : (o : Option W.Refusal) → printed ((request_step o r).tells ++ []) ≡ [] → ⊥
    go none i = event_some (unopened (number 7)) [] (sym (ap (λ (u : Unless Refusal Session). printed ((opened_step u).tells ++ [])) (opening_withheld r h)) ∙ i)
    go (some f) i = event_some (unopened (of_policy f)) [] i

-- and so is every round
round_some : (policy : List ℕ) (s : Session) (p : ℕ) → printed ((record_step policy (rounds s) p).tells ++ []) ≡ [] → ⊥
unfolding record_step
round_some policy s p e = event_some (played (showing p) (round policy s (showing p))) [] e

far : (x : ℕ) → Service (little_endian (x ∷ 1 ∷ [])) → ⊥
unfolding little_endian
far x (_, l) = omega (arith, l)

pub nothing_ended : (policy : List ℕ) (r : Reader) → ((xs : List ℕ) → printed_by (bytes_run policy r xs) ≡ []) → is_ended r ≡ true
unfolding run flat_map byte_step
nothing_ended policy r f = go r.stage r.half f
  where
    go : (s : Stage) (h : Option ℕ) → ((ys : List ℕ) → printed_by (bytes_run policy (record { stage = s; half = h }) ys) ≡ []) → is_ended_stage s ≡ true
    go request none g = absurd (request_some policy (little_endian (0 ∷ 1 ∷ [])) (far 0) (g (0 ∷ 1 ∷ [])))
    go request (some x) g = absurd (request_some policy (little_endian (x ∷ 1 ∷ [])) (far x) (g (1 ∷ [])))
    go (rounds s) none g = absurd (round_some policy s (little_endian (0 ∷ 1 ∷ [])) (g (0 ∷ 1 ∷ [])))
    go (rounds s) (some x) g = absurd (round_some policy s (little_endian (x ∷ 1 ∷ [])) (g (1 ∷ [])))
    go ended h g = refl
