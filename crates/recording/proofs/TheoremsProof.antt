-- The theorems of specs/Theorems: by what there is to tell. Assumes nothing.
use mathlib.Core.Path.{◌∙◌, ◌≡◌, ap, ap₂, refl, sym}
use mathlib.Core.List.{List, [], ◌++◌, ◌∷◌, append_assoc, flat_map, map}
use Prim.Native.Nat.{◌*◌, ◌+◌, ℕ}
use lib.ListN.{take}
use Rattle.lists.specs.Runs.{Turn}
use Rattle.rounds.specs.Moves.{Move, showing}
use Rattle.rounds.specs.Refusals.{Refusal, number, of_policy}
use Rattle.rounds.specs.Rounds.{Outcome, rounds_of}
use Rattle.rounds.specs.Sessions.{Session, opened}
use Rattle.transcript.specs.Events.{Event, events, input_records, played, round_events, unopened}
use Rattle.transcript.proofs.TheoremsProof as transcript
use Rattle.session_logs.specs.RoundRecords.{round_record}
use Rattle.session_logs.specs.SessionLogs.{bytes_in, log_of}
use Rattle.console.proofs.TheoremsProof as console
use Rattle.console.specs.Calls.{told_in}
use Rattle.console.specs.Steps.{events_of}
use Rattle.recording.specs.Recording.{event_notice, event_record, logged, noticed}
use Rattle.recording.specs.Theorems.{Theorems, Writes}
use Rattle.recording.specs.Written.{Writing, Writings, calls_of, log_in, notice_in}
use Rattle.recording.proofs.WrittenLaws.{one_noticed}

-- what is written of these events
by_events : (file input : List ℕ) (es : List Event) (log notice : List ℕ) → events file input ≡ es
    → logged es ≡ log → noticed es ≡ notice → Writes file input log notice
by_events file input es log notice e l n = record { output = ap logged e ∙ l; error = ap noticed e ∙ n }

abbrev played_one : Turn Move Outcome → Event
played_one t = played t.takes t.gives

rounds_logged : (ts : List (Turn Move Outcome)) → logged (map played_one ts) ≡ log_of ts
unfolding logged log_of flat_map
rounds_logged [] = refl
rounds_logged (t ∷ ts) = ap (◌++◌ (bytes_in (round_record t.takes t.gives))) (rounds_logged ts)

rounds_noticed : (ts : List (Turn Move Outcome)) → noticed (map played_one ts) ≡ []
unfolding noticed flat_map
rounds_noticed [] = refl
rounds_noticed (t ∷ ts) = rounds_noticed ts

one_logged : (f : Refusal) → logged (unopened f ∷ []) ≡ []
unfolding logged flat_map
one_logged f = refl

rounds_written : (policy : List ℕ) (s : Session) (ps : List ℕ)
    → (logged (round_events policy s ps) ≡ log_of (rounds_of policy s (map showing ps))) × (noticed (round_events policy s ps) ≡ [])
unfolding round_events
rounds_written policy s ps = let ts = rounds_of policy s (map showing ps) in (rounds_logged ts, rounds_noticed ts)

none_written : (logged [] ≡ []) × (noticed [] ≡ [])
unfolding logged noticed flat_map
none_written = (refl, refl)

-- what is written of the calls is what is written of what they tell
logged_more : (xs ys : List Event) → logged (xs ++ ys) ≡ logged xs ++ logged ys
unfolding logged flat_map
logged_more [] ys = refl
logged_more (x ∷ xs) ys = ap (◌++◌ (event_record x)) (logged_more xs ys) ∙ sym (append_assoc (event_record x) (logged xs) (logged ys))

noticed_more : (xs ys : List Event) → noticed (xs ++ ys) ≡ noticed xs ++ noticed ys
unfolding noticed flat_map
noticed_more [] ys = refl
noticed_more (x ∷ xs) ys = ap (◌++◌ (event_notice x)) (noticed_more xs ys) ∙ sym (append_assoc (event_notice x) (noticed xs) (noticed ys))

calls_logged : (ws : List Writing) → Writings ws → logged (told_in (calls_of ws)) ≡ log_in ws
unfolding logged flat_map
calls_logged [] h = refl
calls_logged (w ∷ ws) (h, hs) =
    logged_more (events_of w.call.gives.event) (told_in (calls_of ws)) ∙ ap₂ ◌++◌ (sym h.logs) (calls_logged ws hs)

calls_noticed : (ws : List Writing) → Writings ws → noticed (told_in (calls_of ws)) ≡ notice_in ws
unfolding noticed flat_map
calls_noticed [] h = refl
calls_noticed (w ∷ ws) (h, hs) =
    noticed_more (events_of w.call.gives.event) (told_in (calls_of ws)) ∙ ap₂ ◌++◌ (sym h.notices) (calls_noticed ws hs)

pub theorems : Theorems
theorems = record {
  rounds = λ file e low high h rest.
      let (log, notice) = rounds_written (take 2305 file) (opened (low + 256 * high)) (input_records rest) in
      by_events file _ _ _ _ (((transcript.theorems).events file).rounds e low high h rest) log notice;
  refused_policy = λ file f e low high rest.
      let g = of_policy f in
      by_events file _ _ _ _ (((transcript.theorems).events file).refused_policy f e low high rest) (one_logged g) (one_noticed g);
  refused_request = λ file e low high h rest.
      let g = number 7 in
      by_events file _ _ _ _ (((transcript.theorems).events file).refused_request e low high h rest) (one_logged g) (one_noticed g);
  no_request = λ file xs l. by_events file xs [] [] [] (((transcript.theorems).events file).no_request xs l) none_written.0 none_written.1;
  program = λ file r b ws h l.
      by_events file _ _ _ _ (sym ((console.theorems).tells file r b (calls_of ws) h)) (calls_logged ws l) (calls_noticed ws l);
  ends = λ file r b ws h l e ys.
      by_events file _ _ _ _ (sym ((console.theorems).stops file r b (calls_of ws) h e ys).0) (calls_logged ws l) (calls_noticed ws l);
}
