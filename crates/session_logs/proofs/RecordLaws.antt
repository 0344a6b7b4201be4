-- The record of a round, byte by byte, and that different rounds have different ones. Assumes nothing.
use mathlib.Core.Path.{◌∙◌, ◌≡◌, ap, refl, sym}
use mathlib.Core.List.{List, ◌++◌, ◌∷◌, flat_map}
use mathlib.Core.Option.{map, none, some}
use Prim.Native.Nat.{◌<◌, ◌^◌, ℕ}
use native.Mathlib.Omega.{arith}
use Rattle.encoding.specs.LittleEndian.{bytes_of}
use Rattle.lists.specs.Runs.{Turn}
use Rattle.rounds.specs.Endings.{Ending, ask, deny, grant}
use Rattle.rounds.specs.Moves.{Move}
use Rattle.rounds.specs.Refusals.{Refusal}
use Rattle.rounds.specs.Rounds.{Answer, Outcome, ends, refused}
use Rattle.rounds.proofs.AnswerLaws.{clash}
use Rattle.demands.specs.Lists.{question_in}
use Rattle.logs.specs.Entries.{Entry, read_entry, write_entry}
use Rattle.logs.specs.Theorems.{FitsEntry}
use Rattle.logs.proofs.EntryLaws.{read_back}
use Rattle.session_logs.specs.RoundRecords.{answer_entry, ending_entry, round_record}
use Rattle.session_logs.specs.SessionLogs.{bytes_in, log_of}
use Rattle.session_logs.specs.Theorems.{RecordBytes, Recordable, SameRound}
use Rattle.session_logs.proofs.SaidLaws.{ending_fits, same_ending}

-- a recordable round's record fits
asked_small : (m : Move) (o : Outcome) → Recordable m o → (e : Ending) → o.answer ≡ ends e → (question_in e).asks < 2 ^ 16
asked_small m o r grant a = omega arith
asked_small m o r deny a = omega arith
asked_small m o r (ask q) a = r.asks q a

pub recordable_fits : (m : Move) (o : Outcome) → Recordable m o → (e : Ending) → o.answer ≡ ends e → FitsEntry (ending_entry m e o.session.count)
recordable_fits m o r e a = ending_fits m r.shows e o.session.count r.count (asked_small m o r e a)

recorded : (m : Move) (o : Outcome) (e : Ending) → o.answer ≡ ends e → round_record m o ≡ some (write_entry (ending_entry m e o.session.count))
unfolding round_record
recorded m o e a = ap (λ (x : Answer). map write_entry (answer_entry m x o.session.count)) a

pub unrecorded : (m : Move) (o : Outcome) (f : Refusal) → o.answer ≡ refused f → round_record m o ≡ none
unfolding round_record
unrecorded m o f a = ap (λ (x : Answer). map write_entry (answer_entry m x o.session.count)) a

pub record_bytes : (m : Move) (o : Outcome) → RecordBytes m o.answer o.session.count (round_record m o)
unfolding write_entry bytes_of
record_bytes m o = record {
  grants = recorded m o grant;
  denies = recorded m o deny;
  asks = λ q. recorded m o (ask q);
  refuses = unrecorded m o;
}

-- ---- different rounds

some_one : (xs ys : List ℕ) → some xs ≡ some ys → xs ≡ ys
some_one xs ys e = cc

-- an accepted round, with what its record is
record_of : (m : Move) (o : Outcome) (bs : List ℕ) → round_record m o ≡ some bs
    → (e : Ending) × ((o.answer ≡ ends e) × (write_entry (ending_entry m e o.session.count) ≡ bs))
unfolding round_record
record_of m o bs i = go o.answer refl i
  where
    go : (a : Answer) → o.answer ≡ a → map write_entry (answer_entry m a o.session.count) ≡ some bs
        → (e : Ending) × ((o.answer ≡ ends e) × (write_entry (ending_entry m e o.session.count) ≡ bs))
    go (ends e) a h = (e, (a, some_one (write_entry (ending_entry m e o.session.count)) bs h))
    go (refused f) a h = clash (cc)

pub different : (m n : Move) (o p : Outcome) → Recordable m o → Recordable n p → (bs : List ℕ) → round_record m o ≡ some bs → round_record n p ≡ some bs
    → SameRound m o n p
different m n o p r s bs i j =
    let (d, (a, x)) = record_of m o bs i in
    let (e, (b, y)) = record_of n p bs j in
    let same : ending_entry m d o.session.count ≡ ending_entry n e p.session.count =
    sym (read_back (ending_entry m d o.session.count) (recordable_fits m o r d a))
    ∙ ap (λ (w : List ℕ). read_entry w) (x ∙ sym y)
    ∙ read_back (ending_entry n e p.session.count) (recordable_fits n p s e b)
    in
    record {
      shows = ap (λ (w : Entry). record { shows = w.shown }) same;
      answers = a ∙ ap ends (same_ending d e (ap (λ (w : Entry). w.answer) same) (ap (λ (w : Entry). w.asked) same)) ∙ sym b;
      counts = ap (λ (w : Entry). w.count) same;
    }

-- ---- the log, a round at a time

pub one_accepted : (t : Turn Move Outcome) (ts : List (Turn Move Outcome)) (bs : List ℕ) → round_record t.takes t.gives ≡ some bs
    → log_of (t ∷ ts) ≡ bs ++ log_of ts
unfolding log_of flat_map
one_accepted t ts bs e = ap (λ o. bytes_in o ++ log_of ts) e

pub one_refused : (t : Turn Move Outcome) (ts : List (Turn Move Outcome)) (f : Refusal) → t.gives.answer ≡ refused f → log_of (t ∷ ts) ≡ log_of ts
unfolding log_of flat_map
one_refused t ts f e = ap (λ o. bytes_in o ++ log_of ts) (unrecorded t.takes t.gives f e)
