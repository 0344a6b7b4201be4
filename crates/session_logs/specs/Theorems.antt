-- The theorems of a session's log. Assumes nothing.
use Rattle.std.specs.Prelude.{◌≡◌, ◌≢◌, List, [], ◌∷◌, ◌++◌, map, ◌%◌, ◌+◌, ◌/◌, ◌<◌, ◌^◌, suc, ℕ, get_or, length, take}
use Rattle.std.proofs.Math.Option.{Option, none, some}
use Rattle.encoding.specs.LittleEndian.{Bytes}
use Rattle.lists.specs.Lists.{Every}
use Rattle.lists.specs.Runs.{Turn}
use Rattle.validation.specs.Unless.{given, withheld}
use Rattle.preference.specs.Question.{Question}
use Rattle.rounds.specs.Endings.{Ending, ask, deny, grant}
use Rattle.rounds.specs.Moves.{Move, showing}
use Rattle.rounds.specs.Refusals.{Refusal}
use Rattle.rounds.specs.Rounds.{Answer, Outcome, ends, opening, refused, round, rounds_of}
use Rattle.rounds.specs.Sessions.{Session, opened}
use Rattle.demands.specs.Lists.{accepted_of}
use Rattle.marked.specs.Marked.{policy_a}
use Rattle.packing.specs.Exports.{Call, round_call}
use Rattle.packing.specs.Packed.{unpacked}
use Rattle.logs.specs.Comparison.{compared}
use Rattle.logs.specs.LogForm.{SoundLog}
use Rattle.session_logs.specs.Exports.{comparison_reply, place_after, record_call}
use Rattle.session_logs.specs.Implementations.{BreaksBy, ImplementationsCompared, Said, endings_of, said_of}
use Rattle.session_logs.specs.RoundRecords.{round_record}
use Rattle.session_logs.specs.SessionLogs.{LogSays, log_of}

-- ---- a round

-- the numbers that a record has room for
pub record Recordable (m : Move) (o : Outcome) : Type 0 where
  pub shows : m.shows < 2 ^ 16
  pub asks : (q : Question) → o.answer ≡ ends (ask q) → q.asks < 2 ^ 16
  pub count : o.session.count < 256

-- o is the record of a round, byte by byte
pub record RecordBytes (m : Move) (a : Answer) (n : ℕ) (o : Option (List ℕ)) : Type 0 where
  pub grants : a ≡ ends grant → o ≡ some (m.shows % 256 ∷ m.shows / 256 % 256 ∷ 1 ∷ 0 ∷ 0 ∷ n ∷ 0 ∷ 0 ∷ [])
  pub denies : a ≡ ends deny → o ≡ some (m.shows % 256 ∷ m.shows / 256 % 256 ∷ 2 ∷ 0 ∷ 0 ∷ n ∷ 0 ∷ 0 ∷ [])
  pub asks : (q : Question) → a ≡ ends (ask q)
      → o ≡ some (m.shows % 256 ∷ m.shows / 256 % 256 ∷ 3 ∷ q.asks % 256 ∷ q.asks / 256 % 256 ∷ n ∷ 0 ∷ 0 ∷ [])
  -- "Each accepted round gives its record": a refused one gives none
  pub refuses : (f : Refusal) → a ≡ refused f → o ≡ none

-- rounds with the same record showed the same, ended in the same way and have the same count
pub record SameRound (m : Move) (o : Outcome) (n : Move) (p : Outcome) : Type 0 where
  pub shows : m ≡ n
  pub answers : o.answer ≡ p.answer
  pub counts : o.session.count ≡ p.session.count

-- ---- lists of rounds

-- a list of rounds with what is needed to say that document 01 defines them
pub record Played (bytes : List ℕ) (r : ℕ) (s : Session) (ms : List Move) : Type 0 where
  pub fits : Bytes bytes
  pub opened : opening r ≡ given s
  pub shown : Every (λ m. m.shows < 2 ^ 16) ms

-- ---- from C

-- eight bytes are written, or none and all is left as it was
pub record Recorded (o : Option (List ℕ)) (room : List ℕ) (c : Call) : Type 0 where
  pub written : (bs : List ℕ) → o ≡ some bs → c ≡ record { reply = 8; leaves = bs }
  pub unwritten : o ≡ none → c ≡ record { reply = 0; leaves = room }

pub record ExportTheorems : Type 0 where
  -- the record of a round, from the reply of gate_round and the session that it left: eight bytes are written, and none where the round was refused
  pub round_record_lem : (policy before : List ℕ) → Bytes policy → Bytes before → length before ≡ 10 → (s : Session) (m : Move) → unpacked before ≡ some s
      → (room : List ℕ) → (let c = round_call policy before m.shows in
      Recorded (round_record m (round policy s m)) room (record_call m.shows c.reply c.leaves room))
  -- what is no session has none
  pub no_session : (policy before : List ℕ) → Bytes policy → (p : ℕ) → unpacked before ≡ none → (room : List ℕ)
      → (let c = round_call policy before p in record_call p c.reply c.leaves room ≡ record { reply = 0; leaves = room })
  -- whatever is handed in, a record that is written passes the test of logs
  pub sound : (p x : ℕ) (session room : List ℕ) → p < 2 ^ 16 → Bytes session → (record_call p x session room).reply ≢ 0
      → SoundLog (record_call p x session room).leaves
  -- which: by the reply, byte by byte; a question that asks for nothing and any other reply have none
  pub granted : (p : ℕ) (session room : List ℕ) → p < 2 ^ 16 → record_call p 0x0100 session room
      ≡ record { reply = 8; leaves = p % 256 ∷ p / 256 ∷ 1 ∷ 0 ∷ 0 ∷ get_or session 6 0 ∷ 0 ∷ 0 ∷ [] }
  pub denied : (p : ℕ) (session room : List ℕ) → p < 2 ^ 16 → record_call p 0x0200 session room
      ≡ record { reply = 8; leaves = p % 256 ∷ p / 256 ∷ 2 ∷ 0 ∷ 0 ∷ get_or session 6 0 ∷ 0 ∷ 0 ∷ [] }
  pub asked : (p a b : ℕ) (session room : List ℕ) → p < 2 ^ 16 → a < 256 → b < 256 → get_or session 8 0 ≡ a → get_or session 9 0 ≡ b → a + b ≢ 0
      → record_call p 0x0300 session room ≡ record { reply = 8; leaves = p % 256 ∷ p / 256 ∷ 3 ∷ a ∷ b ∷ get_or session 6 0 ∷ 0 ∷ 0 ∷ [] }
  pub asked_nothing : (p : ℕ) (session room : List ℕ) → get_or session 8 0 ≡ 0 → get_or session 9 0 ≡ 0
      → record_call p 0x0300 session room ≡ record { reply = 0; leaves = room }
  pub others : (p x : ℕ) (session room : List ℕ) → x ≢ 0x0100 → x ≢ 0x0200 → x ≢ 0x0300
      → record_call p x session room ≡ record { reply = 0; leaves = room }
  -- the comparison: 0, or 0x0400 and the record where the logs part, or the refusal's number
  pub agreement : (before : ℕ) → (comparison_reply (given none) ≡ 0) × (place_after (given none) before ≡ before)
  pub parts : (k before : ℕ) → (comparison_reply (given (some k)) ≡ 0x0400) × (place_after (given (some k)) before ≡ k)
  pub refuses : (n before : ℕ) → (comparison_reply (withheld n) ≡ n) × (place_after (withheld n) before ≡ before)

pub record Theorems : Type 0 where
  pub records : (m : Move) (o : Outcome) → RecordBytes m o.answer o.session.count (round_record m o)
  pub different : (m n : Move) (o p : Outcome) → Recordable m o → Recordable n p → (bs : List ℕ) → round_record m o ≡ some bs → round_record n p ≡ some bs
      → SameRound m o n p
  -- of no round no log, and of one more its record, if it has one, and those of the others
  pub no_round : log_of [] ≡ []
  pub one_accepted : (t : Turn Move Outcome) (ts : List (Turn Move Outcome)) (bs : List ℕ) → round_record t.takes t.gives ≡ some bs
      → log_of (t ∷ ts) ≡ bs ++ log_of ts
  pub one_refused : (t : Turn Move Outcome) (ts : List (Turn Move Outcome)) (f : Refusal) → t.gives.answer ≡ refused f → log_of (t ∷ ts) ≡ log_of ts
  -- the log of a list of rounds
  pub says : (bytes : List ℕ) (r : ℕ) (s : Session) (ms : List Move) → Played bytes r s ms → LogSays (rounds_of bytes s ms)
  -- two implementations
  pub implementations : (bytes : List ℕ) (r : ℕ) (s : Session) (ms : List Move) → Played bytes r s ms
      → (ts us : List (Turn Move Outcome)) → ImplementationsCompared (rounds_of bytes s ms) ts us
  -- one of them is right, as ours is: where the other's log parts from it at record k, the other breaks document 01 in round k + 1 or before
  pub ours : (bytes : List ℕ) (r : ℕ) (s : Session) (ms : List Move) → Played bytes r s ms
      → (us : List (Turn Move Outcome)) (k : ℕ) → compared (log_of (rounds_of bytes s ms)) (log_of us) ≡ given (some k)
      → BreaksBy (rounds_of bytes s ms) (suc k) us
  -- and that exactly there: its first k answers are those of document 01, and that of round k + 1 is not, or only one of the two has it
  pub exactly : (bytes : List ℕ) (r : ℕ) (s : Session) (ms : List Move) → Played bytes r s ms
      → (us : List (Turn Move Outcome)) → Every (λ t. Recordable t.takes t.gives) us
      → (k : ℕ) → (let right = said_of (rounds_of bytes s ms) in compared (log_of (rounds_of bytes s ms)) (log_of us) ≡ given (some k)
      → (endings_of (take k (said_of us)) ≡ endings_of (take k right)) × (endings_of (take (suc k) (said_of us)) ≢ endings_of (take (suc k) right)))
  -- and where the logs of two agree, they answered alike: as many accepted rounds, each ended in the same way and asked for the same
  pub alike : (ts us : List (Turn Move Outcome)) → Every (λ t. Recordable t.takes t.gives) ts → Every (λ t. Recordable t.takes t.gives) us
      → compared (log_of ts) (log_of us) ≡ given none → endings_of (said_of ts) ≡ endings_of (said_of us)
  -- what is said are the accepted rounds, with their counts
  pub said_rounds : (ts : List (Turn Move Outcome)) → map (λ (x : Said). record { takes = x.takes; ended = x.ended }) (said_of ts) ≡ accepted_of ts
  pub said_more : (t : Turn Move Outcome) (ts : List (Turn Move Outcome)) (e : Ending) → t.gives.answer ≡ ends e
      → said_of (t ∷ ts) ≡ record { takes = t.takes; ended = e; count = t.gives.session.count } ∷ said_of ts
  pub exports : ExportTheorems
  -- document 01's case (a): "the three rounds above", with a fourth, which is refused
  pub policy_A : log_of (rounds_of policy_a (opened 16) (map showing (0x0000 ∷ 0x0000 ∷ 0x0003 ∷ 0x0000 ∷ [])))
      ≡ 0x00 ∷ 0x00 ∷ 3 ∷ 0x04 ∷ 0x00 ∷ 1 ∷ 0 ∷ 0
      ∷ 0x00 ∷ 0x00 ∷ 3 ∷ 0x03 ∷ 0x00 ∷ 2 ∷ 0 ∷ 0
      ∷ 0x03 ∷ 0x00 ∷ 1 ∷ 0x00 ∷ 0x00 ∷ 3 ∷ 0 ∷ 0
      ∷ []
