-- Document 01, "Sessions": sessions, and which of them are sound. Assumes nothing.
use Rattle.std.specs.Prelude.{◌≡◌, ◌≢◌, Bool, ◌&&◌, false, not, true, ◌+◌, ◌<◌, ◌^◌, ◌≤◌, ℕ, eqb, leb}
use Rattle.atoms.specs.Atoms.{first_derived, last_derived}
use Rattle.atoms.specs.Sets.{Member, disjoint, empty, size, union}
use Rattle.preference.specs.Question.{Question, no_question}

-- "closed with grant or deny"
pub data Verdict : Type 0 where
  granted denied : Verdict

-- "a phase: fresh, waiting on a question Q, or closed with grant or deny"
pub data Phase : Type 0 where
  fresh : Phase
  waiting : Question → Phase
  closed : Verdict → Phase

-- "A session has a request, shown set P, declined set N, a count of rounds, and a phase"
pub record Session : Type 0 where
  pub request : ℕ
  pub shown : ℕ
  pub declined : ℕ
  pub count : ℕ
  pub phase : Phase

-- "Opening gives a fresh one: P and N empty, count 0."
abbrev pub opened : ℕ → Session
opened r = record { request = r; shown = empty; declined = empty; count = 0; phase = fresh }

-- "(Q is empty when fresh)"; a closed session waits on nothing either
abbrev pub question : Phase → Question
question fresh = no_question
question (waiting q) = q
question (closed v) = no_question

-- the sets of a session are sets of credentials: "a set of credentials is a 16-bit number"
pub record SixteenBit (s : Session) : Type 0 where
  pub shown : s.shown < 2 ^ 16
  pub declined : s.declined < 2 ^ 16
  pub asks : (question s.phase).asks < 2 ^ 16

-- ---- soundness

-- "the request is 16 to 62"
abbrev pub Service : ℕ → Type 0
Service r = (first_derived ≤ r) × (r ≤ last_derived)

-- "fresh has P, N empty and count 0"
pub record Untouched (s : Session) : Type 0 where
  pub shown : s.shown ≡ empty
  pub declined : s.declined ≡ empty
  pub count : s.count ≡ 0

-- "count from 1 to 1 plus the ones in P joined with N"
pub record CountInRange (s : Session) : Type 0 where
  pub least : 1 ≤ s.count
  pub most : s.count ≤ 1 + size (union s.shown s.declined)

-- "Q not empty, sharing nothing with P or N"
pub record SoundQuestion (s : Session) (q : Question) : Type 0 where
  pub not_empty : q.asks ≢ empty
  pub unshown : (k : ℕ) → Member k q.asks → Member k s.shown → ⊥
  pub undeclined : (k : ℕ) → Member k q.asks → Member k s.declined → ⊥

-- "fresh has P, N empty and count 0; waiting has Q not empty, sharing nothing with P or N, and count from 1 to 1 plus the ones in P joined with N;
-- closed has count in that same range"
abbrev pub SoundPhase : Session → Phase → Type 0
SoundPhase s fresh = Untouched s
SoundPhase s (waiting q) = SoundQuestion s q × CountInRange s
SoundPhase s (closed v) = CountInRange s

-- "A session is sound if"
pub record SoundSession (s : Session) : Type 0 where
  pub service : Service s.request
  pub phase : SoundPhase s s.phase

-- "closed with grant or deny"
abbrev pub Finished : Session → Type 0
Finished s = (v : Verdict) × (s.phase ≡ closed v)

-- ---- the same as tests

abbrev pub is_service : ℕ → Bool
is_service r = leb first_derived r && leb r last_derived

abbrev pub count_test : Session → Bool
count_test s = leb 1 s.count && leb s.count (1 + size (union s.shown s.declined))

abbrev pub question_test : Session → Question → Bool
question_test s q = not (eqb q.asks empty) && disjoint q.asks (union s.shown s.declined)

abbrev pub phase_test : Session → Phase → Bool
phase_test s fresh = eqb s.shown empty && eqb s.declined empty && eqb s.count 0
phase_test s (waiting q) = question_test s q && count_test s
phase_test s (closed v) = count_test s

abbrev pub is_sound : Session → Bool
is_sound s = is_service s.request && phase_test s s.phase

abbrev pub is_closed : Phase → Bool
is_closed fresh = false
is_closed (waiting q) = false
is_closed (closed v) = true
