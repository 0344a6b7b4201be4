-- A session as a record of ten bytes, which the C caller lends. Assumes nothing.
use Rattle.std.specs.Prelude.{cond, List, [], ◌∷◌, ◌%◌, ◌*◌, ◌+◌, ◌/◌, ◌<◌, ◌^◌, ℕ, eqb, get_or}
use Rattle.std.proofs.Math.Option.{Option, map, none, some}
use Rattle.rounds.specs.Sessions.{Phase, Session, SixteenBit, closed, denied, fresh, granted, question, waiting}

-- the bytes of a 16-bit number, the lower one first
abbrev pub low : ℕ → ℕ
low n = n % 256

abbrev pub high : ℕ → ℕ
high n = n / 256

-- the number of the two bytes at i
abbrev pub number_at : List ℕ → ℕ → ℕ
number_at bytes i = get_or bytes i 0 + 256 * get_or bytes (i + 1) 0

-- ---- the phase: byte 7

abbrev pub tag : Phase → ℕ
tag fresh = 0
tag (waiting q) = 1
tag (closed granted) = 2
tag (closed denied) = 3

-- a phase that waits on nothing
abbrev pub rest_of : ℕ → Option Phase
rest_of t = cond (eqb t 0) (some fresh) (cond (eqb t 2) (some (closed granted)) (cond (eqb t 3) (some (closed denied)) none))

-- with what bytes 8 and 9 ask for: nothing, unless the phase is waiting
abbrev pub phase_in : ℕ → ℕ → Option Phase
phase_in t q = cond (eqb t 1) (some (waiting (record { asks = q }))) (cond (eqb q 0) (rest_of t) none)

-- ---- the session

-- bytes 0 and 1 are the request, 2 and 3 the shown set, 4 and 5 the declined set, 6 the count, 7 the phase, 8 and 9 the question
abbrev pub packed_as : Session → ℕ → ℕ → List ℕ
packed_as s t q =
    low s.request
    ∷ high s.request
    ∷ low s.shown
    ∷ high s.shown
    ∷ low s.declined
    ∷ high s.declined
    ∷ s.count
    ∷ t
    ∷ low q
    ∷ high q
    ∷ []

unfoldable pub packed : Session → List ℕ
packed s = packed_as s (tag s.phase) (question s.phase).asks

abbrev pub with_phase : List ℕ → Phase → Session
with_phase bytes f = record {
  request = number_at bytes 0;
  shown = number_at bytes 2;
  declined = number_at bytes 4;
  count = get_or bytes 6 0;
  phase = f;
}

-- the session that ten bytes stand for, if they do
unfoldable pub unpacked : List ℕ → Option Session
unpacked bytes = map (with_phase bytes) (phase_in (get_or bytes 7 0) (number_at bytes 8))

-- sessions that the record has room for
pub record Packable (s : Session) : Type 0 where
  pub request : s.request < 2 ^ 16
  pub sets : SixteenBit s
  pub count : s.count < 256
