-- The theorems of the C interface: the record, the replies, and demand 3 of a list of calls. Assumes nothing.
use Rattle.std.specs.Prelude.{◌≡◌, ◌↔◌, ◌≢◌, List, [], ◌∷◌, map, ◌%◌, ◌*◌, ◌+◌, ◌/◌, ◌<◌, ◌^◌, ℕ, get_or, length}
use Rattle.std.proofs.Math.Option.{none, some}
use Rattle.encoding.specs.LittleEndian.{Bytes}
use Rattle.lists.specs.Lists.{Every}
use Rattle.lists.specs.Runs.{Turn}
use Rattle.validation.specs.Unless.{given, withheld}
use Rattle.form.specs.WrittenForm as W
use Rattle.preference.specs.Question.{Question}
use Rattle.rounds.specs.Endings.{ask, deny, grant}
use Rattle.rounds.specs.Moves.{Move}
use Rattle.rounds.specs.Refusals.{Refusal, number, of_policy}
use Rattle.rounds.specs.Rounds.{Answer, Outcome, ends, refused, round}
use Rattle.rounds.specs.Sessions.{Service, Session, closed, denied, fresh, granted, opened, waiting}
use Rattle.demands.specs.Demand3.{Demand3}
use Rattle.demands.specs.Promises.{Visit, under, visits_of}
use Rattle.packing.specs.Examples.{Examples}
use Rattle.packing.specs.Exports.{Call, calls_from, check_reply, open_call, round_call, set_after, set_reply}
use Rattle.packing.specs.Packed.{Packable, packed, unpacked}

-- include/gate.h's number for a round's answer: byte 0 a refusal's number, byte 1 its record's number or 1 grant, 2 deny, 3 ask
abbrev pub reply_for : Answer → ℕ
reply_for (ends grant) = 0x0100
reply_for (ends deny) = 0x0200
reply_for (ends (ask q)) = 0x0300
reply_for (refused (of_policy f)) = W.refusal_number f + 0x100 * W.record_number f
reply_for (refused (number n)) = n

-- what include/gate.h's macros read of a reply that is a refusal: GATE_REFUSAL and GATE_RECORD
abbrev pub ToldRefusal : Refusal → ℕ → Type 0
ToldRefusal (of_policy f) x = (x % 256 ≡ W.refusal_number f) × (x / 256 % 256 ≡ W.record_number f)
ToldRefusal (number n) x = x % 256 ≡ n

-- and of a round's reply that is no refusal: GATE_REFUSAL and GATE_ENDING
abbrev pub ToldEnding : ℕ → ℕ → Type 0
ToldEnding n x = (x % 256 ≡ 0) × (x / 256 % 256 ≡ n)

-- what include/gate.h's macro GATE_ASKED reads of a session's bytes
abbrev pub asked_in : List ℕ → ℕ
asked_in bytes = get_or bytes 8 0 + 256 * get_or bytes 9 0

-- what these macros read of the reply and of the session's bytes: which answer it is
abbrev pub Told : Answer → Call → Type 0
Told (ends grant) c = ToldEnding 1 c.reply
Told (ends deny) c = ToldEnding 2 c.reply
Told (ends (ask q)) c = ToldEnding 3 c.reply × (asked_in c.leaves ≡ q.asks)
Told (refused f) c = (c.reply % 256 ≢ 0) × ToldRefusal f c.reply

-- include/gate.h's layout of a session: request, shown set, declined set, count, phase, question
abbrev pub ten_bytes : ℕ → ℕ → ℕ → ℕ → ℕ → ℕ → List ℕ
ten_bytes r P N n t q = r % 256 ∷ r / 256 ∷ P % 256 ∷ P / 256 ∷ N % 256 ∷ N / 256 ∷ n ∷ t ∷ q % 256 ∷ q / 256 ∷ []

-- what a round comes to as a call
abbrev pub call_of : Outcome → Call
call_of o = record { reply = reply_for o.answer; leaves = packed o.session }

-- Demand 3 of a list of calls: opening has replied 0 for the request, and gate_round was called for each p of the list, a u16, on the record that
-- opening left. Replies and records are those of rounds that meet demand 3.
abbrev pub CallsMeetDemand3 : Type 0
CallsMeetDemand3 =
    (policy : List ℕ) → Bytes policy → W.WellFormed policy → (r : ℕ) (before : List ℕ) → (open_call r before).reply ≡ 0
    → (ms : List Move) → Every (λ m. m.shows < 2 ^ 16) ms
    → (ts : List (Turn Move Outcome))
    × Demand3 policy r (opened r) ms ts
    × (calls_from (open_call r before).leaves (map (under policy) ms) ≡ map (λ (t : Turn Move Outcome). call_of t.gives) ts)

pub record Theorems : Type 0 where
  -- ---- the record of ten bytes

  -- ten bytes stand for a session exactly where they are its bytes
  pub stands : (bytes : List ℕ) → Bytes bytes → length bytes ≡ 10 → (s : Session) → (unpacked bytes ≡ some s) ↔ (packed s ≡ bytes)
  -- a session's bytes are ten bytes
  pub fits : (s : Session) → Packable s → Bytes (packed s) × (length (packed s) ≡ 10)
  -- which: phase 0 fresh, 1 waiting, 2 closed with grant, 3 closed with deny
  pub fresh_bytes : (r P N n : ℕ) → packed (record { request = r; shown = P; declined = N; count = n; phase = fresh }) ≡ ten_bytes r P N n 0 0
  pub waiting_bytes : (r P N n : ℕ) (q : Question)
      → packed (record { request = r; shown = P; declined = N; count = n; phase = waiting q }) ≡ ten_bytes r P N n 1 q.asks
  pub granted_bytes : (r P N n : ℕ)
      → packed (record { request = r; shown = P; declined = N; count = n; phase = closed granted }) ≡ ten_bytes r P N n 2 0
  pub denied_bytes : (r P N n : ℕ)
      → packed (record { request = r; shown = P; declined = N; count = n; phase = closed denied }) ≡ ten_bytes r P N n 3 0
  -- ---- the policy's test: 0, or the refusal's number and the record's

  pub accepts : (policy : List ℕ) → Bytes policy → (check_reply policy ≡ 0) ↔ W.WellFormed policy
  pub refuses : (policy : List ℕ) → Bytes policy → (f : W.Refusal) → W.PolicyRefused policy f
      → check_reply policy ≡ W.refusal_number f + 0x100 * W.record_number f
  -- ---- sets: 0 and the set; or the policy's refusal, and what was there before

  pub given : (S before : ℕ) → (set_reply (given S) ≡ 0) × (set_after (given S) before ≡ S)
  pub ungiven : (f : W.Refusal) (before : ℕ)
      → (set_reply (withheld f) ≡ W.refusal_number f + 0x100 * W.record_number f) × (set_after (withheld f) before ≡ before)
  -- ---- opening: a fresh session, or 7 and the record as it was

  pub opens : (r : ℕ) (before : List ℕ) → Service r → open_call r before ≡ record { reply = 0; leaves = packed (opened r) }
  pub unopened : (r : ℕ) (before : List ℕ) → (Service r → ⊥) → open_call r before ≡ record { reply = 7; leaves = before }
  -- ---- a round

  -- of the session that the bytes stand for
  pub plays : (policy before : List ℕ) → Bytes before → length before ≡ 10 → (s : Session) (m : Move) → unpacked before ≡ some s
      → round_call policy before m.shows ≡ call_of (round policy s m)
  -- ten bytes that are no session are refused 8 and left as they were, after the policy's test
  pub no_session : (policy : List ℕ) → Bytes policy → W.WellFormed policy → (before : List ℕ) (p : ℕ) → unpacked before ≡ none
      → round_call policy before p ≡ record { reply = 8; leaves = before }
  pub untested : (policy : List ℕ) → Bytes policy → (f : W.Refusal) → W.PolicyRefused policy f → (before : List ℕ) (p : ℕ) → unpacked before ≡ none
      → round_call policy before p ≡ record { reply = W.refusal_number f + 0x100 * W.record_number f; leaves = before }
  -- a refused round leaves the record as it was
  pub left : (policy before : List ℕ) (p : ℕ) → (round_call policy before p).reply % 256 ≢ 0 → (round_call policy before p).leaves ≡ before
  -- each answer can be read off the reply and the record that is left
  pub told : (policy : List ℕ) → Bytes policy → (s : Session) (m : Move)
      → Told (round policy s m).answer (call_of (round policy s m))
  -- ---- calls one after another

  -- any list of them, with policies changed between, is the list of rounds that the papers define
  pub calls : (s : Session) (vs : List Visit) → calls_from (packed s) vs ≡ map (λ (t : Turn Visit Outcome). call_of t.gives) (visits_of s vs)
  pub demand3 : CallsMeetDemand3
  -- document 01's cases, byte for byte
  pub examples : Examples
