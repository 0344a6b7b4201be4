-- The theorems of tables for C: the twelve bytes of a slot, a call of gate_open_at, gate_round_at or gate_preview_at, and a list of calls. Assumes nothing.
use Rattle.std.specs.Prelude.{◌≡◌, ◌↔◌, ◌≢◌, ◌⊎◌, List, [], ◌++◌, ◌∷◌, map, ◌%◌, ◌*◌, ◌+◌, ◌<◌, ◌≤◌, ℕ, drop, get_or, length, replicate, take}
use Rattle.std.proofs.Math.Option.{Option, none, some}
use Rattle.encoding.specs.LittleEndian.{Bytes}
use Rattle.lists.specs.Lists.{Every}
use Rattle.form.specs.WrittenForm as W
use Rattle.rounds.specs.Moves.{showing}
use Rattle.rounds.specs.Refusals.{Refusal}
use Rattle.rounds.specs.Endings.{Ending}
use Rattle.rounds.specs.Rounds.{ends, refused}
use Rattle.rounds.specs.Sessions.{Service, Session, opened}
use Rattle.slots.specs.Openings.{Reply, open_at}
use Rattle.slots.specs.RoundsAt.{round_at}
use Rattle.slots.specs.Slots.{Slot, held, slot_at, vacant}
use Rattle.operations.specs.Operations.{Answered, Operation, Step, opening, round, steps_of}
use Rattle.operations.specs.Theorems.{AtMostFour}
use Rattle.previews.specs.Previews.{Preview, preview_at}
use Rattle.packing.specs.Exports.{Call}
use Rattle.packing.specs.Packed.{Packable, packed}
use Rattle.packing.specs.Theorems.{reply_for}
use Rattle.slot_packing.specs.Calls.{open_at_call, preview_at_call, round_at_call}
use Rattle.slot_packing.specs.PackedSlots.{packed_slot, packed_table, unpacked_slot}
use Rattle.slot_packing.specs.TableCalls.{table_calls}

-- slots that twelve bytes have room for: "an owner (one byte) and a session"
abbrev pub PackableSlot : Slot → Type 0
PackableSlot vacant = Unit {0}
PackableSlot (held o s) = (o < 256) × Packable s

-- include/gate.h's number for an opening: 0, or the refusal
abbrev pub open_reply_for : Option Refusal → ℕ
open_reply_for none = 0
open_reply_for (some f) = reply_for (refused f)

-- bytes 12 * i to 12 * i + 11 of a table
abbrev pub twelve_at : List ℕ → ℕ → List ℕ
twelve_at bytes i = take 12 (drop (12 * i) bytes)

-- slot i of the table is one of the first 64, and all its bytes are there
abbrev pub There : List ℕ → ℕ → Type 0
There bytes i = (12 * i + 12 ≤ length bytes) × (i < 64)

-- twelve bytes that stand for no slot
abbrev pub NoSlot : List ℕ → Type 0
NoSlot bytes = (x : Slot) → packed_slot x ≢ bytes

-- a table in which some twelve bytes may be no slot, read as a list in which these are empty; fewer than twelve bytes are left over
pub record Reads (bytes : List ℕ) (xs : List Slot) : Type 0 where
  pub as_many : (12 * length xs ≤ length bytes) × (length bytes < 12 * length xs + 12)
  pub each : (k : ℕ) → k < length xs → (packed_slot (slot_at xs k) ≡ twelve_at bytes k) ⊎ ((slot_at xs k ≡ vacant) × NoSlot (twelve_at bytes k))

-- what a call at slot i never does: change the table's length, or a byte that is not the slot's
pub record OthersKept (before : List ℕ) (i : ℕ) (after : List ℕ) : Type 0 where
  pub as_long : length after ≡ length before
  pub others : (j : ℕ) → (j < 12 * i) ⊎ (12 * i + 12 ≤ j) → get_or after j 0 ≡ get_or before j 0

-- a call on the first 768 bytes, with the others put back
abbrev pub before_others : Call → List ℕ → Call
before_others c rest = record { reply = c.reply; leaves = c.leaves ++ rest }

-- c says what the preview v of a round at slot i of a list gives
pub record Previewed (xs : List Slot) (i : ℕ) (v : Preview) (c : Call) : Type 0 where
  pub answer : c.reply ≡ reply_for v.answer
  -- a session stands in the preview as in a slot, with the owner of the slot
  pub session : (t : Session)
      → (v.session ≡ some t) ↔ ((o : ℕ) × ((s : Session) × ((slot_at xs i ≡ held o s) × (c.leaves ≡ o ∷ 1 ∷ packed t))))
  -- "no session is given"
  pub nothing : (v.session ≡ none) ↔ (c.leaves ≡ replicate 12 0)
  -- include/gate.h's `held` tells which of the two
  pub held_byte : (get_or c.leaves 1 0 ≡ 1) ↔ ((t : Session) × (v.session ≡ some t))

-- what an operation on a list comes to as a call, with what is left over
abbrev pub answered_for : Answered → ℕ
answered_for (opening u) = open_reply_for u
answered_for (round a) = reply_for a

abbrev pub call_for : List ℕ → Reply Answered → Call
call_for rest g = record { reply = answered_for g.answer; leaves = packed_table g.table ++ rest }

-- a table with at most four unfinished sessions of each owner
abbrev pub FourInBytes : List ℕ → Type 0
FourInBytes bytes = (xs : List Slot) × ((rest : List ℕ) × ((bytes ≡ packed_table xs ++ rest) × ((length rest < 12) × AtMostFour xs)))

pub record Theorems : Type 0 where
  -- ---- twelve bytes

  -- they stand for a slot exactly where they are its bytes
  pub stands : (bytes : List ℕ) → Bytes bytes → (x : Slot) → (unpacked_slot bytes ≡ some x) ↔ (packed_slot x ≡ bytes)
  -- a slot's bytes are twelve bytes
  pub fits : (x : Slot) → PackableSlot x → Bytes (packed_slot x) × (length (packed_slot x) ≡ 12)
  -- which
  pub empty_bytes : packed_slot vacant ≡ 0 ∷ 0 ∷ 0 ∷ 0 ∷ 0 ∷ 0 ∷ 0 ∷ 0 ∷ 0 ∷ 0 ∷ 0 ∷ 0 ∷ []
  pub held_bytes : (o : ℕ) (s : Session) → packed_slot (held o s) ≡ o ∷ 1 ∷ packed s
  -- and those of a list, slot by slot
  pub no_bytes : packed_table [] ≡ []
  pub table_bytes : (x : Slot) (xs : List Slot) → packed_table (x ∷ xs) ≡ packed_slot x ++ packed_table xs
  -- ---- a table of slots, with fewer than twelve bytes left over: reply and table are those of the list

  pub opening : (xs : List Slot) (rest : List ℕ) → length rest < 12 → (i o r : ℕ) → open_at_call (packed_table xs ++ rest) i o r
      ≡ record { reply = open_reply_for (open_at xs i o r).answer; leaves = packed_table (open_at xs i o r).table ++ rest }
  pub round : (policy : List ℕ) (xs : List Slot) (rest : List ℕ) → length rest < 12 → (i p : ℕ) → round_at_call policy (packed_table xs ++ rest) i p
      ≡ record { reply = reply_for (round_at policy xs i (showing p)).answer; leaves = packed_table (round_at policy xs i (showing p)).table ++ rest }
  -- ---- any table: what is no slot is nobody's, and refused 8

  -- every table is read as a list
  pub read : (bytes : List ℕ) → Bytes bytes → (xs : List Slot) × Reads bytes xs
  -- the other slots are answered as if it were empty
  pub opening_read : (bytes : List ℕ) → Bytes bytes → (xs : List Slot) → Reads bytes xs → (i o r : ℕ)
      → (There bytes i → packed_slot (slot_at xs i) ≡ twelve_at bytes i) → (open_at_call bytes i o r).reply ≡ open_reply_for (open_at xs i o r).answer
  -- and one that is not refused writes the twelve bytes of the slot, whatever stands elsewhere
  pub opening_written : (bytes : List ℕ) → Bytes bytes → (xs : List Slot) → Reads bytes xs → (i o r : ℕ)
      → (There bytes i → packed_slot (slot_at xs i) ≡ twelve_at bytes i) → (open_at xs i o r).answer ≡ none
      → (open_at_call bytes i o r).leaves ≡ take (12 * i) bytes ++ (packed_slot (held o (opened r)) ++ drop (12 * i + 12) bytes)
  pub round_read : (policy bytes : List ℕ) → Bytes bytes → (xs : List Slot) → Reads bytes xs → (i p : ℕ)
      → (round_at_call policy bytes i p).reply ≡ reply_for (round_at policy xs i (showing p)).answer
  pub round_written : (policy bytes : List ℕ) → Bytes bytes → (xs : List Slot) → Reads bytes xs → (i p : ℕ) → There bytes i
      → packed_slot (slot_at xs i) ≡ twelve_at bytes i → (e : Ending) → (round_at policy xs i (showing p)).answer ≡ ends e
      → (round_at_call policy bytes i p).leaves
      ≡ take (12 * i) bytes ++ (packed_slot (slot_at (round_at policy xs i (showing p)).table i) ++ drop (12 * i + 12) bytes)
  -- an opening there: 7, then 8
  pub unserved : (bytes : List ℕ) (i o r : ℕ) → (Service r → ⊥) → open_at_call bytes i o r ≡ record { reply = 7; leaves = bytes }
  pub no_slot_opening : (bytes : List ℕ) → Bytes bytes → (i o r : ℕ) → There bytes i → NoSlot (twelve_at bytes i) → Service r
      → open_at_call bytes i o r ≡ record { reply = 8; leaves = bytes }
  -- a round there: the policy, then 8
  pub no_slot_round : (policy : List ℕ) → Bytes policy → W.WellFormed policy → (bytes : List ℕ) → Bytes bytes → (i p : ℕ) → There bytes i
      → NoSlot (twelve_at bytes i) → round_at_call policy bytes i p ≡ record { reply = 8; leaves = bytes }
  -- ---- any table: what is left

  -- "a refusal leaves the list"
  pub opening_left : (bytes : List ℕ) (i o r : ℕ) → (open_at_call bytes i o r).reply ≢ 0 → (open_at_call bytes i o r).leaves ≡ bytes
  pub round_left : (policy bytes : List ℕ) (i p : ℕ) → (round_at_call policy bytes i p).reply % 256 ≢ 0 → (round_at_call policy bytes i p).leaves ≡ bytes
  -- "and touches nothing else"
  pub opening_others : (bytes : List ℕ) (i o r : ℕ) → OthersKept bytes i (open_at_call bytes i o r).leaves
  pub round_others : (policy bytes : List ℕ) (i p : ℕ) → OthersKept bytes i (round_at_call policy bytes i p).leaves
  -- "Seats past the 64th are never read": nor are the bytes from 768 on, and they come back as they were
  pub opening_unread : (bytes : List ℕ) (i o r : ℕ) → open_at_call bytes i o r ≡ before_others (open_at_call (take 768 bytes) i o r) (drop 768 bytes)
  pub round_unread : (policy bytes : List ℕ) (i p : ℕ)
      → round_at_call policy bytes i p ≡ before_others (round_at_call policy (take 768 bytes) i p) (drop 768 bytes)
  -- ---- a preview: reply and session are those of the list

  -- "The preview's answer and session are those of the same round on a copy of the list, refusals included, and the list itself is left; where the seat is
  -- empty or one that 14 refuses, no session is given."
  pub preview : (policy : List ℕ) (xs : List Slot) (rest : List ℕ) → length rest < 12 → (i p : ℕ)
      → Previewed xs i (preview_at policy xs i (showing p)) (preview_at_call policy (packed_table xs ++ rest) i p)
  -- of any table
  pub preview_read : (policy bytes : List ℕ) → Bytes bytes → (xs : List Slot) → Reads bytes xs → (i p : ℕ)
      → Previewed xs i (preview_at policy xs i (showing p)) (preview_at_call policy bytes i p)
  -- what is no slot is never handed on
  pub no_slot_preview : (policy bytes : List ℕ) → Bytes bytes → (i p : ℕ) → There bytes i → NoSlot (twelve_at bytes i)
      → (preview_at_call policy bytes i p).leaves ≡ replicate 12 0
  -- the call of gate_round_at that may follow: the same reply, and at a slot the twelve bytes that the preview showed
  pub preview_then_round : (policy bytes : List ℕ) (i p : ℕ) → (round_at_call policy bytes i p).reply ≡ (preview_at_call policy bytes i p).reply
  pub preview_then_slot : (policy bytes : List ℕ) (i p : ℕ) → There bytes i → (x : Slot) → packed_slot x ≡ twelve_at bytes i
      → twelve_at (round_at_call policy bytes i p).leaves i ≡ (preview_at_call policy bytes i p).leaves
  -- "Seats past the 64th are never read"
  pub preview_unread : (policy bytes : List ℕ) (i p : ℕ) → preview_at_call policy bytes i p ≡ preview_at_call policy (take 768 bytes) i p
  -- ---- calls one after another on one table

  -- any list of them is the list of operations that R-5 speaks of
  pub calls : (xs : List Slot) (rest : List ℕ) → length rest < 12 → (ops : List Operation)
      → table_calls (packed_table xs ++ rest) ops ≡ map (λ (t : Step). call_for rest t.gives) (steps_of xs ops)
  -- "No owner has more than four unfinished sessions, over any list of openings and rounds from an all-empty list.": so many bytes, all 0
  pub four : (n : ℕ) (ops : List Operation) → Every (λ (c : Call). FourInBytes c.leaves) (table_calls (replicate n 0) ops)
