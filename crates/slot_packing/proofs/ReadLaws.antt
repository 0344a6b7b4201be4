-- A table in which some twelve bytes may be no slot: it is read as a list in which these are empty. Assumes nothing.
use mathlib.Core.Path.{◌∙◌, ◌≡◌, ap, refl, sym}
use mathlib.Core.Logic.{◌⊎◌, inl, inr}
use mathlib.Core.Bool.{Bool, false, true}
use mathlib.Core.List.{List, [], ◌++◌, ◌∷◌}
use mathlib.Core.Option.{Option, none-ne-some, none, some}
use Prim.Native.Nat.{◌*◌, ◌+◌, ◌/◌, ◌<◌, ◌≤◌, suc, zero, ℕ}
use lib.Dec.{ltb}
use lib.ListN.{get_or-eq_default, drop, length, take}
use lib.Seq.{drop-drop, get_or-set_same}
use native.Mathlib.Decide.{dec_le}
use native.Mathlib.Nat.{le_of_suc-le-suc, not-suc-le-zero}
use native.Mathlib.Omega.{arith}
use borrow.Author.Tests.{lt-ltb, ltb-true}
use Rattle.encoding.specs.LittleEndian.{Bytes}
use Rattle.encoding.proofs.ByteLaws.{bytes_drop, bytes_take}
use Rattle.validation.specs.Tests.{first_failed, relabelled}
use Rattle.validation.proofs.TestLaws.{and_true, both_true}
use Rattle.form.specs.WrittenForm as W
use Rattle.form.proofs.TheoremsProof as policies
use Rattle.rounds.specs.Moves.{showing}
use Rattle.rounds.specs.Refusals.{Refusal}
use Rattle.rounds.specs.Endings.{Ending}
use Rattle.rounds.specs.Rounds.{Answer, ends, refused}
use Rattle.rounds.specs.Sessions.{Service, is_service, opened}
use Rattle.rounds.proofs.AnswerLaws.{clash}
use Rattle.rounds.proofs.SessionLaws.{decides_service}
use Rattle.slots.specs.Openings.{open_at, opening_refusal, taken_unless}
use Rattle.slots.specs.RoundsAt.{refused_by, round_at, slot_round}
use Rattle.slots.specs.Slots.{Slot, held, in_table, slot_at, slot_limit, unfinished_of, vacant}
use Rattle.packing.specs.Replies.{answer_reply}
use Rattle.slot_packing.specs.Calls.{count_in, left_at, named, open_at_call, open_at_refusal, opening_reply, round_at_call, taken_call}
use Rattle.slot_packing.specs.PackedSlots.{packed_slot, slot_in, slots_in, unpacked_slot, with_slot}
use Rattle.slot_packing.specs.Theorems.{NoSlot, Reads, There, twelve_at}
use Rattle.slot_packing.proofs.CallLaws.{CountsAs, ReadAs, past_end, refusal_is, round_is}
use Rattle.slot_packing.proofs.SlotLaws.{stands_slot}

-- ---- every table is read as a list

or_empty : Option Slot → Slot
or_empty none = vacant
or_empty (some x) = x

-- the first n slots
read_slots : List ℕ → ℕ → List Slot
read_slots bytes zero = []
read_slots bytes (suc n) = or_empty (unpacked_slot (take 12 bytes)) ∷ read_slots (drop 12 bytes) n

read_length : (n : ℕ) (bytes : List ℕ) → length (read_slots bytes n) ≡ n
unfolding read_slots
read_length zero bytes = refl
read_length (suc n) bytes = ap suc (read_length n (drop 12 bytes))

Read : List ℕ → Slot → Type 0
Read twelve x = (packed_slot x ≡ twelve) ⊎ ((x ≡ vacant) × NoSlot twelve)

read_first : (bytes : List ℕ) → Bytes bytes → Read bytes (or_empty (unpacked_slot bytes))
unfolding Read or_empty
read_first bytes b = go (unpacked_slot bytes) refl
  where
    go : (u : Option Slot) → unpacked_slot bytes ≡ u → (packed_slot (or_empty u) ≡ bytes) ⊎ ((or_empty u ≡ vacant) × NoSlot bytes)
    go none e = inr (refl, λ x h. none-ne-some x (sym e ∙ (stands_slot x bytes b).1 h))
    go (some x) e = inl ((stands_slot x bytes b).0 e)

read_each : (n : ℕ) (bytes : List ℕ) → Bytes bytes → (k : ℕ) → k < n → Read (twelve_at bytes k) (slot_at (read_slots bytes n) k)
unfolding read_slots
read_each zero bytes b k l = absurd (not-suc-le-zero l)
read_each (suc n) bytes b zero l = read_first (take 12 bytes) (bytes_take 12 bytes b)
read_each (suc n) bytes b (suc k) l =
    let e : 12 * suc k ≡ 12 + 12 * k = omega arith in
    rw (e, ← drop-drop (12 * k) 12 bytes) (read_each n (drop 12 bytes) (bytes_drop 12 bytes b) k (le_of_suc-le-suc l))

pub read : (bytes : List ℕ) → Bytes bytes → (xs : List Slot) × Reads bytes xs
unfolding Read
read bytes b =
    let n = length bytes / 12 in
    let long = read_length n bytes in (
      read_slots bytes n,
      record { as_many = (omega (arith, long), omega (arith, long)); each = λ k l. read_each n bytes b k (omega (arith, long)) },
    )

module _ (bytes : List ℕ) (b : Bytes bytes) where
  -- ---- the slot that twelve bytes stand for, or none

  at_bytes : (k : ℕ) → Bytes (twelve_at bytes k)
  at_bytes k = bytes_take 12 (drop (12 * k) bytes) (bytes_drop (12 * k) bytes b)

  slot_there : (k : ℕ) (x : Slot) → packed_slot x ≡ twelve_at bytes k → slot_in bytes k ≡ some x
  unfolding slot_in
  slot_there k x e = (stands_slot x (twelve_at bytes k) (at_bytes k)).1 e

  pub nothing_there : (k : ℕ) → NoSlot (twelve_at bytes k) → slot_in bytes k ≡ none
  unfolding slot_in
  nothing_there k n = go (unpacked_slot (twelve_at bytes k)) refl
    where
      go : (u : Option Slot) → unpacked_slot (twelve_at bytes k) ≡ u → u ≡ none
      go none e = refl
      go (some x) e = absurd (n x ((stands_slot x (twelve_at bytes k) (at_bytes k)).0 e))

  -- ---- read as a list

  module _ (xs : List Slot) (reads : Reads bytes xs) where
    pub as_many : slots_in bytes ≡ length xs
    as_many = omega (arith, reads.as_many.0, reads.as_many.1)

    pub read_as : (k : ℕ) → k < length xs → ReadAs (slot_in bytes k) (slot_at xs k)
    read_as k l = go (reads.each k l)
      where
        go : (packed_slot (slot_at xs k) ≡ twelve_at bytes k) ⊎ ((slot_at xs k ≡ vacant) × NoSlot (twelve_at bytes k)) → ReadAs (slot_in bytes k) (slot_at xs k)
        go (inl e) = rw (slot_there k (slot_at xs k) e) refl
        go (inr (v, n)) = rw (nothing_there k n, v) tt

    same_count : (o : ℕ) (u : Option Slot) (x : Slot) → ReadAs u x → count_in o u ≡ unfinished_of o x
    unfolding count_in unfinished_of
    same_count o none vacant h = refl
    same_count o none (held p s) h = absurd h
    same_count o (some y) x h = ap (unfinished_of o) h

    counts_as : CountsAs bytes xs
    unfolding count_in unfinished_of
    counts_as o k = go (dec_le (suc k) (length xs))
      where
        go : Dec (k < length xs) → count_in o (slot_in bytes k) ≡ unfinished_of o (slot_at xs k)
        go (yes l) = same_count o (slot_in bytes k) (slot_at xs k) (read_as k l)
        go (no n) =
            let e : length xs ≤ k = omega arith in
            rw (past_end bytes k (omega (arith, reads.as_many.1)), get_or-eq_default xs vacant e)

    pub in_list : (i : ℕ) → in_table xs i ≡ true → (i < length xs) × (i < slot_limit)
    in_list i e =
        let both = and_true (ltb i (length xs)) (ltb i slot_limit) e in (ltb-true i (length xs) both.0, ltb-true i slot_limit both.1)

    pub opening_read : (i o r : ℕ) → (There bytes i → packed_slot (slot_at xs i) ≡ twelve_at bytes i)
        → (open_at_call bytes i o r).reply ≡ opening_reply (open_at xs i o r).answer
    unfolding open_at_call open_at
    opening_read i o r there =
        let found : in_table xs i ≡ true → slot_in bytes i ≡ some (slot_at xs i) =
        λ e. slot_there i (slot_at xs i) (there (omega (arith, (in_list i e).0, reads.as_many.0), (in_list i e).1)) in
        rw (refusal_is bytes xs as_many i counts_as o r found) (go (opening_refusal xs i o r))
      where
        go : (u : Option Refusal) → (taken_call u bytes i (held o (opened r))).reply ≡ opening_reply (taken_unless u xs i (held o (opened r))).answer
        go none = refl
        go (some f) = refl

    pub opening_written : (i o r : ℕ) → (There bytes i → packed_slot (slot_at xs i) ≡ twelve_at bytes i) → (open_at xs i o r).answer ≡ none
        → (open_at_call bytes i o r).leaves ≡ take (12 * i) bytes ++ (packed_slot (held o (opened r)) ++ drop (12 * i + 12) bytes)
    unfolding open_at_call open_at with_slot
    opening_written i o r there a =
        let found : in_table xs i ≡ true → slot_in bytes i ≡ some (slot_at xs i) =
        λ e. slot_there i (slot_at xs i) (there (omega (arith, (in_list i e).0, reads.as_many.0), (in_list i e).1)) in
        rw (refusal_is bytes xs as_many i counts_as o r found) (go (opening_refusal xs i o r) a)
      where
        go : (u : Option Refusal) → (taken_unless u xs i (held o (opened r))).answer ≡ none
            → (taken_call u bytes i (held o (opened r))).leaves ≡ take (12 * i) bytes ++ (packed_slot (held o (opened r)) ++ drop (12 * i + 12) bytes)
        go none e = refl
        go (some f) e = cc

    pub round_written : (policy : List ℕ) (i p : ℕ) → There bytes i → packed_slot (slot_at xs i) ≡ twelve_at bytes i → (e : Ending)
        → (round_at policy xs i (showing p)).answer ≡ ends e → (round_at_call policy bytes i p).leaves
        ≡ take (12 * i) bytes ++ (packed_slot (slot_at (round_at policy xs i (showing p)).table i) ++ drop (12 * i + 12) bytes)
    unfolding round_at_call round_at with_slot
    round_written policy i p there is e =
        let l : i < length xs = omega (arith, there.0, reads.as_many.1) in
        let t = slot_round policy (slot_at xs i) (showing p) in
        let m : i < slots_in bytes = omega (arith, l, as_many) in
        rw (lt-ltb i (slots_in bytes) m, lt-ltb i (length xs) l, lt-ltb i slot_limit there.1, slot_there i (slot_at xs i) is)
        (λ a. go t.answer t.slot a ∙ ap (λ (x : Slot). take (12 * i) bytes ++ (packed_slot x ++ drop (12 * i + 12) bytes)) (sym (get_or-set_same xs i t.slot vacant l)))
      where
        go : (a : Answer) (x : Slot) → a ≡ ends e → left_at a bytes i x ≡ take (12 * i) bytes ++ (packed_slot x ++ drop (12 * i + 12) bytes)
        go (ends d) x h = refl
        go (refused f) x h = clash (cc)

    pub round_read : (policy : List ℕ) (i p : ℕ) → (round_at_call policy bytes i p).reply ≡ answer_reply (round_at policy xs i (showing p)).answer
    round_read policy i p = round_is bytes xs as_many i policy p (λ e. read_as i (in_list i e).0)

  -- ---- a call at what is no slot

  module _ (i : ℕ) (there : There bytes i) (n : NoSlot (twelve_at bytes i)) where
    pub named_there : named bytes i ≡ true
    named_there = both_true (lt-ltb i (slots_in bytes) (omega (arith, there.0))) (lt-ltb i slot_limit there.1)

    pub no_slot_opening : (o r : ℕ) → Service r → open_at_call bytes i o r ≡ record { reply = 8; leaves = bytes }
    unfolding open_at_call open_at_refusal first_failed relabelled
    no_slot_opening o r v = rw ((decides_service r).1 v, named_there, nothing_there i n)

    pub no_slot_round : (policy : List ℕ) → Bytes policy → W.WellFormed policy → (p : ℕ)
        → round_at_call policy bytes i p ≡ record { reply = 8; leaves = bytes }
    unfolding round_at_call refused_by
    no_slot_round policy c w p = rw (named_there, nothing_there i n, ((policies.theorems).tested policy c).accepts.1 w)

pub unserved : (bytes : List ℕ) (i o r : ℕ) → (Service r → ⊥) → open_at_call bytes i o r ≡ record { reply = 7; leaves = bytes }
unfolding open_at_call open_at_refusal first_failed relabelled
unserved bytes i o r n = go (is_service r) refl
  where
    go : (t : Bool) → is_service r ≡ t → open_at_call bytes i o r ≡ record { reply = 7; leaves = bytes }
    go true e = absurd (n ((decides_service r).0 e))
    go false e = rw e
