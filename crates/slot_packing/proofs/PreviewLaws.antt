-- A preview of a round at a slot of a table: what it gives, and what the round gives afterwards. Assumes nothing.
use mathlib.Core.Path.{◌∙◌, ◌≡◌, ap, refl, sym}
use mathlib.Core.Bool.{Bool, cond, false, true}
use mathlib.Core.List.{List, ◌++◌, ◌∷◌}
use mathlib.Core.Option.{Option, none, some}
use Prim.Native.Nat.{◌*◌, ◌+◌, ◌<◌, ◌≤◌, ℕ}
use lib.ListN.{drop, length, replicate, take, take-append-drop}
use lib.Seq.{drop_at, length-take-le, take_all, take_at}
use native.Mathlib.Decide.{dec_le}
use native.Mathlib.Omega.{arith}
use borrow.Author.Tests.{lt-ltb}
use Rattle.encoding.specs.LittleEndian.{Bytes}
use Rattle.validation.proofs.TestLaws.{both_true}
use Rattle.rounds.specs.Moves.{showing}
use Rattle.rounds.specs.Refusals.{Refusal}
use Rattle.rounds.specs.Rounds.{Answer, ends, refused, round}
use Rattle.rounds.specs.Sessions.{Session}
use Rattle.rounds.proofs.AnswerLaws.{clash}
use Rattle.rounds.proofs.RefusalLaws.{refused_unchanged}
use Rattle.slots.specs.RoundsAt.{refused_by, slot_round}
use Rattle.slots.specs.Slots.{InTable, Slot, held, in_table, slot_at, slot_limit, vacant}
use Rattle.slots.proofs.FreeLaws.{decides_in_table}
use Rattle.previews.specs.Previews.{preview_at, session_held}
use Rattle.previews.proofs.PreviewLaws.{PreviewCase, empty, holds, none_there, preview_case}
use Rattle.packing.specs.Exports.{Call}
use Rattle.packing.specs.Packed.{packed}
use Rattle.packing.proofs.ReplyLaws.{replied}
use Rattle.slot_packing.specs.Calls.{left_at, named, played_at, preview_at_call, refused_turn, round_at_call, slot_call, turn_at, turn_call, turn_in, turned_away}
use Rattle.slot_packing.specs.PackedSlots.{packed_slot, packed_table, slot_in, slots_in, unpacked_slot, with_slot}
use Rattle.slot_packing.specs.Theorems.{NoSlot, Previewed, Reads, There, twelve_at}
use Rattle.slot_packing.proofs.CallLaws.{ReadAs, there}
use Rattle.slot_packing.proofs.ReadLaws.{as_many, in_list, named_there, nothing_there, read_as}
use Rattle.slot_packing.proofs.SlotLaws.{twelve, unpacks_slot}
use Rattle.slot_packing.proofs.TableLaws.{slot_at_lem, slots_in_lem}
use Rattle.slot_packing.proofs.UnreadLaws.{below, named_same, slot_same}

-- ---- what the twelve bytes say

-- no two slots have the same bytes
same_slot : (x y : Slot) → packed_slot x ≡ packed_slot y → x ≡ y
same_slot x y e = let both : some x ≡ some y = sym (unpacks_slot x) ∙ ap unpacked_slot e ∙ unpacks_slot y in cc both

module _ (xs : List Slot) (i : ℕ) (a : Answer) where
  shows_none : Previewed xs i (record { answer = a; session = none }) (slot_call (record { answer = a; slot = vacant }))
  unfolding packed_slot
  shows_none = record {
    answer = replied a;
    session = λ t. (λ e. clash (cc), λ (o, (s, (d, e))). clash (cc (same_slot vacant (held o t) e)));
    nothing = (λ e. refl, λ e. refl);
    held_byte = (λ e. absurd (omega (arith, e)), λ (t, e). clash (cc));
  }

  shows_session : (o : ℕ) (s t : Session) → slot_at xs i ≡ held o s
      → Previewed xs i (record { answer = a; session = some t }) (slot_call (record { answer = a; slot = held o t }))
  unfolding packed_slot
  shows_session o s t d = record {
    answer = replied a;
    session = λ u. (
      λ e. let same : t ≡ u = cc e in (o, (s, (d, ap (λ (z : Session). o ∷ 1 ∷ packed z) same))),
      λ (p, (r, (f, e))). ap session_held (same_slot (held o t) (held p u) e),
    );
    nothing = (λ e. clash (cc), λ e. clash (cc (same_slot (held o t) vacant e)));
    held_byte = (λ e. (t, refl), λ (u, e). refl);
  }

-- ---- the answer and the slot after the round, of a table and of a list

module _ (policy bytes : List ℕ) (i p : ℕ) where
  pub turn_named : (x : Slot) → named bytes i ≡ true → ReadAs (slot_in bytes i) x → turn_at policy bytes i p ≡ slot_round policy x (showing p)
  unfolding turn_at slot_round
  turn_named x e h = rw e (go (slot_in bytes i) x h)
    where
      go : (u : Option Slot) (x : Slot) → ReadAs u x → turn_in policy p u ≡ slot_round policy x (showing p)
      go none vacant h = refl
      go none (held o s) h = absurd h
      go (some y) x h = ap (λ (z : Slot). slot_round policy z (showing p)) h

  pub turn_past : named bytes i ≡ false → turn_at policy bytes i p ≡ refused_turn policy 14
  unfolding turn_at
  turn_past e = rw e

  -- a list with as many slots, whose slot i is what stands there
  pub preview_is : (xs : List Slot) → slots_in bytes ≡ length xs → (in_table xs i ≡ true → ReadAs (slot_in bytes i) (slot_at xs i))
      → Previewed xs i (preview_at policy xs i (showing p)) (preview_at_call policy bytes i p)
  unfolding preview_at_call slot_round
  preview_is xs long here = go (preview_case policy xs i (showing p))
    where
      same : named bytes i ≡ in_table xs i
      same = rw long

      at_slot : (x : Slot) → InTable xs i → slot_at xs i ≡ x → turn_at policy bytes i p ≡ slot_round policy x (showing p)
      at_slot x h d = let e = (decides_in_table xs i).1 h in turn_named (slot_at xs i) (same ∙ e) (here e) ∙ ap (λ (y : Slot). slot_round policy y (showing p)) d

      past : (InTable xs i → ⊥) → turn_at policy bytes i p ≡ refused_turn policy 14
      past n = by (in_table xs i) refl
        where
          by : (b : Bool) → in_table xs i ≡ b → turn_at policy bytes i p ≡ refused_turn policy 14
          by true e = absurd (n ((decides_in_table xs i).0 e))
          by false e = turn_past (same ∙ e)

      go : PreviewCase policy xs i (showing p) (preview_at policy xs i (showing p))
          → Previewed xs i (preview_at policy xs i (showing p)) (slot_call (turn_at policy bytes i p))
      go (none_there n is) = rw (is, past n) (shows_none xs i (refused_by policy 14))
      go (empty h d is) = rw (is, at_slot vacant h d) (shows_none xs i (refused_by policy 8))
      go (holds o s h d is) =
          let x = round policy s (showing p) in
          rw (is, at_slot (held o s) h d) (shows_session xs i x.answer o s x.session d)

  pub preview_long : length (preview_at_call policy bytes i p).leaves ≡ 12
  unfolding preview_at_call
  preview_long = twelve (turn_at policy bytes i p).slot

  -- ---- the round afterwards

  pub round_by_turn : round_at_call policy bytes i p ≡ turn_call bytes i (turn_at policy bytes i p)
  unfolding round_at_call turn_at refused_by
  round_by_turn = go (named bytes i) (slot_in bytes i)
    where
      go : (b : Bool) (u : Option Slot) → cond b (played_at policy bytes i p u) (turned_away policy bytes 14)
          ≡ turn_call bytes i (cond b (turn_in policy p u) (refused_turn policy 14))
      go true none = refl
      go true (some x) = refl
      go false u = refl

  pub then_round : (round_at_call policy bytes i p).reply ≡ (preview_at_call policy bytes i p).reply
  unfolding preview_at_call
  then_round = ap (λ (c : Call). c.reply) round_by_turn

  refused_slot : (x : Slot) (f : Refusal) → (slot_round policy x (showing p)).answer ≡ refused f → (slot_round policy x (showing p)).slot ≡ x
  unfolding slot_round
  refused_slot vacant f e = refl
  refused_slot (held o s) f e = ap (held o) (refused_unchanged policy s (showing p) f e)

  written_there : (x : Slot) → 12 * i + 12 ≤ length bytes → twelve_at (with_slot bytes i x) i ≡ packed_slot x
  unfolding with_slot
  written_there x l =
      let rest = drop (12 * i + 12) bytes in
      ap (take 12) (drop_at (take (12 * i) bytes) (packed_slot x ++ rest) (12 * i) (length-take-le (12 * i) bytes (omega arith)))
      ∙ take_at (packed_slot x) rest 12 (twelve x)

  found_there : (x : Slot) → packed_slot x ≡ twelve_at bytes i → slot_in bytes i ≡ some x
  unfolding slot_in
  found_there x is = ap unpacked_slot (sym is) ∙ unpacks_slot x

  pub then_slot : There bytes i → (x : Slot) → packed_slot x ≡ twelve_at bytes i
      → twelve_at (round_at_call policy bytes i p).leaves i ≡ (preview_at_call policy bytes i p).leaves
  unfolding preview_at_call
  then_slot h x is =
      let t = slot_round policy x (showing p) in
      let e = turn_named x (both_true (lt-ltb i (slots_in bytes) (omega (arith, h.0))) (lt-ltb i slot_limit h.1)) (rw (found_there x is) refl) in
      ap (λ (c : Call). twelve_at c.leaves i) round_by_turn ∙ rw e (go t.answer refl)
    where
      go : (a : Answer) → (slot_round policy x (showing p)).answer ≡ a
          → twelve_at (left_at a bytes i (slot_round policy x (showing p)).slot) i ≡ packed_slot (slot_round policy x (showing p)).slot
      go (ends e) d = written_there (slot_round policy x (showing p)).slot h.0
      go (refused f) d = sym is ∙ ap packed_slot (sym (refused_slot x f d))

-- ---- a table of slots alone, and any table

pub preview_at_lem : (xs : List Slot) (rest : List ℕ) → length rest < 12 → (policy : List ℕ) (i p : ℕ)
    → Previewed xs i (preview_at policy xs i (showing p)) (preview_at_call policy (packed_table xs ++ rest) i p)
preview_at_lem xs rest few policy i p =
    preview_is policy (packed_table xs ++ rest) i p xs (slots_in_lem rest xs few) (λ e. rw (slot_at_lem rest xs i (there xs rest few i e)) refl)

module _ (bytes : List ℕ) (b : Bytes bytes) where
  pub preview_read : (xs : List Slot) → Reads bytes xs → (policy : List ℕ) (i p : ℕ)
      → Previewed xs i (preview_at policy xs i (showing p)) (preview_at_call policy bytes i p)
  preview_read xs reads policy i p =
      preview_is policy bytes i p xs (as_many bytes b xs reads) (λ e. read_as bytes b xs reads i (in_list bytes b xs reads i e).0)

  pub no_slot_preview : (policy : List ℕ) (i p : ℕ) → There bytes i → NoSlot (twelve_at bytes i) → (preview_at_call policy bytes i p).leaves ≡ replicate 12 0
  unfolding preview_at_call turn_at packed_slot
  no_slot_preview policy i p h n = rw (named_there bytes b i h n, nothing_there bytes b i n)

-- ---- bytes from 768 on are not read

module _ (policy : List ℕ) (i n : ℕ) where
  turn_same : (p q : List ℕ) → length p ≡ 768 → turn_at policy (p ++ q) i n ≡ turn_at policy p i n
  unfolding turn_at
  turn_same p q full = go (named p i) refl
    where
      go : (t : Bool) → named p i ≡ t → turn_at policy (p ++ q) i n ≡ turn_at policy p i n
      go true e = rw (named_same p q full i, slot_same p q full i (below p q full i e))
      go false e = rw (named_same p q full i, e)

  pub preview_unread : (bytes : List ℕ) → preview_at_call policy bytes i n ≡ preview_at_call policy (take 768 bytes) i n
  unfolding preview_at_call
  preview_unread bytes = ap slot_call (go (dec_le (length bytes) 768))
    where
      go : Dec (length bytes ≤ 768) → turn_at policy bytes i n ≡ turn_at policy (take 768 bytes) i n
      go (yes l) = rw (take_all 768 bytes l)
      go (no m) =
          ap (λ (b : List ℕ). turn_at policy b i n) (sym (take-append-drop 768 bytes))
          ∙ turn_same (take 768 bytes) (drop 768 bytes) (length-take-le 768 bytes (omega arith))
