-- Bytes from 768 on are not read, and come back as they were. Assumes nothing.
use mathlib.Core.Path.{◌∙◌, ◌≡◌, ap, refl, sym}
use mathlib.Core.Bool.{Bool, ◌&&◌, false, true}
use mathlib.Core.List.{List, ◌++◌, append_assoc, append-nil}
use mathlib.Core.Option.{Option, none, some}
use Prim.Native.Nat.{◌*◌, ◌+◌, ◌<◌, ◌≤◌, suc, ℕ}
use lib.Dec.{ltb}
use lib.ListN.{drop, drop_of_length-le, length, length-append, length-drop, take, take-append-drop}
use lib.Seq.{drop-append-le, length-take-le, take_all, take-append-le}
use native.Mathlib.Decide.{dec_le}
use native.Mathlib.Omega.{arith}
use borrow.Author.Tests.{le-ltb, lt-ltb, ltb-true}
use Rattle.lists.proofs.SumLaws.{sum_same}
use Rattle.validation.specs.Tests.{first_failed, relabelled}
use Rattle.validation.proofs.TestLaws.{and_true}
use Rattle.rounds.specs.Moves.{showing}
use Rattle.rounds.specs.Refusals.{Refusal}
use Rattle.rounds.specs.Rounds.{Answer, ends, refused}
use Rattle.rounds.specs.Sessions.{opened}
use Rattle.slots.specs.RoundsAt.{slot_round}
use Rattle.slots.specs.Slots.{Slot, held, slot_limit}
use Rattle.packing.specs.Exports.{Call}
use Rattle.slot_packing.specs.Calls.{left_at, named, open_at_call, open_at_refusal, played_at, round_at_call, taken_call, unfinished_in}
use Rattle.slot_packing.specs.PackedSlots.{slot_in, slots_in, with_slot}
use Rattle.slot_packing.specs.Theorems.{before_others}
use Rattle.slot_packing.proofs.KeepLaws.{opened_named}

neither : (a : Bool) → (a && false) ≡ false
neither true = refl
neither false = refl

module _ (p q : List ℕ) (full : length p ≡ 768) where
  -- ---- what is read

  pub named_same : (i : ℕ) → named (p ++ q) i ≡ named p i
  named_same i = go (dec_le (suc i) slot_limit)
    where
      go : Dec (i < slot_limit) → named (p ++ q) i ≡ named p i
      go (yes l) =
          let a : i < slots_in (p ++ q) = simp length-append (omega arith) in
          let b : i < slots_in p = omega arith in
          rw (lt-ltb i (slots_in (p ++ q)) a, lt-ltb i (slots_in p) b)
      go (no n) = rw (le-ltb i slot_limit (omega arith)) (neither (ltb i (slots_in (p ++ q))) ∙ sym (neither (ltb i (slots_in p))))

  module _ (k : ℕ) (l : k < slot_limit) where
    pub slot_same : slot_in (p ++ q) k ≡ slot_in p k
    unfolding slot_in
    slot_same =
        let a : 12 * k ≤ length p = omega arith in
        let b : 12 ≤ length (drop (12 * k) p) = simp length-drop (omega arith) in
        rw (drop-append-le (12 * k) p q a, take-append-le 12 (drop (12 * k) p) q b)

    with_same : (x : Slot) → with_slot (p ++ q) k x ≡ with_slot p k x ++ q
    unfolding with_slot
    with_same x =
        let a : 12 * k ≤ length p = omega arith in
        let b : 12 * k + 12 ≤ length p = omega arith in
        rw (take-append-le (12 * k) p q a, drop-append-le (12 * k + 12) p q b) (simp append_assoc)

  pub below : (i : ℕ) → named p i ≡ true → i < slot_limit
  below i e = ltb-true i slot_limit (and_true (ltb i (slots_in p)) (ltb i slot_limit) e).1

  -- ---- the calls

  module _ (i o r : ℕ) where
    count_same : unfinished_in o (p ++ q) slot_limit ≡ unfinished_in o p slot_limit
    unfolding unfinished_in
    count_same = sum_same _ _ slot_limit (λ m l. rw (slot_same m l))

    refusal_same : open_at_refusal (p ++ q) i o r ≡ open_at_refusal p i o r
    unfolding open_at_refusal first_failed relabelled
    refusal_same = go (named p i) refl
      where
        go : (t : Bool) → named p i ≡ t → open_at_refusal (p ++ q) i o r ≡ open_at_refusal p i o r
        go true e = rw (named_same i, slot_same i (below i e), count_same)
        go false e = rw (named_same i, e)

    opening_same : open_at_call (p ++ q) i o r ≡ before_others (open_at_call p i o r) q
    unfolding open_at_call
    opening_same = rw refusal_same (go (open_at_refusal p i o r) refl)
      where
        go : (u : Option Refusal) → open_at_refusal p i o r ≡ u
            → taken_call u (p ++ q) i (held o (opened r)) ≡ before_others (taken_call u p i (held o (opened r))) q
        go none e = rw (with_same i (below i (opened_named p i o r e)) (held o (opened r)))
        go (some f) e = refl

  module _ (policy : List ℕ) (i n : ℕ) where
    round_same : round_at_call policy (p ++ q) i n ≡ before_others (round_at_call policy p i n) q
    unfolding round_at_call
    round_same = go (named p i) refl
      where
        of_answer : (a : Answer) (x : Slot) → i < slot_limit → left_at a (p ++ q) i x ≡ left_at a p i x ++ q
        of_answer (ends e) x l = with_same i l x
        of_answer (refused f) x l = refl

        of_slot : (u : Option Slot) → i < slot_limit → played_at policy (p ++ q) i n u ≡ before_others (played_at policy p i n u) q
        of_slot none l = refl
        of_slot (some x) l = rw (of_answer (slot_round policy x (showing n)).answer (slot_round policy x (showing n)).slot l)

        go : (t : Bool) → named p i ≡ t → round_at_call policy (p ++ q) i n ≡ before_others (round_at_call policy p i n) q
        go true e = rw (named_same i, e, slot_same i (below i e)) (of_slot (slot_in p i) (below i e))
        go false e = rw (named_same i, e)

-- ---- any table: it is shorter, or there are 768 bytes and others

cut : (call : List ℕ → Call) → ((p q : List ℕ) → length p ≡ 768 → call (p ++ q) ≡ before_others (call p) q)
    → (bytes : List ℕ) → call bytes ≡ before_others (call (take 768 bytes)) (drop 768 bytes)
cut call same bytes = go (dec_le (length bytes) 768)
  where
    go : Dec (length bytes ≤ 768) → call bytes ≡ before_others (call (take 768 bytes)) (drop 768 bytes)
    go (yes l) = rw (take_all 768 bytes l, drop_of_length-le bytes l, append-nil (call bytes).leaves)
    go (no n) =
        ap call (sym (take-append-drop 768 bytes)) ∙ same (take 768 bytes) (drop 768 bytes) (length-take-le 768 bytes (omega arith))

pub opening_unread : (bytes : List ℕ) (i o r : ℕ) → open_at_call bytes i o r ≡ before_others (open_at_call (take 768 bytes) i o r) (drop 768 bytes)
opening_unread bytes i o r = cut (λ b. open_at_call b i o r) (λ p q full. opening_same p q full i o r) bytes

pub round_unread : (policy bytes : List ℕ) (i n : ℕ)
    → round_at_call policy bytes i n ≡ before_others (round_at_call policy (take 768 bytes) i n) (drop 768 bytes)
round_unread policy bytes i n = cut (λ b. round_at_call policy b i n) (λ p q full. round_same p q full policy i n) bytes
