-- A call at a slot of a table that a list of slots stands for. Assumes nothing.
use mathlib.Core.Path.{◌∙◌, ◌≡◌, ap, refl, sym}
use mathlib.Core.Bool.{Bool, cond, false, true}
use mathlib.Core.List.{List, ◌++◌}
use mathlib.Core.Option.{Option, none, some}
use Prim.Native.Nat.{◌*◌, ◌+◌, ◌<◌, ◌≤◌, suc, ℕ}
use lib.Dec.{ltb}
use lib.ListN.{get_or-eq_default, length, length-append, length-drop, length-take, set}
use lib.Seq.{set-get_or}
use native.Mathlib.Decide.{dec_le}
use native.Mathlib.Omega.{arith}
use borrow.Author.Tests.{ltb-true}
use Rattle.lists.proofs.SumLaws.{sum_same}
use Rattle.validation.specs.Tests.{first_failed, relabelled}
use Rattle.validation.proofs.TestLaws.{and_true}
use Rattle.records.specs.Policies.{policy_of}
use Rattle.rounds.specs.Moves.{Move, showing}
use Rattle.rounds.specs.Refusals.{Refusal, number}
use Rattle.rounds.specs.RoundTest.{round_refusal}
use Rattle.rounds.specs.Rounds.{respond, round}
use Rattle.rounds.specs.Sessions.{Session, is_service, opened}
use Rattle.slots.specs.Openings.{open_at, opening_refusal, taken_unless}
use Rattle.slots.specs.RoundsAt.{refused_by, round_at, slot_round}
use Rattle.slots.specs.Slots.{Slot, held, in_table, is_free, most_unfinished, slot_at, slot_limit, unfinished, unfinished_of, vacant}
use Rattle.packing.specs.Replies.{answer_reply}
use Rattle.slot_packing.specs.Calls.{count_in, left_at, open_at_call, open_at_refusal, opening_reply, played_at, round_at_call, taken_call, unfinished_in}
use Rattle.slot_packing.specs.PackedSlots.{packed_table, slot_bytes, slot_in, slots_in}
use Rattle.slot_packing.proofs.SlotLaws.{short}
use Rattle.slot_packing.proofs.TableLaws.{slot_at_lem, slots_in_lem, table_length, with_slot_lem}

-- ---- a table and a list with as many slots, and the same count for every owner

-- what is counted at slot k is what the list has there, and nothing past its end
abbrev pub CountsAs : List ℕ → List Slot → Type 0
CountsAs bytes xs = (o k : ℕ) → count_in o (slot_in bytes k) ≡ unfinished_of o (slot_at xs k)

-- what is read as the slot x: the slot itself, or no slot as the empty one
abbrev pub ReadAs : Option Slot → Slot → Type 0
ReadAs none vacant = Unit {0}
ReadAs none (held o s) = ⊥
ReadAs (some y) x = y ≡ x

module _ (bytes : List ℕ) (xs : List Slot) (as_many : slots_in bytes ≡ length xs) (i : ℕ) where
  module _ (counts : CountsAs bytes xs) (o r : ℕ) where
    count_is : unfinished_in o bytes slot_limit ≡ unfinished o xs slot_limit
    unfolding unfinished_in unfinished
    count_is = sum_same _ _ slot_limit (λ m l. counts o m)

    -- at a slot that can be named, where the owner has n unfinished sessions
    answers : ℕ → Option Refusal
    answers n = cond (is_service r) (cond (is_free (slot_at xs i)) (cond (ltb n most_unfinished) none (some (number 16))) (some (number 15))) (some (number 7))

    -- where slot i can be named it is one of the list's
    pub refusal_is : (in_table xs i ≡ true → slot_in bytes i ≡ some (slot_at xs i)) → open_at_refusal bytes i o r ≡ opening_refusal xs i o r
    unfolding open_at_refusal opening_refusal first_failed relabelled answers
    refusal_is there = go (in_table xs i) refl
      where
        go : (t : Bool) → in_table xs i ≡ t → open_at_refusal bytes i o r ≡ opening_refusal xs i o r
        go true e = rw (there e, as_many, e) (ap answers count_is)
        go false e = rw (as_many, e)

  -- a round there is that of the list's slot; what is no slot is answered as an empty one
  pub round_is : (policy : List ℕ) (p : ℕ) → (in_table xs i ≡ true → ReadAs (slot_in bytes i) (slot_at xs i))
      → (round_at_call policy bytes i p).reply ≡ answer_reply (round_at policy xs i (showing p)).answer
  unfolding round_at_call round_at slot_round
  round_is policy p there = go (in_table xs i) refl
    where
      of_slot : (u : Option Slot) (x : Slot) → ReadAs u x → (played_at policy bytes i p u).reply ≡ answer_reply (slot_round policy x (showing p)).answer
      of_slot none vacant h = refl
      of_slot none (held o s) h = absurd h
      of_slot (some y) x h = ap (λ (z : Slot). answer_reply (slot_round policy z (showing p)).answer) h

      go : (t : Bool) → in_table xs i ≡ t → (round_at_call policy bytes i p).reply ≡ answer_reply (round_at policy xs i (showing p)).answer
      go true e = rw (as_many, e) (of_slot (slot_in bytes i) (slot_at xs i) (there e))
      go false e = rw (as_many, e)

-- an opening that is not refused is at a slot of the list
opened_there : (xs : List Slot) (i o r : ℕ) → opening_refusal xs i o r ≡ none → in_table xs i ≡ true
unfolding opening_refusal first_failed relabelled
opened_there xs i o r = go _ (is_service r) (in_table xs i)
  where
    go : (u : Option Refusal) (a t : Bool) → cond a (cond t u (some (number 14))) (some (number 7)) ≡ none → t ≡ true
    go u true true e = refl
    go u true false e = cc
    go u false t e = cc

-- ---- a table of slots alone, with what is left over

pub past_end : (bytes : List ℕ) (k : ℕ) → length bytes < 12 * k + 12 → slot_in bytes k ≡ none
unfolding slot_in
past_end bytes k l = short (slot_bytes bytes k) (simp (length-take, length-drop) (omega arith))

module _ (xs : List Slot) (rest : List ℕ) (few : length rest < 12) where
  counts_as : CountsAs (packed_table xs ++ rest) xs
  unfolding count_in unfinished_of
  counts_as o k = go (dec_le (suc k) (length xs))
    where
      go : Dec (k < length xs) → count_in o (slot_in (packed_table xs ++ rest) k) ≡ unfinished_of o (slot_at xs k)
      go (yes l) = rw (slot_at_lem rest xs k l)
      go (no n) =
          let e : length xs ≤ k = omega arith in
          let short : length (packed_table xs ++ rest) < 12 * k + 12 = simp (length-append, table_length) (omega arith) in
          rw (past_end (packed_table xs ++ rest) k short, get_or-eq_default xs vacant e)

  pub there : (i : ℕ) → in_table xs i ≡ true → i < length xs
  there i e = ltb-true i (length xs) (and_true (ltb i (length xs)) (ltb i slot_limit) e).0

  pub opening_at_lem : (i o r : ℕ) → open_at_call (packed_table xs ++ rest) i o r
      ≡ record { reply = opening_reply (open_at xs i o r).answer; leaves = packed_table (open_at xs i o r).table ++ rest }
  unfolding open_at_call open_at
  opening_at_lem i o r =
      rw (refusal_is (packed_table xs ++ rest) xs (slots_in_lem rest xs few) i counts_as o r (λ e. slot_at_lem rest xs i (there i e)))
      (go (opening_refusal xs i o r) refl)
    where
      go : (u : Option Refusal) → opening_refusal xs i o r ≡ u → taken_call u (packed_table xs ++ rest) i (held o (opened r))
          ≡ record {
            reply = opening_reply (taken_unless u xs i (held o (opened r))).answer;
            leaves = packed_table (taken_unless u xs i (held o (opened r))).table ++ rest;
          }
      go none e = rw (with_slot_lem rest xs i (held o (opened r)) (there i (opened_there xs i o r e)))
      go (some f) e = refl

  -- the slot's bytes after a round; those of a refused one are as they were
  left_there : (policy : List ℕ) (i : ℕ) (m : Move) (x : Slot) → i < length xs → slot_at xs i ≡ x
      → left_at (slot_round policy x m).answer (packed_table xs ++ rest) i (slot_round policy x m).slot ≡ packed_table (set xs i (slot_round policy x m).slot) ++ rest
  unfolding slot_round refused_by round
  left_there policy i m x l is = go x is
    where
      kept : (x : Slot) → slot_at xs i ≡ x → packed_table xs ++ rest ≡ packed_table (set xs i x) ++ rest
      kept x is = ap (λ (ys : List Slot). packed_table ys ++ rest) (sym (set-get_or xs i vacant) ∙ ap (set xs i) is)

      of_round : (u : Option Refusal) (o : ℕ) (s : Session) → slot_at xs i ≡ held o s → let g = respond u (policy_of policy) s m in
          left_at g.answer (packed_table xs ++ rest) i (held o g.session) ≡ packed_table (set xs i (held o g.session)) ++ rest
      of_round none o s is = with_slot_lem rest xs i _ l
      of_round (some f) o s is = kept (held o s) is

      go : (x : Slot) → slot_at xs i ≡ x
          → left_at (slot_round policy x m).answer (packed_table xs ++ rest) i (slot_round policy x m).slot ≡ packed_table (set xs i (slot_round policy x m).slot) ++ rest
      go vacant is = kept vacant is
      go (held o s) is = of_round (round_refusal policy s m) o s is

  pub round_at_lem : (policy : List ℕ) (i p : ℕ) → round_at_call policy (packed_table xs ++ rest) i p
      ≡ record { reply = answer_reply (round_at policy xs i (showing p)).answer; leaves = packed_table (round_at policy xs i (showing p)).table ++ rest }
  unfolding round_at_call round_at
  round_at_lem policy i p = go (in_table xs i) refl
    where
      go : (t : Bool) → in_table xs i ≡ t → round_at_call policy (packed_table xs ++ rest) i p
          ≡ record { reply = answer_reply (round_at policy xs i (showing p)).answer; leaves = packed_table (round_at policy xs i (showing p)).table ++ rest }
      go true e = rw (slots_in_lem rest xs few, e, slot_at_lem rest xs i (there i e), left_there policy i (showing p) (slot_at xs i) (there i e) refl)
      go false e = rw (slots_in_lem rest xs few, e)
