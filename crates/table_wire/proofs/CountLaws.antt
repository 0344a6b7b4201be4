-- The count of an owner's unfinished sessions over the slots that can be named. Assumes nothing.
use mathlib.Core.Path.{◌∙◌, ◌≡◌, ap, refl}
use mathlib.Core.Bool.{Bool, false, true}
use mathlib.Core.List.{List, [], ◌∷◌}
use mathlib.Core.Option.{Option, none, some}
use Prim.Native.Nat.{◌+◌, ◌-◌, ◌≤◌, min, suc, zero, ℕ}
use lib.Dec.{eqb}
use lib.ListN.{get_or, length}
use native.Mathlib.Omega.{arith}
use Rattle.lists.specs.Sums.{sum}
use Rattle.lists.proofs.SumLaws.{sum_add, sum_next, sum_none, sum_start}
use Rattle.slots.specs.Slots.{Slot, slot_limit, unfinished_of}
use Rattle.slots.proofs.CountLaws.{unfinished_most, unfinished_next, unfinished_none}
use Rattle.slot_packing.specs.Calls.{count_in, unfinished_in}
use Rattle.slot_packing.specs.PackedSlots.{all_zero, empty_when, held_in, slot_in, slots_in, unpacked_slot}
use Rattle.slot_packing.proofs.CallLaws.{past_end}

one_most : (o : ℕ) (u : Option Slot) → count_in o u ≤ 1
unfolding count_in
one_most o none = omega arith
one_most o (some x) = omega (arith, unfinished_most o (x ∷ []) 1, unfinished_next o (x ∷ []) 0, unfinished_none o (x ∷ []))

-- twelve bytes that hold nothing are nobody's, whether they are an empty slot or none
pub counted_unheld : (o : ℕ) (bytes : List ℕ) → length bytes ≡ 12 → eqb (get_or bytes 1 0) 1 ≡ false → count_in o (unpacked_slot bytes) ≡ 0
unfolding unpacked_slot count_in unfinished_of
counted_unheld o bytes l e = rw (l, e) (go (all_zero bytes))
  where
    go : (b : Bool) → count_in o (empty_when b) ≡ 0
    go true = refl
    go false = refl

-- twelve bytes that hold an owner, with a session or without
pub counted_held : (o : ℕ) (bytes : List ℕ) (x : Slot) → length bytes ≡ 12 → eqb (get_or bytes 1 0) 1 ≡ true → some x ≡ held_in bytes
    → count_in o (unpacked_slot bytes) ≡ unfinished_of o x
unfolding unpacked_slot count_in
counted_held o bytes x l e h = rw (l, e, ← h) refl

pub counted_broken : (o : ℕ) (bytes : List ℕ) → length bytes ≡ 12 → eqb (get_or bytes 1 0) 1 ≡ true → none ≡ held_in bytes
    → count_in o (unpacked_slot bytes) ≡ 0
unfolding unpacked_slot count_in
counted_broken o bytes l e h = rw (l, e, ← h) refl

module _ (o : ℕ) (bytes : List ℕ) where
  pub counted_none : unfinished_in o bytes 0 ≡ 0
  unfolding unfinished_in
  counted_none = sum_start (λ k. count_in o (slot_in bytes k))

  pub counted_next : (k : ℕ) → unfinished_in o bytes (k + 1) ≡ unfinished_in o bytes k + count_in o (slot_in bytes k)
  unfolding unfinished_in
  counted_next k = sum_next (λ k. count_in o (slot_in bytes k)) k

  pub counted_most : (k : ℕ) → unfinished_in o bytes k ≤ k
  unfolding unfinished_in sum
  counted_most zero = omega arith
  counted_most (suc k) = omega (arith, counted_most k, one_most o (slot_in bytes k))

  -- nothing stands past the table's end
  pub counted_all : unfinished_in o bytes slot_limit ≡ unfinished_in o bytes (min (slots_in bytes) 64)
  unfolding unfinished_in count_in
  counted_all =
      let n = min (slots_in bytes) 64 in
      let f : ℕ → ℕ = λ k. count_in o (slot_in bytes k) in
      let e : slot_limit ≡ n + (64 - n) = omega arith in
      let rest : sum (λ m. f (n + m)) (64 - n) ≡ 0 = sum_none (λ m. f (n + m)) (64 - n) (λ m l. rw (past_end bytes (n + m) (omega arith))) in
      ap (sum f) e ∙ sum_add f n (64 - n) ∙ omega (arith, rest)
