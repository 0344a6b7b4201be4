-- A table of bytes: what stands at a slot, what is written there, and the bytes of a list of slots. Assumes nothing.
use mathlib.Core.Path.{◌∙◌, ◌≡◌, ap, refl}
use mathlib.Core.List.{List, [], ◌++◌, ◌∷◌, append_assoc}
use mathlib.Core.Option.{some}
use Prim.Native.Nat.{◌*◌, ◌+◌, ◌<◌, suc, zero, ℕ}
use lib.ListN.{length, length-append, set}
use lib.Seq.{drop-append-add, take-append-add, take_at, drop_at}
use native.Mathlib.Nat.{not-suc-le-zero, le_of_suc-le-suc}
use native.Mathlib.Omega.{arith}
use Rattle.slots.specs.Slots.{Slot, slot_at}
use Rattle.slot_packing.specs.PackedSlots.{packed_slot, packed_table, slot_bytes, slot_in, slots_in, unpacked_slot, with_slot}
use Rattle.slot_packing.proofs.SlotLaws.{twelve, unpacks_slot}

-- ---- past the first twelve bytes

module _ (p q : List ℕ) (l : length p ≡ 12) where
  past : (n : ℕ) → 12 * suc n ≡ length p + 12 * n
  past n = omega arith

  later_bytes : (k : ℕ) → slot_bytes (p ++ q) (suc k) ≡ slot_bytes q k
  later_bytes k = rw (past k, drop-append-add p q (12 * k))

  first_with : (x : Slot) → with_slot (p ++ q) 0 x ≡ packed_slot x ++ q
  unfolding with_slot
  first_with x = ap (◌++◌ (packed_slot x)) (drop_at p q 12 l)

  later_with : (k : ℕ) (x : Slot) → with_slot (p ++ q) (suc k) x ≡ p ++ with_slot q k x
  unfolding with_slot
  later_with k x =
      let e : 12 * suc k + 12 ≡ length p + (12 * k + 12) = omega arith in
      rw (e, past k, drop-append-add p q (12 * k + 12), take-append-add p q (12 * k), append_assoc)

-- ---- the bytes of a list of slots

pub table_length : (xs : List Slot) → length (packed_table xs) ≡ 12 * length xs
unfolding packed_table
table_length [] = refl
table_length (x ∷ xs) = simp length-append (omega (arith, twelve x, table_length xs))

module _ (rest : List ℕ) where
  pub slots_in_lem : (xs : List Slot) → length rest < 12 → slots_in (packed_table xs ++ rest) ≡ length xs
  slots_in_lem xs l = simp (length-append, table_length) (omega arith)

  bytes_at : (xs : List Slot) (i : ℕ) → i < length xs → slot_bytes (packed_table xs ++ rest) i ≡ packed_slot (slot_at xs i)
  unfolding packed_table
  bytes_at [] i l = absurd (not-suc-le-zero l)
  bytes_at (x ∷ xs) zero l = rw append_assoc (take_at (packed_slot x) (packed_table xs ++ rest) 12 (twelve x))
  bytes_at (x ∷ xs) (suc i) l =
      rw append_assoc (later_bytes (packed_slot x) (packed_table xs ++ rest) (twelve x) i ∙ bytes_at xs i (le_of_suc-le-suc l))

  pub slot_at_lem : (xs : List Slot) (i : ℕ) → i < length xs → slot_in (packed_table xs ++ rest) i ≡ some (slot_at xs i)
  unfolding slot_in
  slot_at_lem xs i l = ap unpacked_slot (bytes_at xs i l) ∙ unpacks_slot (slot_at xs i)

  pub with_slot_lem : (xs : List Slot) (i : ℕ) (y : Slot) → i < length xs → with_slot (packed_table xs ++ rest) i y ≡ packed_table (set xs i y) ++ rest
  unfolding packed_table
  with_slot_lem [] i y l = absurd (not-suc-le-zero l)
  with_slot_lem (x ∷ xs) zero y l = rw (append_assoc, append_assoc) (first_with (packed_slot x) (packed_table xs ++ rest) (twelve x) y)
  with_slot_lem (x ∷ xs) (suc i) y l =
      rw (append_assoc, append_assoc)
      (later_with (packed_slot x) (packed_table xs ++ rest) (twelve x) i y ∙ ap (λ (b : List ℕ). packed_slot x ++ b) (with_slot_lem xs i y (le_of_suc-le-suc l)))
