-- Calls one after another on one table. Assumes nothing.
use mathlib.Core.Path.{◌∙◌, ◌≡◌, ap, refl, subst, sym}
use mathlib.Core.List.{List, ◌++◌, map}
use Prim.Native.Nat.{◌%◌, ◌*◌, ◌+◌, ◌/◌, ◌<◌, suc, zero, ℕ}
use lib.ListN.{length, length-replicate, replicate, replicate-append-replicate}
use native.Mathlib.Omega.{arith}
use Rattle.lists.specs.Lists.{Every}
use Rattle.lists.proofs.ListLaws.{every_map}
use Rattle.lists.proofs.RunLaws.{run_beside}
use Rattle.slots.specs.Openings.{Reply}
use Rattle.slots.specs.Slots.{Slot, vacant}
use Rattle.operations.specs.Operations.{AllEmpty, Answered, Operation, Step, operate, steps_of}
use Rattle.operations.specs.Theorems.{AtMostFour}
use Rattle.operations.proofs.TheoremsProof as operations
use Rattle.packing.specs.Exports.{Call}
use Rattle.slot_packing.specs.PackedSlots.{packed_slot, packed_table}
use Rattle.slot_packing.specs.TableCalls.{operation_call, table_calls}
use Rattle.slot_packing.specs.Theorems.{FourInBytes, call_for}

-- ---- each call goes beside an operation

module _ (rest : List ℕ) where
  pub calls : ((xs : List Slot) (x : Operation) → operation_call (packed_table xs ++ rest) x ≡ call_for rest (operate xs x))
      → (xs : List Slot) (ops : List Operation) → table_calls (packed_table xs ++ rest) ops ≡ map (λ (t : Step). call_for rest t.gives) (steps_of xs ops)
  unfolding table_calls
  calls same =
      run_beside operate (λ (g : Reply Answered). g.table) operation_call (λ (c : Call). c.leaves) (λ (xs : List Slot). packed_table xs ++ rest)
      (call_for rest) same (λ g. refl)

-- ---- bytes that are all 0

empty_list : (n : ℕ) → AllEmpty (replicate n vacant)
empty_list zero = tt
empty_list (suc n) = (refl, empty_list n)

empty_bytes : (n : ℕ) → packed_table (replicate n vacant) ≡ replicate (12 * n) 0
unfolding packed_table packed_slot
empty_bytes zero = refl
empty_bytes (suc n) =
    let e : 12 * suc n ≡ 12 + 12 * n = omega arith in
    rw (e, empty_bytes n) (replicate-append-replicate 12 (12 * n) 0)

zero_bytes : (n : ℕ) → replicate n 0 ≡ packed_table (replicate (n / 12) vacant) ++ replicate (n % 12) 0
zero_bytes n =
    let e : n ≡ 12 * (n / 12) + n % 12 = omega arith in
    ap (λ (k : ℕ). replicate k 0) e
    ∙ sym (replicate-append-replicate (12 * (n / 12)) (n % 12) 0)
    ∙ ap (λ (b : List ℕ). b ++ replicate (n % 12) 0) (sym (empty_bytes (n / 12)))

pub few : (n : ℕ) → length {A = ℕ} (replicate (n % 12) 0) < 12
few n = simp length-replicate (omega arith)

-- ---- "No owner has more than four"

module _ (n : ℕ) (same : (xs : List Slot) (x : Operation) → operation_call (packed_table xs ++ replicate (n % 12) 0) x ≡ call_for (replicate (n % 12) 0) (operate xs x)) where
  pub four : (ops : List Operation) → Every (λ (c : Call). FourInBytes c.leaves) (table_calls (replicate n 0) ops)
  four ops =
      let xs = replicate (n / 12) vacant in
      let rest : List ℕ = replicate (n % 12) 0 in
      let is = ap (λ (b : List ℕ). table_calls b ops) (zero_bytes n) ∙ calls rest same xs ops in
      subst (Every (λ (c : Call). FourInBytes c.leaves)) (sym is)
      (every_map (λ (t : Step). AtMostFour t.gives.table) (λ (c : Call). FourInBytes c.leaves) (λ (t : Step). call_for rest t.gives)
      (λ t h. (t.gives.table, (rest, (refl, (few n, h))))) (steps_of xs ops) ((operations.theorems).four xs (empty_list (n / 12)) ops))
