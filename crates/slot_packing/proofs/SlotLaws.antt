-- Twelve bytes: what is packed is what is unpacked, and nothing else stands for a slot. Assumes nothing.
use mathlib.Core.Path.{◌∙◌, ◌≡◌, ap, refl, sym}
use mathlib.Core.Logic.{◌↔◌}
use mathlib.Core.Bool.{Bool, cond, false, true}
use mathlib.Core.List.{List, [], ◌∷◌}
use mathlib.Core.Option.{Option, map, none, some}
use Prim.Native.Nat.{◌<◌, ℕ}
use lib.Dec.{eqb}
use lib.ListN.{get_or, length, replicate}
use native.Mathlib.Omega.{arith}
use Rattle.encoding.specs.LittleEndian.{Bytes}
use Rattle.validation.proofs.TestLaws.{and_true, eqb_true}
use Rattle.rounds.specs.Sessions.{Session}
use Rattle.slots.specs.Slots.{Slot, held, vacant}
use Rattle.packing.specs.Packed.{packed, unpacked}
use Rattle.packing.proofs.RecordLaws.{stands, unpacks_packed}
use Rattle.slot_packing.specs.PackedSlots.{all_zero, empty_in, empty_when, held_in, packed_slot, unpacked_slot}

-- ---- twelve bytes

pub ten : (s : Session) → length (packed s) ≡ 10
unfolding packed
ten s = refl

pub twelve : (x : Slot) → length (packed_slot x) ≡ 12
unfolding packed_slot
twelve vacant = refl
twelve (held o s) = rw (ten s)

-- ---- packed, then unpacked

pub unpacks_slot : (x : Slot) → unpacked_slot (packed_slot x) ≡ some x
unfolding packed_slot unpacked_slot all_zero
unpacks_slot vacant = refl
unpacks_slot (held o s) = rw (ten s) (ap (map (held o)) (unpacks_packed s))

-- fewer bytes than twelve are none
pub short : (bytes : List ℕ) → length bytes < 12 → unpacked_slot bytes ≡ none
unfolding unpacked_slot
short bytes l = go (eqb (length bytes) 12) refl
  where
    go : (t : Bool) → eqb (length bytes) 12 ≡ t → cond t (cond (eqb (get_or bytes 1 0) 1) (held_in bytes) (empty_in bytes)) none ≡ none
    go true is = absurd (omega (arith, eqb_true (length bytes) 12 is))
    go false is = refl

-- ---- unpacked, then packed

zeros : (bytes : List ℕ) → all_zero bytes ≡ true → replicate (length bytes) 0 ≡ bytes
unfolding all_zero
zeros [] e = refl
zeros (b ∷ bytes) e = let both = and_true (eqb b 0) (all_zero bytes) e in rw (eqb_true b 0 both.0, zeros bytes both.1)

module _ (x : Slot) where
  empty_packs : (bytes : List ℕ) → length bytes ≡ 12 → empty_in bytes ≡ some x → packed_slot x ≡ bytes
  unfolding packed_slot
  empty_packs bytes l = go (all_zero bytes) refl
    where
      go : (z : Bool) → all_zero bytes ≡ z → empty_when z ≡ some x → packed_slot x ≡ bytes
      go true is e = let found : x ≡ vacant = cc in ap packed_slot found ∙ ap (λ (n : ℕ). replicate n 0) (sym l) ∙ zeros bytes is
      go false is e = cc

  held_packs : (o : ℕ) (rest : List ℕ) → Bytes rest → length rest ≡ 10 → map (held o) (unpacked rest) ≡ some x → packed_slot x ≡ o ∷ 1 ∷ rest
  unfolding packed_slot
  held_packs o rest b l = go (unpacked rest) refl
    where
      go : (u : Option Session) → unpacked rest ≡ u → map (held o) u ≡ some x → packed_slot x ≡ o ∷ 1 ∷ rest
      go none is e = cc
      go (some s) is e =
          let found : x ≡ held o s = cc in
          ap packed_slot found ∙ ap (λ (r : List ℕ). o ∷ 1 ∷ r) ((stands rest b l s).0 is)

  packs_slot : (bytes : List ℕ) → Bytes bytes → length bytes ≡ 12 → cond (eqb (get_or bytes 1 0) 1) (held_in bytes) (empty_in bytes) ≡ some x → packed_slot x ≡ bytes
  packs_slot [] b l e = absurd (omega arith)
  packs_slot (o ∷ []) b l e = absurd (omega arith)
  packs_slot (o ∷ h ∷ rest) b l e = go (eqb h 1) refl e
    where
      go : (t : Bool) → eqb h 1 ≡ t → cond t (held_in (o ∷ h ∷ rest)) (empty_in (o ∷ h ∷ rest)) ≡ some x → packed_slot x ≡ o ∷ h ∷ rest
      go true is e = rw (eqb_true h 1 is) (held_packs o rest b.1.1 (omega arith) e)
      go false is e = empty_packs (o ∷ h ∷ rest) l e

  pub stands_slot : (bytes : List ℕ) → Bytes bytes → (unpacked_slot bytes ≡ some x) ↔ (packed_slot x ≡ bytes)
  unfolding unpacked_slot
  stands_slot bytes b = (go (eqb (length bytes) 12) refl, λ h. ap unpacked_slot (sym h) ∙ unpacks_slot x)
    where
      go : (t : Bool) → eqb (length bytes) 12 ≡ t → cond t (cond (eqb (get_or bytes 1 0) 1) (held_in bytes) (empty_in bytes)) none ≡ some x
          → packed_slot x ≡ bytes
      go true is e = packs_slot bytes b (eqb_true (length bytes) 12 is) e
      go false is e = cc
