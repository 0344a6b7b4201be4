-- The set of a lane. Assumes nothing.
use mathlib.Core.Path.{◌∙◌, ◌≡◌, ap, subst, sym}
use mathlib.Core.Logic.{◌≢◌, inl, inr}
use mathlib.Core.Bool.{Bool, cond, false, true}
use mathlib.Core.List.{List}
use Prim.Native.Nat.{◌<◌, ◌^◌, ◌≤◌, suc, zero, ℕ}
use lib.Dec.{eqb}
use native.Mathlib.Decide.{dec_lt, ℕ_discrete}
use native.Mathlib.Nat.{not-suc-le-zero}
use native.Mathlib.Omega.{arith}
use Rattle.atoms.specs.Sets.{Member, bit, member, union}
use Rattle.atoms.proofs.SetLaws.{bit_empty, bit_lt, bit_one, bit_union, ext}
use Rattle.lane_table.specs.LaneSets.{word}
use Rattle.lane_table.specs.Tables.{Same, Stored, cell, gather, lane}
use Rattle.lane_table.specs.declared.lane_set.LaneSet.{LaneSet}
use Rattle.lane_table.proofs.BitLaws.{InOrOut, bit_other, tested}

gather_high : (n : ℕ) (f : ℕ → ℕ) (i k : ℕ) → n ≤ k → bit (gather n f i) k ≡ 0
unfolding gather
gather_high zero f i k l = bit_empty k
gather_high (suc n) f i k l = go (member i (f n)) (gather_high n f i k (omega arith))
  where
    go : (b : Bool) → bit (gather n f i) k ≡ 0 → bit (cond b (union (gather n f i) (2 ^ n)) (gather n f i)) k ≡ 0
    go true h = omega (arith, bit_union (gather n f i) (2 ^ n) k, bit_other n k (λ e. omega arith))
    go false h = h

gather_bit : (n : ℕ) (f : ℕ → ℕ) (i k : ℕ) → k < n → bit (gather n f i) k ≡ bit (f k) i
unfolding gather
gather_bit zero f i k l = absurd (not-suc-le-zero l)
gather_bit (suc n) f i k l = go (tested (f n) i) (ℕ_discrete k n) (λ (m : k < n). gather_bit n f i k m)
  where
    G : ℕ
    G = gather n f i

    go : InOrOut (f n) i → Dec (k ≡ n)
        → (k < n → bit G k ≡ bit (f k) i) → bit (cond (member i (f n)) (union G (2 ^ n)) G) k ≡ bit (f k) i
    go (inl (e, b)) (yes q) ih = rw (e, q) (omega (arith, bit_union G (2 ^ n) n, bit_one n, gather_high n f i n (omega arith)))
    go (inl (e, b)) (no q) ih = rw e (omega (arith, bit_union G (2 ^ n) k, bit_other n k q, ih (omega arith), bit_lt G k))
    go (inr (e, b)) (yes q) ih = rw (e, q) (omega (arith, gather_high n f i n (omega arith)))
    go (inr (e, b)) (no q) ih = rw e (ih (omega arith))

module _ (w : List ℕ) (t i : ℕ) where
  pub lane_bit : (k : ℕ) → k < 64 → bit (lane w t i) k ≡ bit (cell w t k) i
  unfolding lane
  lane_bit k l = gather_bit 64 (cell w t) i k l

  pub lane_high : (k : ℕ) → 64 ≤ k → bit (lane w t i) k ≡ 0
  unfolding lane
  lane_high k l = gather_high 64 (cell w t) i k l

  pub lane_low : (k : ℕ) → Member k (lane w t i) → k < 64
  lane_low k m = go (dec_lt k 64)
    where
      go : Dec (k < 64) → k < 64
      go (yes l) = l
      go (no l) = let z : bit (lane w t i) k ≡ 0 = lane_high k (omega arith) in absurd (omega arith)

  pub lane_member : (k : ℕ) → k < 64 → member k (lane w t i) ≡ member i (cell w t k)
  lane_member k l = ap (λ (x : ℕ). eqb x 1) (lane_bit k l)

  -- it is S where the words say so
  pub lane_is : (S : ℕ) → ((k : ℕ) → k < 64 → bit (cell w t k) i ≡ bit S k) → ((k : ℕ) → 64 ≤ k → bit S k ≡ 0) → lane w t i ≡ S
  lane_is S f g = ext (λ k. go k (dec_lt k 64))
    where
      go : (k : ℕ) → Dec (k < 64) → bit (lane w t i) k ≡ bit S k
      go k (yes l) = lane_bit k l ∙ f k l
      go k (no l) = lane_high k (omega arith) ∙ sym (g k (omega arith))

-- a row is written
module _ (k : ℕ) (q : LaneSet) (before after : List ℕ) (s : Stored k q before after) where
  -- an atom's: the set has the atom where the row says so
  pub stored_lane : (t i S : ℕ) → t < 4 → bit (word q t) i ≡ bit S k
      → ((j : ℕ) → j ≢ k → bit (lane before t i) j ≡ bit S j) → k < 64 → lane after t i ≡ S
  stored_lane t i S l here there m = lane_is after t i S (λ j n. go j n (ℕ_discrete j k)) (λ j n. sym (there j (λ e. omega arith)) ∙ lane_high before t i j n)
    where
      go : (j : ℕ) → j < 64 → Dec (j ≡ k) → bit (cell after t j) i ≡ bit S j
      go j n (yes e) = subst (λ (x : ℕ). bit (cell after t x) i ≡ bit S x) (sym e) (ap (λ (x : ℕ). bit x i) (s.here t l) ∙ here)
      go j n (no ne) = ap (λ (x : ℕ). bit x i) (s.there t j l ne) ∙ sym (lane_bit before t i j n) ∙ there j ne

  -- a rule's: the sets are as they were
  pub stored_same : 64 ≤ k → Same before after
  stored_same m t i l n =
      lane_is after t i (lane before t i)
      (λ j h. ap (λ (x : ℕ). bit x i) (s.there t j l (λ e. omega arith)) ∙ sym (lane_bit before t i j h)) (lane_high before t i)
