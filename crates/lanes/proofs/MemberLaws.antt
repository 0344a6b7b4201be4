-- The lanes that take a member. Assumes nothing.
use mathlib.Core.Path.{◌∙◌, ◌≡◌, ap, refl, subst, sym}
use mathlib.Core.Logic.{◌≢◌}
use mathlib.Core.Bool.{◌&&◌, Bool, true}
use Prim.Native.Nat.{◌%◌, ◌*◌, ◌+◌, ◌-◌, ◌/◌, ◌<◌, ◌^◌, ◌≤◌, suc, zero, ℕ}
use lib.Dec.{eqb}
use lib.Pow.{shr-shr}
use native.Mathlib.Decide.{ℕ_discrete}
use native.Mathlib.Nat.{not-suc-le-zero}
use native.Mathlib.Omega.{arith}
use Rattle.validation.proofs.TestLaws.{and_true, eqb_true}
use Rattle.atoms.specs.Sets.{bit}
use Rattle.atoms.proofs.SetLaws.{bit_empty, bit_lt}
use Rattle.lane_table.specs.LaneSets.{EachLane, Splat, word}
use Rattle.lane_table.specs.declared.lane_set.LaneSet.{LaneSet}
use Rattle.lane_table.proofs.BitLaws.{full_bit}
use Rattle.lanes.specs.Candidates.{Pattern, Takers, number}

-- ---- the six patterns, by a test of each bit

each : ℕ → (ℕ → Bool) → Bool
each zero f = true
each (suc n) f = f n && each n f

each_at : (n : ℕ) (f : ℕ → Bool) → each n f ≡ true → (i : ℕ) → i < n → f i ≡ true
unfolding each
each_at zero f e i l = absurd (not-suc-le-zero l)
each_at (suc n) f e i l = go (ℕ_discrete n i) (λ (m : i < n). each_at n f (and_true (f n) (each n f) e).1 i m)
  where
    go : Dec (n ≡ i) → (i < n → f i ≡ true) → f i ≡ true
    go (yes q) ih = subst (λ (x : ℕ). f x ≡ true) q (and_true (f n) (each n f) e).0
    go (no q) ih = ih (omega arith)

fits : ℕ → ℕ → Bool
unfolding each
fits j p = each 64 (λ i. eqb (bit p i) (bit i j))

pattern_at : (k p j : ℕ) → fits k p ≡ true → j ≡ k → Pattern j p
unfolding fits
pattern_at k p j ok e = rw e (record { each = λ i l. eqb_true _ _ (each_at 64 (λ i. eqb (bit p i) (bit i k)) ok i l) })

pub pattern_0 : (j : ℕ) → j ≡ 0 → Pattern j 0xaaaaaaaaaaaaaaaa
unfolding fits
pattern_0 j = pattern_at 0 0xaaaaaaaaaaaaaaaa j refl

pub pattern_1 : (j : ℕ) → j ≡ 1 → Pattern j 0xcccccccccccccccc
unfolding fits
pattern_1 j = pattern_at 1 0xcccccccccccccccc j refl

pub pattern_2 : (j : ℕ) → j ≡ 2 → Pattern j 0xf0f0f0f0f0f0f0f0
unfolding fits
pattern_2 j = pattern_at 2 0xf0f0f0f0f0f0f0f0 j refl

pub pattern_3 : (j : ℕ) → j ≡ 3 → Pattern j 0xff00ff00ff00ff00
unfolding fits
pattern_3 j = pattern_at 3 0xff00ff00ff00ff00 j refl

pub pattern_4 : (j : ℕ) → j ≡ 4 → Pattern j 0xffff0000ffff0000
unfolding fits
pattern_4 j = pattern_at 4 0xffff0000ffff0000 j refl

pub pattern_5 : (j : ℕ) → j ≡ 5 → Pattern j 0xffffffff00000000
unfolding fits
pattern_5 j = pattern_at 5 0xffffffff00000000 j refl

-- ---- the takers of a member

low_bit : (x i j : ℕ) → j < 6 → bit (64 * x + i) j ≡ bit i j
low_bit x i zero l = omega arith
low_bit x i (suc zero) l = omega arith
low_bit x i (suc (suc zero)) l = omega arith
low_bit x i (suc (suc (suc zero))) l = omega arith
low_bit x i (suc (suc (suc (suc zero)))) l = omega arith
low_bit x i (suc (suc (suc (suc (suc zero))))) l = omega arith
low_bit x i (suc (suc (suc (suc (suc (suc j)))))) l = absurd (omega arith)

high_bit : (j b t i : ℕ) → 8 ≤ j → t < 4 → i < 64 → bit (number b t i) j ≡ bit b (j - 8)
high_bit j b t i l m n =
    let e : 8 + (j - 8) ≡ j = omega arith in
    let d : number b t i / 256 ≡ b = omega arith in
    ap (λ (x : ℕ). x % 2)
    (ap (λ (x : ℕ). number b t i / 2 ^ x) (sym e) ∙ sym (shr-shr (number b t i) 8 (j - 8)) ∙ ap (λ (x : ℕ). x / 2 ^ (j - 8)) d)

module _ (j b : ℕ) where
  pub takers_low : (p : ℕ) (q : LaneSet) → j < 6 → Pattern j p → Splat p q → Takers j b q
  takers_low p q l h s = record {
    each = λ t i m n.
        let e : 64 * (4 * b + t) + i ≡ number b t i = omega arith in
        ap (λ (x : ℕ). bit x i) (s.each t) ∙ h.each i n ∙ sym (low_bit (4 * b + t) i j l) ∙ ap (λ (x : ℕ). bit x j) e;
  }

  pub takers_6 : j ≡ 6 → Takers j b (record { a = 0; b = 0xffffffffffffffff; c = 0; d = 0xffffffffffffffff })
  takers_6 e = rw e (record { each = go })
    where
      go : EachLane (λ t i. bit (word (record { a = 0; b = 0xffffffffffffffff; c = 0; d = 0xffffffffffffffff }) t) i ≡ bit (number b t i) 6)
      go zero i l n = bit_empty i ∙ omega arith
      go (suc zero) i l n = full_bit i n ∙ omega arith
      go (suc (suc zero)) i l n = bit_empty i ∙ omega arith
      go (suc (suc (suc zero))) i l n = full_bit i n ∙ omega arith
      go (suc (suc (suc (suc t)))) i l n = absurd (omega arith)

  pub takers_7 : j ≡ 7 → Takers j b (record { a = 0; b = 0; c = 0xffffffffffffffff; d = 0xffffffffffffffff })
  takers_7 e = rw e (record { each = go })
    where
      go : EachLane (λ t i. bit (word (record { a = 0; b = 0; c = 0xffffffffffffffff; d = 0xffffffffffffffff }) t) i ≡ bit (number b t i) 7)
      go zero i l n = bit_empty i ∙ omega arith
      go (suc zero) i l n = bit_empty i ∙ omega arith
      go (suc (suc zero)) i l n = full_bit i n ∙ omega arith
      go (suc (suc (suc zero))) i l n = full_bit i n ∙ omega arith
      go (suc (suc (suc (suc t)))) i l n = absurd (omega arith)

  pub takers_in : 8 ≤ j → bit b (j - 8) ≡ 1 → (q : LaneSet) → Splat 0xffffffffffffffff q → Takers j b q
  takers_in h e q s = record {
    each = λ t i l n.
        ap (λ (x : ℕ). bit x i) (s.each t) ∙ full_bit i n ∙ sym e ∙ sym (high_bit j b t i h l n);
  }

  pub takers_out : 8 ≤ j → bit b (j - 8) ≢ 1 → (q : LaneSet) → Splat 0 q → Takers j b q
  takers_out h e q s = record {
    each = λ t i l n.
        let z : bit b (j - 8) ≡ 0 = omega (arith, bit_lt b (j - 8)) in
        ap (λ (x : ℕ). bit x i) (s.each t) ∙ bit_empty i ∙ sym z ∙ sym (high_bit j b t i h l n);
  }
