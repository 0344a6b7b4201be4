-- The loops that find the cheapest lane. Assumes nothing.
use mathlib.Core.Path.{◌∙◌, ◌≡◌, ap, refl, subst, sym}
use mathlib.Core.Logic.{◌⊎◌, inl, inr}
use mathlib.Core.List.{List}
use Prim.Native.Nat.{◌%◌, ◌*◌, ◌+◌, ◌/◌, ◌<◌, ◌≤◌, suc, ℕ}
use lib.ListN.{get_or}
use native.Mathlib.Decide.{dec_lt, ℕ_discrete}
use native.Mathlib.Nat.{not-suc-le-zero}
use native.Mathlib.Omega.{arith}
use Rattle.validation.proofs.TestLaws.{eqb_true, true_eqb}
use Rattle.atoms.specs.Sets.{bit}
use Rattle.atoms.proofs.SetLaws.{bit_empty}
use Rattle.ranking.specs.Keys.{never}
use Rattle.ranking.specs.Cheapest.{Cheapest, Joined, Passing}

module _ (keys words : List ℕ) where
  pub cheapest_none : Cheapest keys words 0 never
  cheapest_none = record { most = omega arith; least = λ i k _. absurd (not-suc-le-zero k); one = inl refl }

  -- one lane more
  pub cheapest_more : (i r x r' : ℕ) → Cheapest keys words i r → x ≡ bit (get_or words (i / 64) 0) (i % 64) → Joined r x (get_or keys i 0) r'
      → Cheapest keys words (suc i) r'
  cheapest_more i r x r' h is j = record {
    most = omega (arith, h.most, j.kept);
    least = λ k m p. least k m p (ℕ_discrete k i);
    one = one j.one;
  }
    where
      least : (k : ℕ) → k < suc i → Passing words k → Dec (k ≡ i) → r' ≤ get_or keys k 0
      least k m p (yes e) =
          subst (λ (y : ℕ). r' ≤ get_or keys y 0) (sym e) (j.met (is ∙ eqb_true (bit (get_or words (i / 64) 0) (i % 64)) 1 (subst (Passing words) e p)))
      least k m p (no d) = omega (arith, h.least k (omega arith) p, j.kept)

      one : (r' ≡ r) ⊎ ((x ≡ 1) × (r' ≡ get_or keys i 0)) → (r' ≡ never) ⊎ ((k : ℕ) × (k < suc i) × Passing words k × (get_or keys k 0 ≡ r'))
      one (inl e) = older h.one
        where
          older : (r ≡ never) ⊎ ((k : ℕ) × (k < i) × Passing words k × (get_or keys k 0 ≡ r))
              → (r' ≡ never) ⊎ ((k : ℕ) × (k < suc i) × Passing words k × (get_or keys k 0 ≡ r'))
          older (inl d) = inl (e ∙ d)
          older (inr (k, m, p, d)) = inr (k, omega arith, p, d ∙ sym e)
      one (inr (p, e)) = inr (i, omega arith, true_eqb (sym is ∙ p), sym e)

  -- a word that is 0 has no lane that passes
  pub cheapest_empty : (t r : ℕ) → Cheapest keys words (64 * t) r → get_or words t 0 ≡ 0 → Cheapest keys words (64 * t + 64) r
  cheapest_empty t r h z = record {
    most = h.most;
    least = λ k m p. least k m p (dec_lt k (64 * t));
    one = one h.one;
  }
    where
      least : (k : ℕ) → k < 64 * t + 64 → Passing words k → Dec (k < 64 * t) → r ≤ get_or keys k 0
      least k m p (yes l) = h.least k l p
      least k m p (no l) =
          let e : k / 64 ≡ t = omega arith in
          let o : bit (get_or words (k / 64) 0) (k % 64) ≡ 1 = eqb_true (bit (get_or words (k / 64) 0) (k % 64)) 1 p in
          let n : bit (get_or words (k / 64) 0) (k % 64) ≡ 0 = ap (λ (x : ℕ). bit (get_or words x 0) (k % 64)) e ∙ ap (λ (x : ℕ). bit x (k % 64)) z ∙ bit_empty (k % 64) in
          absurd (omega (arith, o, n))

      one : (r ≡ never) ⊎ ((k : ℕ) × (k < 64 * t) × Passing words k × (get_or keys k 0 ≡ r))
          → (r ≡ never) ⊎ ((k : ℕ) × (k < 64 * t + 64) × Passing words k × (get_or keys k 0 ≡ r))
      one (inl e) = inl e
      one (inr (k, m, p, e)) = inr (k, omega arith, p, e)

-- the bit of lane 64 t + i
pub bit_at : (words : List ℕ) (t i : ℕ) → i < 64 → bit (get_or words ((64 * t + i) / 64) 0) ((64 * t + i) % 64) ≡ bit (get_or words t 0) i
bit_at words t i l =
    let a : (64 * t + i) / 64 ≡ t = omega arith in
    let b : (64 * t + i) % 64 ≡ i = omega arith in
    ap (λ (x : ℕ). bit (get_or words x 0) ((64 * t + i) % 64)) a ∙ ap (λ (x : ℕ). bit (get_or words t 0) x) b
