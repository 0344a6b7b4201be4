-- Weights in a policy's bytes: which record gives a second one, and what credentials weigh where none does. Assumes nothing.
use mathlib.Core.Path.{◌∙◌, ◌≡◌, ap, refl, subst, sym}
use mathlib.Core.Logic.{◌↔◌, ◌⊎◌, inl, inr}
use mathlib.Core.Bool.{Bool, ◌&&◌, false, true, true≢false}
use mathlib.Core.List.{List}
use Prim.Native.Nat.{◌*◌, ◌+◌, ◌<◌, ◌≤◌, suc, zero, ℕ}
use lib.Dec.{eqb}
use lib.ListN.{length}
use native.Mathlib.Decide.{dec_lt}
use native.Mathlib.Nat.{eq-or-lt_of_le, le_of_suc-le-suc}
use native.Mathlib.Omega.{arith}
use Rattle.validation.specs.Statements.{Decides}
use Rattle.validation.proofs.DecideLaws.{decides_and, decides_eq}
use Rattle.rules.specs.Weights.{weight_in}
use Rattle.rules.proofs.WeightLaws.{unnamed_weight, weight_is, weight_most}
use Rattle.records.specs.Policies.{policy_of}
use Rattle.records.specs.Records.{record_at, records_from, weight_kind}
use Rattle.records.proofs.RuleLaws.{every_before, every_whole}
use Rattle.form.specs.Theorems.{SecondWeight, Weights, Written}
use Rattle.form.specs.WrittenForm.{FirstWeight, Weighs}
use Rattle.form.proofs.RecordLaws.{decides_weighs}

module _ (bytes : List ℕ) where
  -- ---- a second weight

  -- record k gives the first weight exactly where no record before it gives its credential one
  pub first_iff : (k : ℕ) → FirstWeight (records_from bytes 0 k) (record_at bytes k) ↔ ((j : ℕ) → j < k → SecondWeight bytes j k → ⊥)
  first_iff k =
      let i = every_before bytes k (λ d. Weighs (record_at bytes k).rule.head d → ⊥) in
      (λ f j l s. i.0 (f s.weighs) j l s.before, λ h e. i.1 (λ j l w. h j l (record { weighs = e; before = w })))

  decides_second : (j k : ℕ)
      → Decides (eqb (record_at bytes k).kind weight_kind
      && (eqb (record_at bytes j).kind weight_kind && eqb (record_at bytes j).rule.head (record_at bytes k).rule.head)) (SecondWeight bytes j k)
  decides_second j k =
      let i = decides_and _ _ (decides_eq (record_at bytes k).kind weight_kind) (decides_weighs (record_at bytes k).rule.head (record_at bytes j)) in
      (λ e. let h = i.0 e in record { weighs = h.0; before = h.1 }, λ s. i.1 (s.weighs, s.before))

  -- the first n records are looked through
  none_or_second : (k n : ℕ) → ((j : ℕ) → j < n → SecondWeight bytes j k → ⊥) ⊎ ((j : ℕ) × (j < n) × SecondWeight bytes j k)
  none_or_second k zero = inl (λ j l s. absurd (omega arith))
  none_or_second k (suc n) = go _ (decides_second n k) (none_or_second k n)
    where
      last : (SecondWeight bytes n k → ⊥) → ((j : ℕ) → j < n → SecondWeight bytes j k → ⊥) → (j : ℕ) → (j ≡ n) ⊎ (j < n) → SecondWeight bytes j k → ⊥
      last h f j (inl e) s = h (subst (λ (i : ℕ). SecondWeight bytes i k) e s)
      last h f j (inr l) s = f j l s

      go : (b : Bool) → Decides b (SecondWeight bytes n k)
          → ((j : ℕ) → j < n → SecondWeight bytes j k → ⊥) ⊎ ((j : ℕ) × (j < n) × SecondWeight bytes j k)
          → ((j : ℕ) → j < suc n → SecondWeight bytes j k → ⊥) ⊎ ((j : ℕ) × (j < suc n) × SecondWeight bytes j k)
      go b d (inr (j, l, s)) = inr (j, omega arith, s)
      go true d (inl f) = inr (n, omega arith, d.0 refl)
      go false d (inl f) = inl (λ j l. last (λ s. true≢false (sym (d.1 s))) f j (eq-or-lt_of_le (le_of_suc-le-suc l)))

  -- where it is not the first, there is one before it
  pub second_iff : (k : ℕ) → (FirstWeight (records_from bytes 0 k) (record_at bytes k) → ⊥) ↔ ((j : ℕ) × (j < k) × SecondWeight bytes j k)
  second_iff k = (λ n. forth n (none_or_second k k), λ (j, l, s) f. (first_iff k).0 f j l s)
    where
      forth : (FirstWeight (records_from bytes 0 k) (record_at bytes k) → ⊥)
          → ((j : ℕ) → j < k → SecondWeight bytes j k → ⊥) ⊎ ((j : ℕ) × (j < k) × SecondWeight bytes j k) → (j : ℕ) × (j < k) × SecondWeight bytes j k
      forth n (inl f) = absurd (n ((first_iff k).1 f))
      forth n (inr x) = x

  -- ---- what credentials weigh

  module _ (w : Written bytes) where
    -- two records that weigh one credential are one record
    one_weighs : (i j : ℕ) → 18 * i + 18 ≤ length bytes → 18 * j + 18 ≤ length bytes → (k : ℕ) → Weighs k (record_at bytes i) → Weighs k (record_at bytes j)
        → i ≡ j
    one_weighs i j l m k x y = go (dec_lt j i)
      where
        second : (i j : ℕ) → Weighs k (record_at bytes i) → Weighs k (record_at bytes j) → SecondWeight bytes i j
        second i j x y = record { weighs = y.kind; before = record { kind = x.kind; head = x.head ∙ sym y.head } }

        up : (i ≡ j) ⊎ (i < j) → i ≡ j
        up (inl e) = e
        up (inr l) = absurd (w.weighed_once i j l m (second i j x y))

        go : Dec (j < i) → i ≡ j
        go (no h) = up (eq-or-lt_of_le (omega arith))
        go (yes h) = absurd (w.weighed_once j i h l (second j i y x))

    named : (j : ℕ) → 18 * j + 18 ≤ length bytes → (k : ℕ) → Weighs k (record_at bytes j) → weight_in (policy_of bytes) k ≡ (record_at bytes j).rule.positive
    named j l k x = weight_is k (record_at bytes j).rule.positive (policy_of bytes).weights
        ((every_whole weight_kind bytes (λ r. r.head ≡ k → r.positive ≡ (record_at bytes j).rule.positive)).1 (λ i m e h.
        ap (λ (i : ℕ). (record_at bytes i).rule.positive) (one_weighs i j m l k (record { kind = e; head = h }) x)))
        (λ f. (every_whole weight_kind bytes (λ r. r.head ≡ k → ⊥)).0 f j l x.kind x.head)

    pub weights : Weights bytes
    weights = record {
      named = named;
      unnamed = λ k f. unnamed_weight (policy_of bytes).weights k
          ((every_whole weight_kind bytes (λ r. r.head ≡ k → ⊥)).1 (λ j l e h. f j l (record { kind = e; head = h })));
      most = λ k. weight_most 15 (omega arith) k (policy_of bytes).weights
          ((every_whole weight_kind bytes (λ r. r.positive ≤ 15)).1 (λ j l e. ((w.records j l).weight e).0));
    }
