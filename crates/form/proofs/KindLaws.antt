-- Which kinds there are, and what is asked of a record of each kind by itself. Assumes nothing.
use mathlib.Core.Path.{◌≡◌, subst}
use mathlib.Core.Logic.{◌↔◌, inl, inr}
use Prim.Native.Nat.{◌<◌, ◌≤◌, ℕ}
use native.Mathlib.Decide.{dec_lt}
use native.Mathlib.Omega.{arith}
use Rattle.atoms.specs.Sets.{Member}
use Rattle.atoms.proofs.SetLaws.{none_in_empty, none_is_empty}
use Rattle.records.specs.Records.{Record}
use Rattle.form.specs.Theorems.{RecordAllowed}
use Rattle.form.specs.WrittenForm.{KindAllowed}

pub kinds_iff : (d : Record) → KindAllowed d ↔ ((1 ≤ d.kind) × (d.kind ≤ 3))
kinds_iff d = (forth, λ h. back h (dec_lt d.kind 2) (dec_lt d.kind 3))
  where
    forth : KindAllowed d → (1 ≤ d.kind) × (d.kind ≤ 3)
    forth (inl e) = (omega (arith, e), omega (arith, e))
    forth (inr (inl e)) = (omega (arith, e), omega (arith, e))
    forth (inr (inr e)) = (omega (arith, e), omega (arith, e))

    back : (1 ≤ d.kind) × (d.kind ≤ 3) → Dec (d.kind < 2) → Dec (d.kind < 3) → KindAllowed d
    back h (yes l) _ = inl (omega (arith, h.0, l))
    back h (no l) (yes m) = inr (inl (omega (arith, l, m)))
    back h (no l) (no m) = inr (inr (omega (arith, h.1, m)))

module _ (d : Record) where
  pub access_iff : d.kind ≡ 1
      → RecordAllowed d ↔ (((16 ≤ d.rule.head) × (d.rule.head ≤ 63)) × ((Member 63 d.rule.positive → ⊥) × (Member 63 d.rule.negated → ⊥)))
  access_iff e = (
    λ r. (r.head.0 e, r.body.0 e),
    λ (h, b). record {
      kind = inl e;
      head = (λ _. h, (λ a. absurd (omega (arith, a, e)), λ a. absurd (omega (arith, a, e))));
      body = (λ _. b, λ a. absurd (omega (arith, a, e)));
      weight = λ a. absurd (omega (arith, a, e));
    },
  )

  pub disclosure_iff : d.kind ≡ 2
      → RecordAllowed d ↔ ((d.rule.head ≤ 15) × (((k : ℕ) → Member k d.rule.positive → k ≤ 15) × (d.rule.negated ≡ 0)))
  disclosure_iff e = (
    λ r. (r.head.1.0 e, ((r.body.1 e).0, none_is_empty d.rule.negated (r.body.1 e).1)),
    λ (h, (p, n)). record {
      kind = inr (inl e);
      head = (λ a. absurd (omega (arith, a, e)), (λ _. h, λ a. absurd (omega (arith, a, e))));
      body = (λ a. absurd (omega (arith, a, e)), λ _. (p, λ k m. none_in_empty k (subst (λ (s : ℕ). Member k s) n m)));
      weight = λ a. absurd (omega (arith, a, e));
    },
  )

  pub weight_iff : d.kind ≡ 3 → RecordAllowed d ↔ ((d.rule.head ≤ 15) × ((d.rule.positive ≤ 15) × (d.rule.negated ≡ 0)))
  weight_iff e = (
    λ r. (r.head.1.1 e, ((r.weight e).0, none_is_empty d.rule.negated (r.weight e).1)),
    λ (h, (p, n)). record {
      kind = inr (inr e);
      head = (λ a. absurd (omega (arith, a, e)), (λ a. absurd (omega (arith, a, e)), λ _. h));
      body = (λ a. absurd (omega (arith, a, e)), λ a. absurd (omega (arith, a, e)));
      weight = λ _. (p, λ k m. none_in_empty k (subst (λ (s : ℕ). Member k s) n m));
    },
  )
