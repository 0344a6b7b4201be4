-- The laws of disclosure, which are all that is used of it. Assumes nothing.
use mathlib.Core.Path.{◌≡◌, refl, subst, sym}
use mathlib.Core.Logic.{◌↔◌, ◌⊎◌, inl, inr}
use mathlib.Core.List.{List, [], ◌∷◌, map}
use Prim.Native.Nat.{◌<◌, ◌^◌, ◌≤◌, ℕ}
use native.Mathlib.Omega.{arith}
use Rattle.lists.specs.Lists.{Every, OneOf}
use Rattle.lists.proofs.ListLaws.{every_imp, every_map}
use Rattle.atoms.specs.Atoms.{last_credential, violation}
use Rattle.atoms.specs.Sets.{Member, Subset}
use Rattle.atoms.proofs.SetLaws.{member_low, set_of-iff}
use Rattle.atoms.proofs.SizeLaws.{low_lt}
use Rattle.rules.specs.Model.{applies, closure}
use Rattle.rules.specs.Policy.{Policy}
use Rattle.rules.specs.Rules.{Headed, Rule}
use Rattle.rules.specs.Stable.{Closed, Least}
use Rattle.rules.proofs.ClosureLaws.{closure_by-grows}
use Rattle.rules.proofs.LeastLaws.{closure_closed, closure_least, closure_within}
use Rattle.records.specs.Policies.{policy_of}
use Rattle.records.specs.Records.{disclosure_kind}
use Rattle.records.proofs.RuleLaws.{every_rule}
use Rattle.disclosure.specs.Disclosure.{Askable, Disclosable, askable, disclosable, heads}
use Rattle.disclosure.specs.Theorems.{Discloses}

-- the head is a credential
abbrev pub Low : Rule → Type 0
Low r = r.head ≤ last_credential

-- each rule's head is askable
heads_askable : (pol : Policy) → Every (λ r. Askable pol r.head) pol.disclosure
heads_askable pol = go pol.disclosure (λ k i. i)
  where
    go : (qs : List Rule) → ((k : ℕ) → OneOf k (map (λ q. q.head) qs) → Askable pol k) → Every (λ r. Askable pol r.head) qs
    go [] f = tt
    go (q ∷ qs) f = (f q.head (inl refl), go qs (λ k i. f k (inr i)))

-- what holds if some rule heads k
askable_some : (Q : Type 0) (rs : List Rule) (k : ℕ) → Every (λ r. r.head ≡ k → Q) rs → OneOf k (map (λ r. r.head) rs) → Q
askable_some Q [] k h x'' = elim x'' [ ]
askable_some Q (r ∷ rs) k h (inl e) = h.0 (sym e)
askable_some Q (r ∷ rs) k h (inr i) = askable_some Q rs k h.1 i

-- by records
pub askable_means : (bytes : List ℕ) (k : ℕ) → Askable (policy_of bytes) k ↔ ((j : ℕ) × Discloses bytes k j)
askable_means bytes k = (
  askable_some Found pol.disclosure k
      ((every_rule disclosure_kind bytes (λ r. r.head ≡ k → Found)).1 (λ j l e h. (j, record { inside = omega arith; kind = e; head = h }))),
  λ (j, f). subst (Askable pol) f.head
      ((every_rule disclosure_kind bytes (λ r. Askable pol r.head)).0 (heads_askable pol) j (omega (arith, f.inside)) f.kind),
)
  where
    pol : Policy
    pol = policy_of bytes

    Found : Type 0
    Found = (j : ℕ) × Discloses bytes k j

module _ (pol : Policy) where
  pub shown_disclosable : (P : ℕ) → Subset P (disclosable pol P)
  unfolding disclosable
  shown_disclosable P = closure_by-grows applies pol.disclosure P

  -- what disclosure adds is askable
  pub disclosable_adds : (P k : ℕ) → Member k (disclosable pol P) → Member k P ⊎ Askable pol k
  unfolding disclosable
  disclosable_adds P =
      closure_within (λ k. Member k P ⊎ Askable pol k) pol.disclosure P (λ k m. inl m)
      (every_imp (λ r. Askable pol r.head) _ (λ r i f. inr i) pol.disclosure (heads_askable pol))

-- ---- where the heads are credentials

module _ (pol : Policy) (low : Every Low pol.disclosure) where
  headed : Every Headed pol.disclosure
  headed = every_imp Low Headed (λ r l. omega arith) pol.disclosure low

  -- more is disclosable where more is shown
  pub disclosable_mono : (P Q : ℕ) → Subset P Q → Subset (disclosable pol P) (disclosable pol Q)
  unfolding disclosable
  disclosable_mono P Q f =
      let c = closure_closed pol.disclosure headed Q in
      closure_within (λ k. Member k (closure pol.disclosure Q)) pol.disclosure P (λ k m. c.holds k (f k m)) c.respects

  pub disclosable_least : (P : ℕ) → Least (Closed pol.disclosure P) (disclosable pol P)
  unfolding disclosable
  disclosable_least P = closure_least pol.disclosure headed P

  pub disclosable_iff : (P k : ℕ) → Member k (disclosable pol P) ↔ Disclosable pol P k
  disclosable_iff P k =
      let l = disclosable_least P in
      (λ m D c. l.least D c k m, λ f. f (disclosable pol P) l.one)

  pub askable_credential : (k : ℕ) → Askable pol k → k ≤ last_credential
  askable_credential k =
      askable_some (k ≤ last_credential) pol.disclosure k
      (every_imp Low (λ r. r.head ≡ k → k ≤ last_credential) (λ r l e. omega arith) pol.disclosure low)

  pub disclosable_credentials : (P : ℕ) → P < 2 ^ 16 → disclosable pol P < 2 ^ 16
  disclosable_credentials P l = low_lt (disclosable pol P) 16 (λ k m. pick k (disclosable_adds pol P k m))
    where
      pick : (k : ℕ) → Member k P ⊎ Askable pol k → k < 16
      pick k (inl m) = member_low P 16 k l m
      pick k (inr i) = omega (arith, askable_credential k i)

  pub askable_iff : (k : ℕ) → Member k (askable pol) ↔ Askable pol k
  unfolding askable
  askable_iff = set_of-iff (heads pol) (every_map Low (λ h. h ≤ violation) (λ r. r.head) (λ r l. omega arith) pol.disclosure low)
