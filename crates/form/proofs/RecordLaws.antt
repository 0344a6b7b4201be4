-- The tests of a record decide its form. Assumes nothing.
use mathlib.Core.Path.{◌≡◌, refl, subst, sym}
use mathlib.Core.Bool.{Bool, ◌&&◌, ◌||◌, cond, false, not, true, true≢false}
use mathlib.Core.List.{List, [], ◌∷◌}
use Prim.Native.Nat.{◌^◌, ◌≤◌, ℕ}
use lib.Dec.{eqb}
use native.Mathlib.Omega.{arith}
use Rattle.lists.specs.Lists.{Every}
use Rattle.validation.specs.Statements.{DecideAll, Decides}
use Rattle.validation.proofs.DecideLaws.{decides_and, decides_eq, decides_le, decides_lt, decides_not, decides_or}
use Rattle.validation.proofs.TestLaws.{eqb_true, true_eqb}
use Rattle.atoms.specs.Atoms.{first_derived, violation}
use Rattle.atoms.specs.Sets.{Member}
use Rattle.atoms.proofs.SetLaws.{member_low, none_in_empty, none_is_empty}
use Rattle.atoms.proofs.SizeLaws.{low_lt}
use Rattle.rules.specs.Rules.{Rule}
use Rattle.records.specs.Records.{Record, access_kind, disclosure_kind, weight_kind}
use Rattle.form.specs.PolicyTest.{access_body, access_head, by_kind, disclosure_body, record_tests, weighs, weight_body}
use Rattle.form.specs.WrittenForm.{AccessBody, DisclosureBody, RecordForm, WeightBody, Weighs}

-- ---- heads and bodies

decides_access_head : (r : Rule) → Decides (access_head r) ((first_derived ≤ r.head) × (r.head ≤ violation))
decides_access_head r = decides_and _ _ (decides_le first_derived r.head) (decides_le r.head violation)

decides_access_body : (r : Rule) → Decides (access_body r) (AccessBody r)
decides_access_body r = decides_and _ _ (decides_not _ (decides_eq _ 1)) (decides_not _ (decides_eq _ 1))

-- no atom is in a set exactly where it is empty
decides_empty : (s : ℕ) → Decides (eqb s 0) ((k : ℕ) → Member k s → ⊥)
decides_empty s = (
  λ e k m. none_in_empty k (subst (λ (x : ℕ). Member k x) (eqb_true s 0 e) m),
  λ f. true_eqb (none_is_empty s f),
)

decides_disclosure_body : (r : Rule) → Decides (disclosure_body r) (DisclosureBody r)
decides_disclosure_body r = decides_and _ _ (
  λ e k m. omega (arith, member_low r.positive 16 k ((decides_lt r.positive (2 ^ 16)).0 e) m),
  λ f. (decides_lt r.positive (2 ^ 16)).1 (low_lt r.positive 16 (λ k m. omega (arith, f k m))),
) (decides_empty r.negated)

decides_weight_body : (r : Rule) → Decides (weight_body r) (WeightBody r)
decides_weight_body r = decides_and _ _ (decides_le r.positive _) (decides_empty _)

-- ---- credentials that are weighed

pub decides_weighs : (k : ℕ) (d : Record) → Decides (eqb d.kind weight_kind && eqb d.rule.head k) (Weighs k d)
decides_weighs k d =
    let i = decides_and _ _ (decides_eq d.kind weight_kind) (decides_eq d.rule.head k) in
    (λ e. let h = i.0 e in record { kind = h.0; head = h.1 }, λ w. i.1 (w.kind, w.head))

decides_unweighed : (k : ℕ) (ds : List Record) → Decides (not (weighs k ds)) (Every (λ d. Weighs k d → ⊥) ds)
unfolding weighs
decides_unweighed k [] = (λ e. tt, λ h. refl)
decides_unweighed k (d ∷ ds) = go (eqb d.kind weight_kind && eqb d.rule.head k) (decides_weighs k d) (decides_unweighed k ds)
  where
    go : (b : Bool) → Decides b (Weighs k d) → Decides (not (weighs k ds)) (Every (λ d. Weighs k d → ⊥) ds)
        → Decides (not (b || weighs k ds)) ((Weighs k d → ⊥) × Every (λ d. Weighs k d → ⊥) ds)
    go true p ih = (λ e. absurd (true≢false (sym e)), λ h. absurd (h.0 (p.0 refl)))
    go false p ih = (λ e. (λ w. true≢false (sym (p.1 w)), ih.0 e), λ h. ih.1 h.1)

-- ---- the record

-- a test for each kind
pub decides_kind : (d : Record) (a b c : Bool) {A B C : Type 0} → Decides a A → Decides b B → Decides c C
    → Decides (by_kind d a b c) ((d.kind ≡ access_kind → A) × ((d.kind ≡ disclosure_kind → B) × (d.kind ≡ weight_kind → C)))
decides_kind d a b c {A} {B} {C} f g h =
    go (eqb d.kind access_kind) (eqb d.kind disclosure_kind) (eqb d.kind weight_kind) (is access_kind) (is disclosure_kind) (is weight_kind)
  where
    is : (n : ℕ) → Decides (eqb d.kind n) (d.kind ≡ n)
    is n = decides_eq d.kind n

    go : (x y z : Bool) → Decides x (d.kind ≡ access_kind) → Decides y (d.kind ≡ disclosure_kind) → Decides z (d.kind ≡ weight_kind)
        → Decides (cond x a (cond y b (cond z c true))) ((d.kind ≡ access_kind → A) × ((d.kind ≡ disclosure_kind → B) × (d.kind ≡ weight_kind → C)))
    go true y z p q r =
        let one : d.kind ≡ access_kind = p.0 refl in
        (λ t. (λ _. f.0 t, (λ two. absurd (omega arith), λ three. absurd (omega arith))), λ k. f.1 (k.0 one))
    go false true z p q r =
        let two : d.kind ≡ disclosure_kind = q.0 refl in
        (λ t. (λ one. absurd (omega arith), (λ _. g.0 t, λ three. absurd (omega arith))), λ k. g.1 (k.1.0 two))
    go false false true p q r =
        let three : d.kind ≡ weight_kind = r.0 refl in
        (λ t. (λ one. absurd (omega arith), (λ two. absurd (omega arith), λ _. h.0 t)), λ k. h.1 (k.1.1 three))
    go false false false p q r = (
      λ t. (
        λ one. absurd (true≢false (sym (p.1 one))),
        (λ two. absurd (true≢false (sym (q.1 two))), λ three. absurd (true≢false (sym (r.1 three)))),
      ),
      λ k. refl,
    )

pub always : Decides true (Unit {0})
always = (λ _. tt, λ _. refl)

-- one for records of kind 3 alone
decides_weight : (d : Record) (c : Bool) {C : Type 0} → Decides c C → Decides (by_kind d true true c) (d.kind ≡ weight_kind → C)
decides_weight d c h =
    let i = decides_kind d true true c always always h in
    (λ e. (i.0 e).1.1, λ k. i.1 (λ _. tt, (λ _. tt, k)))

pub decide_record : (before : List Record) (d : Record) → DecideAll (record_tests before d) (RecordForm before d)
decide_record before d = (
  decides_or _ _ (decides_eq d.kind access_kind) (decides_or _ _ (decides_eq d.kind disclosure_kind) (decides_eq d.kind weight_kind)),
  refl,
  (
    decides_kind d (access_head r) _ _ (decides_access_head r) (decides_le r.head _) (decides_le r.head _),
    refl,
    (
      (λ e. let h = bodies.0 e in (h.0, h.1.0), λ h. bodies.1 (h.0, (h.1, λ _. tt))),
      refl,
      search (decides_weight d (weight_body r) (decides_weight_body r), decides_weight d (not (weighs r.head before)) (decides_unweighed r.head before)),
    ),
  ),
)
  where
    r : Rule
    r = d.rule

    bodies : Decides (by_kind d (access_body r) (disclosure_body r) true)
        ((d.kind ≡ access_kind → AccessBody r) × ((d.kind ≡ disclosure_kind → DisclosureBody r) × (d.kind ≡ weight_kind → Unit {0})))
    bodies = decides_kind d (access_body r) (disclosure_body r) true (decides_access_body r) (decides_disclosure_body r) always
