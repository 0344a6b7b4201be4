-- The test of levels passes exactly where a choice of levels exists. Assumes nothing.
use mathlib.Core.Path.{◌∙◌, ◌≡◌, ap, refl, sym}
use mathlib.Core.Logic.{◌↔◌, ◌⊎◌, inl, inr}
use mathlib.Core.Bool.{Bool, ◌&&◌, cond, false, not, true, true≢false}
use mathlib.Core.List.{List}
use Prim.Native.Nat.{◌<◌, ◌^◌, ◌≤◌, suc, zero, ℕ}
use lib.Dec.{ltb}
use borrow.Author.Tests.{le-ltb, lt-ltb}
use native.Mathlib.Decide.{dec_lt}
use native.Mathlib.Nat.{add-le-add}
use native.Mathlib.Omega.{arith}
use Rattle.lists.specs.Lists.{Every, OneOf}
use Rattle.lists.proofs.ListLaws.{every_imp, every_imp₂, every_one_of, one_of_every}
use Rattle.validation.proofs.TestLaws.{eqb_true, true_eqb}
use Rattle.atoms.specs.Sets.{Member, bit, disjoint, empty}
use Rattle.atoms.proofs.SetLaws.{bit_empty, bit_lt, disjoint_true, meets, member_low, member_lowest, none_in_empty, none_is_empty}
use Rattle.rules.specs.Model.{model}
use Rattle.rules.specs.Rules.{Headed, Levelled, Rule, Stratified}
use Rattle.rules.specs.Stable.{OneStable}
use Rattle.rules.proofs.ClosureLaws.{KeepsHeaded, closure_by-kept_headed, closure_by-within_headed}
use Rattle.rules.proofs.LevelLaws.{one_stable_any, rank, ranked}
use Rattle.rules.proofs.StratifiedLaws.{Ranked}
use Rattle.strata.specs.Strata.{Levelable, above, hangs, level_in, level_of, stratifiable, stratum}
use Rattle.strata.specs.Theorems.{Over64, SizedBody}

-- ---- a rule hangs on A and X

-- two sets share an atom
abbrev pub Meets : ℕ → ℕ → Type 0
Meets a b = (k : ℕ) × (Member k a × Member k b)

met : (a b : ℕ) → disjoint a b ≡ false → Meets a b
met a b e = let m = meets a b e in (m.0, (m.1, m.2))

pub hangs_on : (A : ℕ) (r : Rule) (X : ℕ) → hangs A r X ≡ true → Meets r.negated A ⊎ Meets r.positive X
hangs_on A r X e = go (disjoint r.negated A) (disjoint r.positive X) refl refl e
  where
    go : (a b : Bool) → disjoint r.negated A ≡ a → disjoint r.positive X ≡ b → not (a && b) ≡ true → Meets r.negated A ⊎ Meets r.positive X
    go false b p q e = inl (met r.negated A p)
    go true false p q e = inr (met r.positive X q)
    go true true p q e = absurd (true≢false (sym e))

pub on_hangs : (A : ℕ) (r : Rule) (X : ℕ) → Meets r.negated A ⊎ Meets r.positive X → hangs A r X ≡ true
on_hangs A r X o = go (disjoint r.negated A) (disjoint r.positive X) refl refl o
  where
    go : (a b : Bool) → disjoint r.negated A ≡ a → disjoint r.positive X ≡ b → Meets r.negated A ⊎ Meets r.positive X → not (a && b) ≡ true
    go false b p q o = refl
    go true false p q o = refl
    go true true p q (inl (k, m)) = absurd (disjoint_true r.negated A p k m.0 m.1)
    go true true p q (inr (k, m)) = absurd (disjoint_true r.positive X q k m.0 m.1)

-- ---- levels exist: an atom with n negations below it has a rank of n or more

module _ (lev : ℕ → ℕ) (rs : List Rule) (strata : Every (λ r. Headed r → Stratified lev r) rs) where
  high : (n k : ℕ) → Member k (stratum rs n) → n ≤ rank lev k
  unfolding stratum above
  high zero = λ k m. omega arith
  high (suc n) = closure_by-within_headed (hangs (stratum rs n)) (λ k. suc n ≤ rank lev k) rs empty (λ k m. absurd (none_in_empty k m))
      (every_imp (λ r. Headed r → Stratified lev r) (KeepsHeaded (hangs (stratum rs n)) (λ k. suc n ≤ rank lev k)) (step (high n)) rs strata)
    where
      step : ((k : ℕ) → Member k (stratum rs n) → n ≤ rank lev k) → (r : Rule) → (Headed r → Stratified lev r)
          → KeepsHeaded (hangs (stratum rs n)) (λ k. suc n ≤ rank lev k) r
      step ih r h l S f e = go (ranked lev r (h l)) (hangs_on (stratum rs n) r S e)
        where
          go : Ranked (rank lev) 63 r → Meets r.negated (stratum rs n) ⊎ Meets r.positive S → suc n ≤ rank lev r.head
          go t (inl (k, m)) = omega (arith, t.levelled.negated k m.0, ih k m.1)
          go t (inr (k, m)) = omega (arith, t.levelled.positive k m.0, f k m.1)

  bounded : (n k : ℕ) → Member k (stratum rs (suc n)) → rank lev k ≤ 63
  unfolding stratum above
  bounded n = closure_by-within_headed (hangs (stratum rs n)) (λ k. rank lev k ≤ 63) rs empty (λ k m. absurd (none_in_empty k m))
      (every_imp (λ r. Headed r → Stratified lev r) (KeepsHeaded (hangs (stratum rs n)) (λ k. rank lev k ≤ 63))
      (λ r h l S f e. (ranked lev r (h l)).bounded) rs strata)

  pub passes : stratifiable rs ≡ true
  unfolding stratifiable
  passes = true_eqb (none_is_empty (stratum rs 64) (λ k m. absurd (omega (arith, high 64 k m, bounded 63 k m))))

-- ---- the test passes: an atom's level is the number of strata that it is in

bit_le : (S k T h : ℕ) → (Member k S → Member h T) → bit S k ≤ bit T h
bit_le S k T h f = go (bit S k) refl
  where
    go : (x : ℕ) → bit S k ≡ x → bit S k ≤ bit T h
    go zero e = omega arith
    go (suc x) e = let i : bit T h ≡ 1 = f (omega (arith, bit_lt S k)) in omega (arith, bit_lt S k)

module _ (rs : List Rule) where
  module _ (r : Rule) (i : OneOf r rs) (low : Headed r) (sized : r.negated < 2 ^ 64) where
    kept : (n : ℕ) → Meets r.negated (stratum rs n) ⊎ Meets r.positive (stratum rs (suc n)) → Member r.head (stratum rs (suc n))
    unfolding stratum above
    kept n o =
        every_one_of (λ r. Headed r → hangs (stratum rs n) r (above rs (stratum rs n)) ≡ true → Member r.head (above rs (stratum rs n))) rs
        (closure_by-kept_headed (hangs (stratum rs n)) rs empty) r i low (on_hangs (stratum rs n) r (above rs (stratum rs n)) o)

    all : (k : ℕ) → Member k r.negated → Member k (stratum rs 0)
    unfolding stratum
    all k m = (member_lowest 64 k).1 (member_low r.negated 64 k sized m)

    positive_le : (k : ℕ) → Member k r.positive → (n : ℕ) → level_in rs n k ≤ level_in rs n r.head
    unfolding level_in
    positive_le k m zero = omega arith
    positive_le k m (suc n) =
        add-le-add (bit_le (stratum rs (suc n)) k (stratum rs (suc n)) r.head (λ j. kept n (inr (k, (m, j))))) (positive_le k m n)

    negated_lt : (k : ℕ) → Member k r.negated → (n : ℕ) → level_in rs n k < level_in rs (suc n) r.head
    unfolding level_in
    negated_lt k m zero = let one : bit (stratum rs 1) r.head ≡ 1 = kept 0 (inl (k, (m, all k m))) in omega arith
    negated_lt k m (suc n) =
        let ih = negated_lt k m n in
        let here = bit_le (stratum rs (suc n)) k (stratum rs (suc (suc n))) r.head (λ j. kept (suc n) (inl (k, (m, j)))) in
        omega arith

    levelled : (n : ℕ) → stratum rs (suc n) ≡ empty → Levelled (level_in rs (suc n)) r
    unfolding level_in
    levelled n e = record {
      positive = λ k m. positive_le k m (suc n);
      negated = λ k m. let z : bit (stratum rs (suc n)) k ≡ 0 = ap (λ (s : ℕ). bit s k) e ∙ bit_empty k in omega (arith, negated_lt k m n);
    }

  level_most : (n k : ℕ) → level_in rs n k ≤ n
  unfolding level_in
  level_most zero k = omega arith
  level_most (suc n) k = omega (arith, level_most n k, bit_lt (stratum rs (suc n)) k)

  level_low : (n : ℕ) → stratum rs (suc n) ≡ empty → (k : ℕ) → level_in rs (suc n) k < suc n
  unfolding level_in
  level_low n e k = let z : bit (stratum rs (suc n)) k ≡ 0 = ap (λ (s : ℕ). bit s k) e ∙ bit_empty k in omega (arith, level_most n k)

  -- the last stratum is empty
  last : stratifiable rs ≡ true → stratum rs 64 ≡ empty
  unfolding stratifiable
  last t = eqb_true _ _ t

  pub levels : Every Over64 rs → stratifiable rs ≡ true → Every (Stratified (level_of rs)) rs × ((k : ℕ) → level_of rs k < 64)
  levels over t = (
    one_of_every (Stratified (level_of rs)) rs (λ r i.
        let o = every_one_of Over64 rs over r i in
        record { levelled = levelled r i o.headed o.sized 63 (last t); headed = o.headed; sized = o.sized }),
    level_low 63 (last t),
  )

  -- ---- whatever the heads: one that is no atom stands in no body, and may have the highest level

  full : ℕ → ℕ
  full k = cond (ltb k 64) (level_of rs k) 64

  full_atom : (k : ℕ) → k < 64 → full k ≡ level_of rs k
  unfolding full
  full_atom k l = ap (λ (b : Bool). cond b (level_of rs k) 64) (lt-ltb k 64 l)

  full_other : (k : ℕ) → (k < 64 → ⊥) → full k ≡ 64
  unfolding full
  full_other k n = ap (λ (b : Bool). cond b (level_of rs k) 64) (le-ltb k 64 (omega arith))

  full_levels : stratifiable rs ≡ true → (r : Rule) → OneOf r rs → SizedBody r → Levelled full r
  full_levels t r i s = go (dec_lt r.head 64)
    where
      up : (k : ℕ) → k < 64 → full k < 64
      up k l = omega (arith, full_atom k l, level_low 63 (last t) k)

      in_positive : (k : ℕ) → Member k r.positive → k < 64
      in_positive k m = member_low r.positive 64 k s.positive m

      in_negated : (k : ℕ) → Member k r.negated → k < 64
      in_negated k m = member_low r.negated 64 k s.negated m

      go : Dec (r.head < 64) → Levelled full r
      go (yes l) =
          let h : Levelled (level_of rs) r = levelled r i (omega arith) s.negated 63 (last t) in
          record {
            positive = λ k m. omega (arith, full_atom k (in_positive k m), full_atom r.head l, h.positive k m);
            negated = λ k m. omega (arith, full_atom k (in_negated k m), full_atom r.head l, h.negated k m);
          }
      go (no n) = record {
        positive = λ k m. omega (arith, up k (in_positive k m), full_other r.head n);
        negated = λ k m. omega (arith, up k (in_negated k m), full_other r.head n);
      }

-- ---- the theorems

passes_sized : (lev : ℕ → ℕ) (rs : List Rule) → Every SizedBody rs → Every (Levelled lev) rs → stratifiable rs ≡ true
passes_sized lev rs o l =
    passes lev rs
    (every_imp₂ SizedBody (Levelled lev) (λ r. Headed r → Stratified lev r)
    (λ r s l h. record { levelled = l; headed = h; sized = s.negated }) rs o l)

pub exists : (rs : List Rule) → Every SizedBody rs → (stratifiable rs ≡ true) ↔ Levelable rs
exists rs o = (
  λ t. record { lev = full rs; levels = one_of_every (Levelled (full rs)) rs (λ r i. full_levels rs t r i (every_one_of SizedBody rs o r i)) },
  λ l. passes_sized l.lev rs o l.levels,
)

pub none : (rs : List Rule) → Every SizedBody rs → (stratifiable rs ≡ false) ↔ ((lev : ℕ → ℕ) → Every (Levelled lev) rs → ⊥)
none rs o = (
  λ f lev l. true≢false (sym (passes_sized lev rs o l) ∙ f),
  λ n. go (stratifiable rs) refl n,
)
  where
    go : (b : Bool) → stratifiable rs ≡ b → ((lev : ℕ → ℕ) → Every (Levelled lev) rs → ⊥) → b ≡ false
    go true e n = let l = (exists rs o).0 e in absurd (n l.lev l.levels)
    go false e n = refl

pub models : (rs : List Rule) → Every Over64 rs → stratifiable rs ≡ true → (C : ℕ) → OneStable rs C (model rs C)
models rs o t C = one_stable_any (level_of rs) rs (levels rs o t).0 C
