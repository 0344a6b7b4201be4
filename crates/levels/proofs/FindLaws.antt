-- From rows and layers to levels for the rules. Assumes nothing.
use mathlib.Core.Path.{◌≡◌, subst}
use mathlib.Core.Logic.{◌⊎◌, inl, inr}
use mathlib.Core.Bool.{Bool, false, true}
use mathlib.Core.List.{List}
use Prim.Native.Nat.{◌<◌, ◌^◌, ◌≤◌, ℕ}
use lib.ListN.{get_or}
use native.Mathlib.Omega.{arith}
use Rattle.lists.specs.Lists.{Every}
use Rattle.atoms.specs.Sets.{Member}
use Rattle.atoms.proofs.SetLaws.{member_low}
use Rattle.rules.specs.Rules.{InBody, Levelled, Rule}
use Rattle.records.specs.Records.{access_kind, record_at, rules_of, whole_records}
use Rattle.records.proofs.TheoremsProof.{theorems}
use Rattle.levels.specs.Graphs.{Depends, Headless, Kept, Layered}
use Rattle.levels.specs.Levels.{Fine, Levels, level_at}
use Rattle.levels.specs.Rows.{Access, Gathered, Tested}

module _ (bytes : List ℕ) (rows negated : List ℕ) (heads : ℕ) (g : Gathered bytes (whole_records bytes) rows negated heads) where
  rs : List Rule
  rs = rules_of access_kind bytes

  -- of all rules, and of all access records
  listed : (P : Rule → Type 0) → ((j : ℕ) → Access bytes (whole_records bytes) j → P (record_at bytes j).rule) → Every P rs
  unfolding rs
  listed P f = (theorems.listed access_kind bytes P).1 (λ j l e. f j (record { before = omega arith; kind = e }))

  each : (P : Rule → Type 0) → Every P rs → (j : ℕ) → Access bytes (whole_records bytes) j → P (record_at bytes j).rule
  unfolding rs
  each P e j a = (theorems.listed access_kind bytes P).0 e j (omega (arith, a.before)) a.kind

  pub headless : Headless rows heads
  headless h k m = let o = g.only h k m in subst (λ (x : ℕ). Member x heads) o.2 (g.head o.0 o.1)

  -- levels that the rules keep are levels that the rows keep
  kept_rows : (lev : ℕ → ℕ) → Every (Levelled lev) rs → Kept rows lev
  kept_rows lev e h k m = let o = g.only h k m in subst (λ (x : ℕ). lev k ≤ lev x) o.2 (go (each (Levelled lev) e o.0 o.1) o.3)
    where
      go : {r : Rule} → Levelled lev r → InBody k r → lev k ≤ lev r.head
      go l (inl i) = l.positive k i
      go l (inr i) = omega (arith, l.negated k i)

  kept_nots : (lev : ℕ → ℕ) → Every (Levelled lev) rs → (h k : ℕ) → Member k (get_or negated h 0) → lev k < lev h
  kept_nots lev e h k m = let o = g.only_nots h k m in subst (λ (x : ℕ). lev k < lev x) o.2 ((each (Levelled lev) e o.0 o.1).negated k o.3)

  module _ (sized : (j : ℕ) → Access bytes (whole_records bytes) j → (record_at bytes j).rule.negated < 2 ^ 64) (of at : List ℕ) (layers : Layered rows of at) (r : Bool)
      (t : Tested negated heads of at r) where
    pub levels : r ≡ true → Levels (rules_of access_kind bytes) of
    unfolding rs
    levels e = record {
      kept = listed (Levelled (level_at of)) (λ j a. record { positive = λ k m. up (layers.above _ k (g.body j a k (inl m))); negated = λ k m. over j a k m (layers.above _ k (g.body j a k (inr m))) });
      fine = listed (Fine rs (level_at of)) (λ j a k i. fine (layers.above _ k (g.body j a k i)));
      low = layers.low;
    }
      where
        up : {h k : ℕ} → (level_at of k < level_at of h) ⊎ ((level_at of k ≡ level_at of h) × Depends rows k h) → level_at of k ≤ level_at of h
        up (inl l) = omega arith
        up (inr d) = omega (arith, d.0)

        over : (j : ℕ) → Access bytes (whole_records bytes) j → (k : ℕ) → Member k (record_at bytes j).rule.negated
            → (level_at of k < level_at of (record_at bytes j).rule.head) ⊎ ((level_at of k ≡ level_at of (record_at bytes j).rule.head) × Depends rows k (record_at bytes j).rule.head)
            → level_at of k < level_at of (record_at bytes j).rule.head
        over j a k m (inl l) = l
        over j a k m (inr d) =
            absurd (t.none e (record_at bytes j).rule.head k (g.head j a) (g.nots j a k m)
            (subst (λ (x : ℕ). Member k (get_or at x 0)) d.0 (layers.found k (member_low (record_at bytes j).rule.negated 64 k (sized j a) m))))

        fine : {h k : ℕ} → (level_at of k < level_at of h) ⊎ ((level_at of k ≡ level_at of h) × Depends rows k h)
            → (level_at of k < level_at of h) ⊎ ((lev : ℕ → ℕ) → Every (Levelled lev) rs → lev h ≤ lev k)
        fine (inl l) = inl l
        fine (inr d) = inr (λ lev kept. d.1 lev (kept_rows lev kept))

    pub none : r ≡ false → (lev : ℕ → ℕ) → Every (Levelled lev) (rules_of access_kind bytes) → ⊥
    unfolding rs
    none e lev kept =
        let o = t.one e in
        let below : lev o.1 < lev o.0 = kept_nots lev kept o.0 o.1 o.2 in
        let same : level_at of o.1 ≡ level_at of o.0 = layers.only o.1 (level_at of o.0) o.3 in
        go below same (layers.above o.0 o.1 (row o.0 o.1 o.2))
      where
        row : (h k : ℕ) → Member k (get_or negated h 0) → Member k (get_or rows h 0)
        row h k m = let o = g.only_nots h k m in subst (λ (x : ℕ). Member k (get_or rows x 0)) o.2 (g.body o.0 o.1 k (inr o.3))

        go : {h k : ℕ} → lev k < lev h → level_at of k ≡ level_at of h → (level_at of k < level_at of h) ⊎ ((level_at of k ≡ level_at of h) × Depends rows k h) → ⊥
        go b s (inl l) = omega arith
        go b s (inr d) = omega (arith, d.1 lev (kept_rows lev kept))
