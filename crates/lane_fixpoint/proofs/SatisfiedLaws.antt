-- Which rules are satisfied after a step: its own, and every other that was before and whose body has nothing added. Assumes nothing.
use mathlib.Core.Path.{◌∙◌, ◌≡◌, ap, refl, subst, sym}
use mathlib.Core.Logic.{◌⊎◌, inl, inr}
use mathlib.Core.Bool.{◌&&◌, Bool, cond, false, true, true≢false}
use mathlib.Core.List.{List}
use Prim.Native.Nat.{◌+◌, ◌<◌, ℕ}
use lib.Bits.{bit_and}
use Rattle.atoms.specs.Sets.{Member, Subset, member, subset, union}
use Rattle.atoms.proofs.SetLaws.{intersection_iff, none_in_empty, none_is_empty, subset_true, true_subset, union_cases, union_left, union_right}
use Rattle.lane_table.specs.LaneSets.{EachLane}
use Rattle.lane_table.specs.Tables.{cell, lane}
use Rattle.lane_fixpoint.specs.Passes.{Moved, Satisfied, Stepped}
use Rattle.lane_fixpoint.specs.declared.passes.Progress.{Progress}

-- no set has lost an atom
abbrev pub Grows : List ℕ → List ℕ → Type 0
Grows before after = EachLane (λ t i. Subset (lane before t i) (lane after t i))

-- ---- sets that share nothing
apart : (p x k : ℕ) → bit_and p x ≡ 0 → Member k p → Member k x → ⊥
apart p x k e a b = none_in_empty k (subst (Member k) e ((intersection_iff p x k).1 (a, b)))

pub apart_less : (p x y : ℕ) → Subset x y → bit_and p y ≡ 0 → bit_and p x ≡ 0
apart_less p x y f e = none_is_empty (bit_and p x) (λ k m. let i = (intersection_iff p x k).0 m in apart p y k e i.0 (f k i.1))

-- ---- one step of rule k
module _ (k head positive : ℕ) (s r : Progress) (before after : List ℕ) (st : Stepped k head positive s r before after) where
  test : ℕ → ℕ → Bool
  test t i = member i (cell before t (64 + k)) && subset positive (lane before t i)

  -- the set of a lane is as it was, or has the head
  abbrev Now : ℕ → ℕ → Type 0
  Now t i = (lane after t i ≡ lane before t i) ⊎ (lane after t i ≡ union (lane before t i) head)

  now_is : EachLane Now
  unfolding test
  now_is t i l n = go (test t i) (st.each t i l n)
    where
      go : (b : Bool) → lane after t i ≡ cond b (union (lane before t i) head) (lane before t i) → Now t i
      go true e = inr e
      go false e = inl e

  pub step_grows : Grows before after
  step_grows t i l n = go (now_is t i l n)
    where
      go : Now t i → Subset (lane before t i) (lane after t i)
      go (inl e) = subst (Subset (lane before t i)) (sym e) (λ k m. m)
      go (inr e) = subst (Subset (lane before t i)) (sym e) (union_left (lane before t i) head)

  -- rule j is in the reduct of lane (t, i) and its body holds there, now or before
  abbrev Holds : List ℕ → ℕ → ℕ → ℕ → ℕ → Type 0
  Holds table j p t i = (member i (cell table t (64 + j)) ≡ true) × (subset p (lane table t i) ≡ true)

  was : (j t i : ℕ) → t < 4 → member i (cell after t (64 + j)) ≡ true → member i (cell before t (64 + j)) ≡ true
  was j t i l e = ap (λ (x : ℕ). member i x) (sym (st.kept t j l)) ∙ e

  pub satisfied_own : Satisfied k head positive after
  unfolding test
  satisfied_own = record { each = λ t i l n m sub. go t i l (m, sub) (test t i) refl (st.each t i l n) }
    where
      go : (t i : ℕ) → t < 4 → Holds after k positive t i → (b : Bool) → test t i ≡ b
          → lane after t i ≡ cond b (union (lane before t i) head) (lane before t i) → Subset head (lane after t i)
      go t i l h true q e = subst (Subset head) (sym e) (union_right (lane before t i) head)
      go t i l (m, sub) false q e =
          let held : subset positive (lane before t i) ≡ true = ap (subset positive) (sym e) ∙ sub in
          let yes : test t i ≡ true = ap (λ (b : Bool). b && subset positive (lane before t i)) (was k t i l m) ∙ held in
          absurd (true≢false (sym yes ∙ q))

  pub satisfied_still : (j h p x : ℕ) → Subset r.added x → bit_and p x ≡ 0 → Satisfied j h p before → Satisfied j h p after
  satisfied_still j h p x f e old = record { each = λ t i l n m sub. go t i l n (m, sub) st.moved (now_is t i l n) }
    where
      same : (t i : ℕ) → t < 4 → i < 64 → Holds after j p t i → lane after t i ≡ lane before t i → Subset h (lane after t i)
      same t i l n (m, sub) q = subst (Subset h) (sym q) (old.each t i l n (was j t i l m) (ap (subset p) (sym q) ∙ sub))

      less : (t i : ℕ) → Subset head r.added → Subset p (union (lane before t i) head) → Subset p (lane before t i)
      less t i new sub a b = pick (union_cases (lane before t i) head a (sub a b))
        where
          pick : Member a (lane before t i) ⊎ Member a head → Member a (lane before t i)
          pick (inl c) = c
          pick (inr c) = absurd (apart p x a e b (f a (new a c)))

      go : (t i : ℕ) → t < 4 → i < 64 → Holds after j p t i → Moved head s r before after → Now t i → Subset h (lane after t i)
      go t i l n has (inl (q, _)) _ = same t i l n has (q t i l n)
      go t i l n has (inr (_, new)) (inl q) = same t i l n has q
      go t i l n (m, sub) (inr (_, new)) (inr q) =
          let held : Subset p (lane before t i)
          = less t i new (subset_true p (union (lane before t i) head) (ap (subset p) (sym q) ∙ sub)) in
          subst (Subset h) (sym q)
          (λ a b. union_left (lane before t i) head a (old.each t i l n (was j t i l m) (true_subset p (lane before t i) held) a b))
