-- What the loops over the members of a set need. Assumes nothing.
use mathlib.Core.Path.{◌∙◌, ◌≡◌, refl, subst, sym}
use mathlib.Core.Logic.{◌↔◌, ◌⊎◌, inl, inr}
use mathlib.Core.Bool.{false, true, true≢false}
use mathlib.Core.List.{List, [], ◌++◌, ◌∷◌}
use Prim.Native.Nat.{◌-◌, ◌<◌, ◌≤◌, ℕ}
use lib.ListN.{get_or, length, length-set, set}
use lib.Seq.{get_or-set_other, get_or-set_same}
use native.Mathlib.Decide.{ℕ_discrete}
use native.Mathlib.Omega.{arith}
use Rattle.lists.specs.Lists.{OneOf}
use Rattle.atoms.specs.Sets.{Member, disjoint, union}
use Rattle.atoms.proofs.LoopLaws.{one_of_push}
use Rattle.atoms.proofs.SetLaws.{disjoint_true, meets, none_in_empty, union_cases, union_left, union_right}
use Rattle.levels.specs.Graphs.{Needs}
use Rattle.levels.specs.Levels.{level_at}
use Rattle.levels.specs.Rows.{Tested}
use Rattle.levels.specs.Walks.{Marked, Over}

-- ---- what the members need

pub record Needing (rows ks : List ℕ) (needs : ℕ) : Type 0 where
  pub all : (h k : ℕ) → OneOf h ks → Member k (get_or rows h 0) → Member k needs
  pub only : (k : ℕ) → Member k needs → (h : ℕ) × OneOf h ks × Member k (get_or rows h 0)

pub needing_start : (rows : List ℕ) → Needing rows [] 0
needing_start rows = record { all = λ h k i. absurd i; only = λ k m. absurd (none_in_empty k m) }

module _ (rows ks : List ℕ) (needs : ℕ) (n : Needing rows ks needs) where
  pub needing_next : (x : ℕ) → Needing rows (ks ++ (x ∷ [])) (union needs (get_or rows x 0))
  needing_next x = record {
    all = λ h k i m. all h k m ((one_of_push ks x h).0 i);
    only = λ k m. only k (union_cases needs (get_or rows x 0) k m);
  }
    where
      all : (h k : ℕ) → Member k (get_or rows h 0) → OneOf h ks ⊎ (h ≡ x) → Member k (union needs (get_or rows x 0))
      all h k m (inl i) = union_left needs (get_or rows x 0) k (n.all h k i m)
      all h k m (inr e) = union_right needs (get_or rows x 0) k (subst (λ (y : ℕ). Member k (get_or rows y 0)) e m)

      only : (k : ℕ) → Member k needs ⊎ Member k (get_or rows x 0) → (h : ℕ) × OneOf h (ks ++ (x ∷ [])) × Member k (get_or rows h 0)
      only k (inl m) = let o = n.only k m in (o.0, (one_of_push ks x o.0).1 (inl o.1), o.2)
      only k (inr m) = (x, (one_of_push ks x x).1 (inr refl), m)

  pub needing_done : (s : ℕ) → ((h : ℕ) → OneOf h ks ↔ Member h s) → Needs rows s needs
  needing_done s f = record {
    all = λ h k m. n.all h k ((f h).1 m);
    only = λ k m. let o = n.only k m in (o.0, (f o.0).0 o.1, o.2);
  }

-- ---- the members get a level

pub record Marking (before : List ℕ) (level : ℕ) (ks of : List ℕ) : Type 0 where
  pub places : length of ≡ 64
  pub inside : (k : ℕ) → OneOf k ks → level_at of k ≡ level
  pub outside : (k : ℕ) → (OneOf k ks → ⊥) → level_at of k ≡ level_at before k

pub marking_start : (of : List ℕ) (level : ℕ) → length of ≡ 64 → Marking of level [] of
marking_start of level w = record { places = w; inside = λ k i. absurd i; outside = λ k n. refl }

module _ (before : List ℕ) (level : ℕ) (ks of : List ℕ) (n : Marking before level ks of) where
  pub marking_next : (x : ℕ) → x < 64 → Marking before level (ks ++ (x ∷ [])) (set of x level)
  marking_next x low = record {
    places = simp length-set n.places;
    inside = λ k i. inside k (ℕ_discrete k x) ((one_of_push ks x k).0 i);
    outside = λ k o. get_or-set_other of x k level 0 (λ e. o ((one_of_push ks x k).1 (inr e))) ∙ n.outside k (λ i. o ((one_of_push ks x k).1 (inl i)));
  }
    where
      inside : (k : ℕ) → Dec (k ≡ x) → OneOf k ks ⊎ (k ≡ x) → level_at (set of x level) k ≡ level
      inside k (yes e) i = subst (λ (y : ℕ). level_at (set of x level) y ≡ level) (sym e) (get_or-set_same of x level 0 (omega (arith, n.places)))
      inside k (no o) (inl i) = get_or-set_other of x k level 0 o ∙ n.inside k i
      inside k (no o) (inr e) = absurd (o e)

  pub marking_done : (s : ℕ) → ((k : ℕ) → OneOf k ks ↔ Member k s) → Marked before s level of
  marking_done s f = record { places = n.places; inside = λ k m. n.inside k ((f k).1 m); outside = λ k o. n.outside k (λ i. o ((f k).0 i)) }

-- ---- no head has a negated atom on its own level

abbrev pub Testing : List ℕ → List ℕ → List ℕ → List ℕ → Type 0
Testing negated of at ks = (h k : ℕ) → OneOf h ks → Member k (get_or negated h 0) → Member k (get_or at (level_at of h) 0) → ⊥

module _ (negated of at ks : List ℕ) (n : Testing negated of at ks) where
  pub testing_next : (x : ℕ) → disjoint (get_or negated x 0) (get_or at (level_at of x) 0) ≡ true → Testing negated of at (ks ++ (x ∷ []))
  testing_next x e h k i m j = go ((one_of_push ks x h).0 i)
    where
      go : OneOf h ks ⊎ (h ≡ x) → ⊥
      go (inl i) = n h k i m j
      go (inr q) =
          disjoint_true _ _ e k (subst (λ (y : ℕ). Member k (get_or negated y 0)) q m) (subst (λ (y : ℕ). Member k (get_or at (level_at of y) 0)) q j)

  pub testing_done : (heads : ℕ) → ((h : ℕ) → OneOf h ks ↔ Member h heads) → Tested negated heads of at true
  testing_done heads f = record { none = λ e h k i. n h k ((f h).1 i); one = λ e. absurd (true≢false e) }

pub testing_met : (negated : List ℕ) (heads : ℕ) (of at : List ℕ) (h : ℕ) → disjoint (get_or negated h 0) (get_or at (level_at of h) 0) ≡ false
    → Tested negated heads of at false
testing_met negated heads of at h e = record {
  none = λ t. absurd (true≢false (sym t));
  one = λ t. let m = meets _ _ e in (h, m.0, m.1, m.2);
}

-- ---- above the levels that have an atom of a set

module _ (at : List ℕ) (count s level : ℕ) where
  pub over_next : Over at count s level → 0 < level → disjoint (get_or at (level - 1) 0) s ≡ true → Over at count s (level - 1)
  over_next o p e = record { small = o.small; most = omega (arith, o.most); free = λ l a b k m i. go l a b k m i (ℕ_discrete l (level - 1)) }
    where
      go : (l : ℕ) → level - 1 ≤ l → l < count → (k : ℕ) → Member k s → Member k (get_or at l 0) → Dec (l ≡ level - 1) → ⊥
      go l a b k m i (yes q) = disjoint_true _ _ e k (subst (λ (x : ℕ). Member k (get_or at x 0)) q i) m
      go l a b k m i (no q) = o.free l (omega arith) b k m i
