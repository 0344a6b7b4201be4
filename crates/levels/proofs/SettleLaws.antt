-- What is settled once the last component of a walk is. Assumes nothing.
use mathlib.Core.Path.{◌∙◌, ◌≡◌, subst, sym}
use mathlib.Core.Logic.{◌⊎◌, inl, inr}
use mathlib.Core.List.{List}
use Prim.Native.Nat.{◌<◌, ◌≤◌, ℕ}
use lib.ListN.{get_or, length, length-set, set}
use lib.Seq.{get_or-set_other, get_or-set_same}
use native.Mathlib.Decide.{dec_lt, ℕ_discrete}
use native.Mathlib.Omega.{arith}
use Rattle.atoms.specs.Sets.{Member, Subset, union}
use Rattle.atoms.proofs.SetLaws.{member_low, union_cases, union_left, union_right}
use Rattle.levels.specs.Graphs.{Above, Depends}
use Rattle.levels.specs.Levels.{level_at}
use Rattle.levels.specs.Walks.{Placed, Settled, Unsettled}
use Rattle.levels.proofs.WalkLaws.{decide}

-- the component c is what `path` has and `below` has not
module _ (rows : List ℕ) (fresh path below c outside : ℕ) (of at : List ℕ) (count : ℕ) (s : Settled rows fresh path of at count)
    (inside : (k : ℕ) → Member k c → Member k path) (not-below : (k : ℕ) → Member k c → Member k below → ⊥)
    (rest : (k : ℕ) → Member k path → Member k c ⊎ Member k below) (lower : Subset below path)
    (apart : (k : ℕ) → Member k fresh → Member k path → ⊥)
    (needs : (h k : ℕ) → Member h c → Member k (get_or rows h 0) → Member k c ⊎ Member k outside)
    (done : (k : ℕ) → Member k outside → Unsettled fresh path k → ⊥)
    (loop : (a b : ℕ) → Member a c → Member b c → Depends rows a b)
    (of' at' : List ℕ) (count' : ℕ) (p : Placed of at c outside count of' at' count') (fits : count ≤ 64) where
  L : ℕ
  L = p.level

  -- of the component nothing is unsettled now, and of the others the same as before
  now_settled : (k : ℕ) → Member k c → Unsettled fresh below k → ⊥
  now_settled k m (inl f) = apart k f (inside k m)
  now_settled k m (inr b) = not-below k m b

  still : (k : ℕ) → (Unsettled fresh path k → ⊥) → Unsettled fresh below k → ⊥
  still k n (inl f) = n (inl f)
  still k n (inr b) = n (inr (lower k b))

  before : (k : ℕ) → (Member k c → ⊥) → (Unsettled fresh below k → ⊥) → Unsettled fresh path k → ⊥
  before k o n (inl f) = n (inl f)
  before k o n (inr m) = go (rest k m)
    where
      go : Member k c ⊎ Member k below → ⊥
      go (inl i) = o i
      go (inr b) = n (inr b)

  -- what was settled is not of the component
  other : (k : ℕ) → (Unsettled fresh path k → ⊥) → Member k c → ⊥
  other k n m = n (inr (inside k m))

  own : (k : ℕ) → Member k c → level_at of' k ≡ L
  unfolding L
  own k m = p.marked.inside k m

  kept : (k : ℕ) → (Unsettled fresh path k → ⊥) → level_at of' k ≡ level_at of k
  kept k n = p.marked.outside k (other k n)

  -- what the rows of the component have outside it is on lower levels
  under_own : (k : ℕ) → Member k outside → level_at of' k < L
  unfolding L
  under_own k m = subst (λ (x : ℕ). x < p.level) (sym (kept k n)) (go (s.found k (member_low outside 64 k p.lowest.over.small m) n))
    where
      n : Unsettled fresh path k → ⊥
      n = done k m

      go : Member k (get_or at (level_at of k) 0) → level_at of k < p.level
      go i = pick (dec_lt (level_at of k) p.level)
        where
          pick : Dec (level_at of k < p.level) → level_at of k < p.level
          pick (yes l) = l
          pick (no l) = absurd (p.lowest.over.free (level_at of k) (omega arith) (s.low k) k m i)

  listed : (l k : ℕ) → Member k (get_or at' l 0) → Member k (get_or at l 0) ⊎ ((l ≡ L) × Member k c)
  unfolding L
  listed l k m = go (ℕ_discrete l p.level) (subst (λ (x : List ℕ). Member k (get_or x l 0)) p.listed m)
    where
      go : Dec (l ≡ p.level) → Member k (get_or (set at p.level (union (get_or at p.level 0) c)) l 0) → Member k (get_or at l 0) ⊎ ((l ≡ p.level) × Member k c)
      go (no n) i = inl (subst (Member k) (get_or-set_other at p.level l _ 0 n) i)
      go (yes e) i =
          pick (union_cases (get_or at p.level 0) c k
          (subst (Member k) (get_or-set_same at p.level _ 0 (omega (arith, s.level_places, p.lowest.over.most))) (subst (λ (x : ℕ). Member k (get_or (set at p.level (union (get_or at p.level 0) c)) x 0)) e i)))
        where
          pick : Member k (get_or at p.level 0) ⊎ Member k c → Member k (get_or at l 0) ⊎ ((l ≡ p.level) × Member k c)
          pick (inl j) = inl (subst (λ (x : ℕ). Member k (get_or at x 0)) (sym e) j)
          pick (inr j) = inr (e, j)

  listed_own : (k : ℕ) → Member k c → Member k (get_or at' L 0)
  unfolding L
  listed_own k m =
      subst (λ (x : List ℕ). Member k (get_or x p.level 0)) (sym p.listed)
      (subst (Member k) (sym (get_or-set_same at p.level _ 0 (omega (arith, s.level_places, p.lowest.over.most)))) (union_right (get_or at p.level 0) c k m))

  listed_still : (l k : ℕ) → Member k (get_or at l 0) → Member k (get_or at' l 0)
  listed_still l k m = subst (λ (x : List ℕ). Member k (get_or x l 0)) (sym p.listed) (go (ℕ_discrete l p.level))
    where
      go : Dec (l ≡ p.level) → Member k (get_or (set at p.level (union (get_or at p.level 0) c)) l 0)
      go (no n) = subst (Member k) (sym (get_or-set_other at p.level l _ 0 n)) m
      go (yes e) =
          subst (λ (x : ℕ). Member k (get_or (set at p.level (union (get_or at p.level 0) c)) x 0)) (sym e)
          (subst (Member k) (sym (get_or-set_same at p.level _ 0 (omega (arith, s.level_places, p.lowest.over.most))))
          (union_left (get_or at p.level 0) c k (subst (λ (x : ℕ). Member k (get_or at x 0)) e m)))

  pub settled_next : Settled rows fresh below of' at' count'
  settled_next = record {
    atom_places = p.marked.places;
    level_places = subst (λ (x : List ℕ). length x ≡ 65) (sym p.listed) (simp length-set s.level_places);
    above = above;
    low = low;
    found = λ k l n. found k l n (decide c k);
    only = λ k l m. only k l (listed l k m);
  }
    where
      above : (h k : ℕ) → (Unsettled fresh below h → ⊥) → Member k (get_or rows h 0) → (Unsettled fresh below k → ⊥) × Above rows of' h k
      above h k n row = go (decide c h)
        where
          moved : (Unsettled fresh path h → ⊥) → (Unsettled fresh path k → ⊥) → Above rows of h k → Above rows of' h k
          moved nh nk (inl l) = inl (omega (arith, kept h nh, kept k nk))
          moved nh nk (inr e) = inr (kept k nk ∙ e.0 ∙ sym (kept h nh), e.1)

          mine : Member h c → Member k c ⊎ Member k outside → (Unsettled fresh below k → ⊥) × Above rows of' h k
          mine mh (inl mk) = (now_settled k mk, inr (own k mk ∙ sym (own h mh), loop k h mk mh))
          mine mh (inr mk) = (still k (done k mk), inl (omega (arith, own h mh, under_own k mk)))

          go : Member h c ⊎ (Member h c → ⊥) → (Unsettled fresh below k → ⊥) × Above rows of' h k
          go (inl mh) = mine mh (needs h k mh row)
          go (inr oh) =
              let nh = before h oh n in
              let a = s.above h k nh row in
              (still k a.0, moved nh a.0 a.1)

      low : (k : ℕ) → level_at of' k < count'
      low k = go (decide c k)
        where
          go : Member k c ⊎ (Member k c → ⊥) → level_at of' k < count'
          go (inl m) = omega (arith, p.marked.inside k m, p.low)
          go (inr o) = omega (arith, p.marked.outside k o, s.low k, p.more)

      found : (k : ℕ) → k < 64 → (Unsettled fresh below k → ⊥) → Member k c ⊎ (Member k c → ⊥) → Member k (get_or at' (level_at of' k) 0)
      found k l n (inl m) = subst (λ (x : ℕ). Member k (get_or at' x 0)) (sym (own k m)) (listed_own k m)
      found k l n (inr o) =
          let b = before k o n in
          subst (λ (x : ℕ). Member k (get_or at' x 0)) (sym (kept k b)) (listed_still (level_at of k) k (s.found k l b))

      only : (k l : ℕ) → Member k (get_or at l 0) ⊎ ((l ≡ L) × Member k c) → (Unsettled fresh below k → ⊥) × (level_at of' k ≡ l)
      only k l (inl m) = let o = s.only k l m in (still k o.0, kept k o.0 ∙ o.1)
      only k l (inr e) = (now_settled k e.1, own k e.1 ∙ sym e.0)
