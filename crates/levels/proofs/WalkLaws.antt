-- The three steps of a walk: an atom is entered, the last two components become one, the last component is settled. Assumes nothing.
use mathlib.Core.Path.{◌∙◌, ◌≡◌, subst, sym}
use mathlib.Core.Logic.{◌≢◌, ◌⊎◌, inl, inr}
use mathlib.Core.List.{List}
use Prim.Native.Nat.{◌+◌, ◌<◌, ◌≤◌, ℕ}
use lib.ListN.{get_or, length, set}
use lib.Seq.{get_or-set_other, get_or-set_same}
use native.Mathlib.Decide.{ℕ_discrete}
use native.Mathlib.Nat.{eq-or-lt_of_le}
use native.Mathlib.Omega.{arith}
use Rattle.atoms.specs.Sets.{Member, Subset, bit, single, union}
use Rattle.atoms.proofs.SetLaws.{in_or_out, member_single, none_in_empty, union_cases, union_left}
use Rattle.levels.specs.Graphs.{Depends}
use Rattle.levels.specs.Walks.{Chained}

-- in a set, or not
pub decide : (s k : ℕ) → Member k s ⊎ (Member k s → ⊥)
decide s k = go (in_or_out s k)
  where
    go : Member k s ⊎ (bit s k ≡ 0) → Member k s ⊎ (Member k s → ⊥)
    go (inl m) = inl m
    go (inr z) = inr (λ m. omega arith)

-- e is the place below the last
module _ (rows under : List ℕ) (d e : ℕ) (q : d ≡ e + 1) (c : Chained rows under d) where
  -- an atom of the last component is in no place before
  last_late : (t i : ℕ) → (Member t (get_or under e 0) → ⊥) → i ≤ e → Member t (get_or under i 0) → ⊥
  last_late t i n l m = n (c.nested i e l (omega arith) t m)

  -- on the atoms of the last component every atom of the walk depends
  pub last_depends : (a t : ℕ) → Member a (get_or under d 0) → Member t (get_or under d 0) → (Member t (get_or under e 0) → ⊥) → Depends rows a t
  last_depends a t ma mt n = c.depends a t ma mt (λ i l m. go i m (eq-or-lt_of_le l))
    where
      go : (i : ℕ) → Member t (get_or under i 0) → (i ≡ d) ⊎ (i < d) → Member a (get_or under i 0)
      go i m (inl p) = subst (λ (x : ℕ). Member a (get_or under x 0)) (sym p) ma
      go i m (inr l) = absurd (last_late t i n (omega arith) m)

  -- without the last component
  pub chained_settled : Chained rows under e
  chained_settled = record {
    bottom = c.bottom;
    nested = λ i j l m. c.nested i j l (omega arith);
    depends = λ a b ma mb f. c.depends a b (up a ma) (up b mb) (λ i l m. go a b i ma (f i) m (eq-or-lt_of_le l));
  }
    where
      up : (a : ℕ) → Member a (get_or under e 0) → Member a (get_or under d 0)
      up a m = c.nested e d (omega arith) (omega arith) a m

      go : (a b i : ℕ) → Member a (get_or under e 0) → (i ≤ e → Member b (get_or under i 0) → Member a (get_or under i 0)) → Member b (get_or under i 0)
          → (i ≡ d) ⊎ (i < d) → Member a (get_or under i 0)
      go a b i ma f m (inl p) = subst (λ (x : ℕ). Member a (get_or under x 0)) (sym p) (up a ma)
      go a b i ma f m (inr l) = f (omega arith) m

  -- t of the last component depends on k of an earlier one: the last two are one
  module _ (fits : d < length under) (k t : ℕ) (earlier : Member k (get_or under e 0)) (mt : Member t (get_or under d 0)) (nt : Member t (get_or under e 0) → ⊥)
      (row : Member k (get_or rows t 0)) where
    next : List ℕ
    next = set under e (get_or under d 0)

    top : get_or next e 0 ≡ get_or under d 0
    unfolding next
    top = get_or-set_same under e (get_or under d 0) 0 (omega arith)

    same : (i : ℕ) → i ≢ e → get_or next i 0 ≡ get_or under i 0
    unfolding next
    same i n = get_or-set_other under e i (get_or under d 0) 0 n

    -- e is not the first place, which is empty
    above : e ≢ 0
    above z = none_in_empty k (subst (Member k) (subst (λ (x : ℕ). get_or under x 0 ≡ 0) (sym z) c.bottom) earlier)

    back : (i a : ℕ) → i ≤ e → Member a (get_or next i 0) → Member a (get_or under d 0)
    back i a l m = go (ℕ_discrete i e)
      where
        go : Dec (i ≡ e) → Member a (get_or under d 0)
        go (yes p) = subst (Member a) top (subst (λ (x : ℕ). Member a (get_or next x 0)) p m)
        go (no n) = c.nested i d (omega arith) (omega arith) a (subst (Member a) (same i n) m)

    -- b of the component before the last: k depends on it, and so does every atom of the last
    joined : (a b : ℕ) → Member a (get_or under d 0) → Member b (get_or under e 0) → ((i : ℕ) → i < e → Member b (get_or under i 0) → ⊥) → Depends rows a b
    joined a b ma mb late lev kept =
        let one : lev b ≤ lev k = c.depends k b (c.nested e d (omega arith) (omega arith) k earlier) (c.nested e d (omega arith) (omega arith) b mb) (λ i l m. first i l m) lev kept in
        let two : lev k ≤ lev t = kept t k row in
        let three : lev t ≤ lev a = last_depends a t ma mt nt lev kept in
        omega arith
      where
        first : (i : ℕ) → i ≤ d → Member b (get_or under i 0) → Member k (get_or under i 0)
        first i l m = go (eq-or-lt_of_le l)
          where
            go : (i ≡ d) ⊎ (i < d) → Member k (get_or under i 0)
            go (inl p) = subst (λ (x : ℕ). Member k (get_or under x 0)) (sym p) (c.nested e d (omega arith) (omega arith) k earlier)
            go (inr n) = at_e (ℕ_discrete i e)
              where
                at_e : Dec (i ≡ e) → Member k (get_or under i 0)
                at_e (yes p) = subst (λ (x : ℕ). Member k (get_or under x 0)) (sym p) earlier
                at_e (no p) = absurd (late i (omega arith) m)

    pub chained_joined : Chained rows (set under e (get_or under d 0)) e
    unfolding next
    chained_joined = record { bottom = same 0 (λ z. above (sym z)) ∙ c.bottom; nested = nested; depends = depends }
      where
        nested : (i j : ℕ) → i ≤ j → j ≤ e → Subset (get_or next i 0) (get_or next j 0)
        nested i j l m a in-i = go (ℕ_discrete j e)
          where
            go : Dec (j ≡ e) → Member a (get_or next j 0)
            go (yes p) = subst (λ (x : ℕ). Member a (get_or next x 0)) (sym p) (subst (Member a) (sym top) (back i a (omega arith) in-i))
            go (no n) =
                let f : i ≢ e = λ p. n (omega arith) in
                subst (Member a) (sym (same j n)) (c.nested i j l (omega arith) a (subst (Member a) (same i f) in-i))

        depends : (a b : ℕ) → Member a (get_or next e 0) → Member b (get_or next e 0)
            → ((i : ℕ) → i ≤ e → Member b (get_or next i 0) → Member a (get_or next i 0)) → Depends rows a b
        depends a b na nb f = go (decide (get_or under e 0) a) (decide (get_or under e 0) b)
          where
            ma : Member a (get_or under d 0)
            ma = subst (Member a) top na

            mb : Member b (get_or under d 0)
            mb = subst (Member b) top nb

            low : (i : ℕ) → i < e → Member b (get_or under i 0) → Member a (get_or under i 0)
            low i l m = let n : i ≢ e = λ p. omega arith in subst (Member a) (same i n) (f i (omega arith) (subst (Member b) (sym (same i n)) m))

            all : (Member b (get_or under e 0) → Member a (get_or under e 0)) → (i : ℕ) → i ≤ d → Member b (get_or under i 0) → Member a (get_or under i 0)
            all g i l m = pick (eq-or-lt_of_le l)
              where
                pick : (i ≡ d) ⊎ (i < d) → Member a (get_or under i 0)
                pick (inl p) = subst (λ (x : ℕ). Member a (get_or under x 0)) (sym p) ma
                pick (inr n) = at_e (ℕ_discrete i e)
                  where
                    at_e : Dec (i ≡ e) → Member a (get_or under i 0)
                    at_e (yes p) = subst (λ (x : ℕ). Member a (get_or under x 0)) (sym p) (g (subst (λ (x : ℕ). Member b (get_or under x 0)) p m))
                    at_e (no p) = low i (omega arith) m

            go : Member a (get_or under e 0) ⊎ (Member a (get_or under e 0) → ⊥) → Member b (get_or under e 0) ⊎ (Member b (get_or under e 0) → ⊥) → Depends rows a b
            go (inl ia) ib = c.depends a b ma mb (all (λ m. ia))
            go (inr oa) (inr ob) = c.depends a b ma mb (all (λ m. absurd (ob m)))
            go (inr oa) (inl ib) = joined a b ma ib (λ i l m. oa (c.nested i e (omega arith) (omega arith) a (low i l m)))

-- ---- k is a new component, on which the last one depends, if there is one

module _ (rows under : List ℕ) (d k : ℕ) (c : Chained rows under d) (fits : d + 1 < length under) (atom : k < 64) (new : Member k (get_or under d 0) → ⊥)
    (needed : (a : ℕ) → Member a (get_or under d 0) → Depends rows a k) where
  grown : List ℕ
  grown = set under (d + 1) (union (get_or under d 0) (single k))

  grown_top : get_or grown (d + 1) 0 ≡ union (get_or under d 0) (single k)
  unfolding grown
  grown_top = get_or-set_same under (d + 1) _ 0 fits

  grown_same : (i : ℕ) → i ≤ d → get_or grown i 0 ≡ get_or under i 0
  unfolding grown
  grown_same i l = get_or-set_other under (d + 1) i _ 0 (λ p. omega arith)

  pub chained_entered : Chained rows (set under (d + 1) (union (get_or under d 0) (single k))) (d + 1)
  unfolding grown
  chained_entered = record { bottom = grown_same 0 (omega arith) ∙ c.bottom; nested = nested; depends = depends }
    where
      nested : (i j : ℕ) → i ≤ j → j ≤ d + 1 → Subset (get_or grown i 0) (get_or grown j 0)
      nested i j l m a in-i = go (ℕ_discrete j (d + 1)) (ℕ_discrete i (d + 1))
        where
          go : Dec (j ≡ d + 1) → Dec (i ≡ d + 1) → Member a (get_or grown j 0)
          go (no n) f = subst (Member a) (sym (grown_same j (omega arith))) (c.nested i j l (omega arith) a (subst (Member a) (grown_same i (omega arith)) in-i))
          go (yes p) (yes f) = subst (λ (x : ℕ). Member a (get_or grown x 0)) (f ∙ sym p) in-i
          go (yes p) (no n) =
              subst (λ (x : ℕ). Member a (get_or grown x 0)) (sym p)
              (subst (Member a) (sym grown_top) (union_left _ _ a (c.nested i d (omega arith) (omega arith) a (subst (Member a) (grown_same i (omega arith)) in-i))))

      depends : (a b : ℕ) → Member a (get_or grown (d + 1) 0) → Member b (get_or grown (d + 1) 0)
          → ((i : ℕ) → i ≤ d + 1 → Member b (get_or grown i 0) → Member a (get_or grown i 0)) → Depends rows a b
      depends a b na nb f = go (union_cases _ _ b (subst (Member b) grown_top nb)) (union_cases _ _ a (subst (Member a) grown_top na))
        where
          low : (i : ℕ) → i ≤ d → Member b (get_or under i 0) → Member a (get_or under i 0)
          low i l m = subst (Member a) (grown_same i l) (f i (omega arith) (subst (Member b) (sym (grown_same i l)) m))

          go : Member b (get_or under d 0) ⊎ Member b (single k) → Member a (get_or under d 0) ⊎ Member a (single k) → Depends rows a b
          go (inl mb) ma = c.depends a b (low d (omega arith) mb) mb low
          go (inr mb) (inl ma) = subst (Depends rows a) (sym (member_single k b mb)) (needed a ma)
          go (inr mb) (inr ma) = λ lev kept. let e : b ≡ a = member_single k b mb ∙ sym (member_single k a ma) in subst (λ (x : ℕ). lev b ≤ lev x) e (omega arith)
