-- The three steps keep the state of the walk, and come to an end. Assumes nothing.
use mathlib.Core.Path.{◌≡◌, ap, subst, sym}
use mathlib.Core.Logic.{◌≢◌, ◌⊎◌, inl, inr}
use mathlib.Core.Bool.{false, true}
use mathlib.Core.List.{List}
use Prim.Native.Nat.{◌+◌, ◌-◌, ◌<◌, ◌^◌, ◌≤◌, ℕ}
use lib.ListN.{get_or, length, length-set, set}
use lib.Seq.{get_or-set_same}
use native.Mathlib.Omega.{arith}
use Rattle.atoms.specs.Sets.{Member, Subset, difference, disjoint, intersection, single, size, union}
use Rattle.atoms.proofs.SetLaws.{bit_empty, difference_iff, disjoint_true, empty_subset, inhabited, intersection_iff, meets, member_low, member_single, none_in_empty, not_in, single_own, union_cases, union_left, union_right}
use Rattle.atoms.proofs.SizeLaws.{size_lt}
use Rattle.levels.specs.Graphs.{Depends, Needs}
use Rattle.levels.specs.Walks.{Chained, Entered, Placed, Settled, Stepped, Unsettled, Walking}
use Rattle.levels.specs.declared.walk.Walk.{Walk}
use Rattle.levels.proofs.SettleLaws.{settled_next}
use Rattle.levels.proofs.WalkLaws.{chained_entered, chained_joined, chained_settled, decide, last_depends}

-- the same atoms are unsettled, so the same is settled
settled_same : (rows : List ℕ) (fresh path : ℕ) (of at : List ℕ) (count fresh' path' : ℕ) → ((k : ℕ) → Unsettled fresh path k → Unsettled fresh' path' k)
    → ((k : ℕ) → Unsettled fresh' path' k → Unsettled fresh path k) → Settled rows fresh path of at count → Settled rows fresh' path' of at count
settled_same rows fresh path of at count fresh' path' f g s = record {
  atom_places = s.atom_places;
  level_places = s.level_places;
  above = λ h k n row. let a = s.above h k (λ u. n (f h u)) row in (λ u. a.0 (g k u), a.1);
  low = s.low;
  found = λ k l n. s.found k l (λ u. n (f k u));
  only = λ k l m. let o = s.only k l m in (λ u. o.0 (g k u), o.1);
}

-- ---- an atom is entered

module _ (rows of at : List ℕ) (w : Walk) (v : Walking rows w of at) (among : ℕ) (r : Walk)
    (e : Entered w among r) (new : Subset among w.fresh.bits)
    (needed : (k : ℕ) → Member k among → (a : ℕ) → Member a (get_or w.under w.depth 0) → Depends rows a k) where
  F : ℕ
  F = w.fresh.bits

  P : ℕ
  P = get_or w.under w.depth 0

  k : ℕ
  k = e.atom

  is_fresh : Member k F
  unfolding F k
  is_fresh = new e.atom e.one

  low : k < 64
  unfolding F k
  low = member_low F 64 e.atom v.small is_fresh

  own : Member k (single k)
  own = single_own k (omega (arith, low))

  fewer : size (difference F (single k)) < size F
  fewer =
      size_lt (difference F (single k)) F k low (λ j m. ((difference_iff F (single k) j).0 m).0) is_fresh
      (not_in _ k (λ m. ((difference_iff F (single k) k).0 m).1 own))

  room : w.depth + 1 < length w.under
  unfolding F
  room = omega (arith, v.places, v.room, v.some, fewer)

  top : get_or (set w.under (w.depth + 1) (union P (single k))) (w.depth + 1) 0 ≡ union P (single k)
  top = get_or-set_same w.under (w.depth + 1) _ 0 room

  out_in : (j : ℕ) → Unsettled F P j → Unsettled (difference F (single k)) (union P (single k)) j
  out_in j (inl m) = go (decide (single k) j)
    where
      go : Member j (single k) ⊎ (Member j (single k) → ⊥) → Unsettled (difference F (single k)) (union P (single k)) j
      go (inl i) = inr (union_right P (single k) j i)
      go (inr o) = inl ((difference_iff F (single k) j).1 (m, o))
  out_in j (inr m) = inr (union_left P (single k) j m)

  in_out : (j : ℕ) → Unsettled (difference F (single k)) (union P (single k)) j → Unsettled F P j
  in_out j (inl m) = inl ((difference_iff F (single k) j).0 m).0
  in_out j (inr m) = go (union_cases P (single k) j m)
    where
      go : Member j P ⊎ Member j (single k) → Unsettled F P j
      go (inl i) = inr i
      go (inr i) = inl (subst (λ (x : ℕ). Member x F) (sym (member_single k j i)) is_fresh)

  apart : (j : ℕ) → Member j (difference F (single k)) → Member j (union P (single k)) → ⊥
  unfolding F P
  apart j m i = let d = (difference_iff F (single k) j).0 m in go d.0 d.1 (union_cases P (single k) j i)
    where
      go : Member j F → (Member j (single k) → ⊥) → Member j P ⊎ Member j (single k) → ⊥
      go f o (inl p) = v.apart j f p
      go f o (inr s) = o s

  walking : (x : ℕ) → x ≡ w.depth + 1 → Walking rows (record { under = set w.under (w.depth + 1) (union P (single k)); fresh = record { bits = difference F (single k) }; depth = x; count = w.count }) of at
  unfolding F P k
  walking x q = record {
    places = simp length-set v.places;
    chain = subst (Chained rows _) (sym q) (chained_entered rows w.under w.depth k v.chain room low (λ m. v.apart k is_fresh m) (needed k e.one));
    apart = subst (λ (y : ℕ). (j : ℕ) → Member j (difference F (single k)) → Member j (get_or (set w.under (w.depth + 1) (union P (single k))) y 0) → ⊥) (sym q)
        (λ j m i. apart j m (subst (Member j) top i));
    settled = subst (λ (y : ℕ). Settled rows (difference F (single k)) (get_or (set w.under (w.depth + 1) (union P (single k))) y 0) of at w.count) (sym q)
        (subst (λ (y : ℕ). Settled rows (difference F (single k)) y of at w.count) (sym top) (settled_same rows F P of at w.count _ _ out_in in_out v.settled));
    small = omega (arith, v.small);
    some = v.some;
    room = omega (arith, v.room, fewer);
  }

  pub entered_step : Stepped rows w of at r
  unfolding F P k
  entered_step = record { walking = walks; less = omega (arith, fewer, ap size e.fresh, e.depth) }
    where
      walks : Walking rows r of at
      walks = record {
        places = subst (λ (x : List ℕ). length x ≡ 65) (sym e.path) now_so.places;
        chain = subst (λ (x : List ℕ). Chained rows x r.depth) (sym e.path) now_so.chain;
        apart = subst (λ (x : List ℕ). (j : ℕ) → Member j r.fresh.bits → Member j (get_or x r.depth 0) → ⊥) (sym e.path)
            (λ j m. now_so.apart j (subst (Member j) e.fresh m));
        settled = subst (λ (x : List ℕ). Settled rows r.fresh.bits (get_or x r.depth 0) of at r.count) (sym e.path)
            (subst (λ (x : ℕ). Settled rows x (get_or grown r.depth 0) of at r.count) (sym e.fresh)
            (subst (Settled rows (difference w.fresh.bits (single e.atom)) (get_or grown r.depth 0) of at) (sym e.count) now_so.settled));
        small = omega (arith, e.fresh, v.small);
        some = omega (arith, e.count, v.some);
        room = omega (arith, e.count, e.depth, ap size e.fresh, v.room, fewer);
      }
        where
          grown : List ℕ
          grown = set w.under (w.depth + 1) (union (get_or w.under w.depth 0) (single e.atom))

          now_so : Walking rows (record { under = set w.under (w.depth + 1) (union (get_or w.under w.depth 0) (single e.atom)); fresh = record { bits = difference w.fresh.bits (single e.atom) }; depth = r.depth; count = w.count }) of at
          now_so = walking r.depth e.depth

-- ---- the last component: c is what the path has and the place below has not

module _ (rows of at : List ℕ) (w : Walk) (v : Walking rows w of at) (some : w.depth ≢ 0) (members needs outside : ℕ)
    (is : members ≡ difference (get_or w.under w.depth 0) (get_or w.under (w.depth - 1) 0)) (n : Needs rows members needs) (out : outside ≡ difference needs members) where
  d : ℕ
  d = w.depth

  e : ℕ
  e = w.depth - 1

  after : d ≡ e + 1
  unfolding d e
  after = omega arith

  member_iff : (k : ℕ) → Member k members → Member k (get_or w.under d 0) × (Member k (get_or w.under e 0) → ⊥)
  unfolding d e
  member_iff k m = (difference_iff (get_or w.under w.depth 0) (get_or w.under (w.depth - 1) 0) k).0 (subst (Member k) is m)

  iff_member : (k : ℕ) → Member k (get_or w.under d 0) → (Member k (get_or w.under e 0) → ⊥) → Member k members
  unfolding d e
  iff_member k m o = subst (Member k) (sym is) ((difference_iff (get_or w.under w.depth 0) (get_or w.under (w.depth - 1) 0) k).1 (m, o))

  outside_iff : (k : ℕ) → Member k outside → Member k needs × (Member k members → ⊥)
  outside_iff k m = (difference_iff needs members k).0 (subst (Member k) out m)

  -- every atom of the walk depends on what is needed
  pub needed_by_all : (k : ℕ) → Member k outside → (a : ℕ) → Member a (get_or w.under w.depth 0) → Depends rows a k
  unfolding d e
  needed_by_all k m a ma lev kept =
      let t = n.only k (outside_iff k m).0 in
      let i = member_iff t.0 t.1 in
      let one : lev k ≤ lev t.0 = kept t.0 k t.2 in
      let two : lev t.0 ≤ lev a = last_depends rows w.under d e after v.chain a t.0 ma i.0 i.1 lev kept in
      omega arith

  -- ---- the last two become one

  pub joined_step : disjoint outside (get_or w.under w.depth 0) ≡ false → Stepped rows w of at
      (record { under = set w.under (w.depth - 1) (get_or w.under w.depth 0); fresh = w.fresh; depth = w.depth - 1; count = w.count })
  unfolding d e
  joined_step met = record {
    walking = record {
      places = simp length-set v.places;
      chain = chained_joined rows w.under d e after v.chain fits k t earlier it.0 it.1 row;
      apart = λ j m i. v.apart j m (subst (Member j) top i);
      settled = subst (λ (y : ℕ). Settled rows w.fresh.bits y of at w.count) (sym top) v.settled;
      small = v.small;
      some = v.some;
      room = omega (arith, v.room);
    };
    less = omega arith;
  }
    where
      fits : w.depth < length w.under
      fits = omega (arith, v.places, v.room, v.some)

      m : (k : ℕ) × Member k outside × Member k (get_or w.under w.depth 0)
      m = meets outside (get_or w.under w.depth 0) met

      k : ℕ
      k = m.0

      o : Member k needs × (Member k members → ⊥)
      o = outside_iff k m.1

      user : (h : ℕ) × Member h members × Member k (get_or rows h 0)
      user = n.only k o.0

      t : ℕ
      t = user.0

      row : Member k (get_or rows t 0)
      row = user.2

      it : Member t (get_or w.under d 0) × (Member t (get_or w.under e 0) → ⊥)
      it = member_iff t user.1

      earlier : Member k (get_or w.under e 0)
      earlier = go (decide (get_or w.under e 0) k)
        where
          go : Member k (get_or w.under e 0) ⊎ (Member k (get_or w.under e 0) → ⊥) → Member k (get_or w.under e 0)
          go (inl i) = i
          go (inr x) = absurd (o.1 (iff_member k m.2 x))

      top : get_or (set w.under (w.depth - 1) (get_or w.under w.depth 0)) (w.depth - 1) 0 ≡ get_or w.under w.depth 0
      top = get_or-set_same w.under (w.depth - 1) _ 0 (omega (arith, fits))

  -- ---- the last is settled

  pub settled_step : disjoint outside (get_or w.under w.depth 0) ≡ true → intersection outside w.fresh.bits ≡ 0 → (of' at' : List ℕ) (count : ℕ)
      → Placed of at members outside w.count of' at' count → Stepped rows w of' at' (record { under = w.under; fresh = w.fresh; depth = w.depth - 1; count = count })
  unfolding d e
  settled_step clear none of' at' count p = record {
    walking = record {
      places = v.places;
      chain = chained_settled rows w.under d e after v.chain;
      apart = λ j m i. v.apart j m (v.chain.nested e d (omega arith) (omega arith) j i);
      settled =
          settled_next rows w.fresh.bits (get_or w.under d 0) (get_or w.under e 0) members outside of at w.count v.settled
          (λ k m. (member_iff k m).0) (λ k m. (member_iff k m).1) rest (v.chain.nested e d (omega arith) (omega arith)) v.apart needed done
          (λ a b ma mb. last_depends rows w.under d e after v.chain a b (member_iff a ma).0 (member_iff b mb).0 (member_iff b mb).1) of' at' count p
          (omega (arith, v.room));
      small = v.small;
      some = omega (arith, v.some, p.more);
      room = omega (arith, v.room, p.few);
    };
    less = omega arith;
  }
    where
      rest : (k : ℕ) → Member k (get_or w.under d 0) → Member k members ⊎ Member k (get_or w.under e 0)
      rest k m = go (decide (get_or w.under e 0) k)
        where
          go : Member k (get_or w.under e 0) ⊎ (Member k (get_or w.under e 0) → ⊥) → Member k members ⊎ Member k (get_or w.under e 0)
          go (inl i) = inr i
          go (inr o) = inl (iff_member k m o)

      needed : (h k : ℕ) → Member h members → Member k (get_or rows h 0) → Member k members ⊎ Member k outside
      needed h k m row = go (decide members k)
        where
          go : Member k members ⊎ (Member k members → ⊥) → Member k members ⊎ Member k outside
          go (inl i) = inl i
          go (inr o) = inr (subst (Member k) (sym out) ((difference_iff needs members k).1 (n.all h k m row, o)))

      done : (k : ℕ) → Member k outside → Unsettled w.fresh.bits (get_or w.under d 0) k → ⊥
      done k m (inl f) = none_in_empty k (subst (Member k) none ((intersection_iff outside w.fresh.bits k).1 (m, f)))
      done k m (inr i) = disjoint_true outside (get_or w.under d 0) clear k m i

-- a set with an atom has a size
pub some_left : (s among : ℕ) → s < 2 ^ 64 → Subset among s → among ≢ 0 → 0 < size s
some_left s among b f n = let (k, m) = inhabited among n in omega (arith, size_lt 0 s k (member_low s 64 k b (f k m)) (empty_subset s) (f k m) (bit_empty k))
