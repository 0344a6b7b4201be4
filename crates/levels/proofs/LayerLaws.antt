-- A walk begins with every head fresh, and ends with every atom settled. Assumes nothing.
use mathlib.Core.Path.{◌∙◌, ◌≡◌, refl, subst, sym}
use mathlib.Core.Logic.{◌≢◌, inl, inr}
use mathlib.Core.List.{List}
use Prim.Native.Nat.{◌-◌, ◌<◌, ◌^◌, suc, zero, ℕ}
use lib.ListN.{get_or, replicate, set}
use lib.Seq.{get_or-set_other}
use native.Mathlib.Decide.{ℕ_discrete}
use native.Mathlib.Omega.{arith}
use Rattle.atoms.specs.Sets.{Member, difference, union}
use Rattle.atoms.proofs.SetLaws.{difference_iff, member_lowest, none_in_empty, union_left, union_right}
use Rattle.atoms.proofs.SizeLaws.{size_most}
use Rattle.levels.specs.Graphs.{Headless, Layered}
use Rattle.levels.specs.Walks.{Settled, Unsettled, Walking}
use Rattle.levels.specs.declared.walk.Walk.{Walk}

-- all settled
module _ (rows of at : List ℕ) (w : Walk) (v : Walking rows w of at) where
  pub layered_done : union w.fresh.bits (get_or w.under w.depth 0) ≡ 0 → Layered rows of at
  layered_done z = record {
    above = λ h k m. (v.settled.above h k (none h) m).1;
    low = λ k. omega (arith, v.settled.low k, v.room);
    found = λ k l. v.settled.found k l (none k);
    only = λ k l m. (v.settled.only k l m).1;
  }
    where
      none : (k : ℕ) → Unsettled w.fresh.bits (get_or w.under w.depth 0) k → ⊥
      none k (inl m) = none_in_empty k (subst (Member k) z (union_left w.fresh.bits (get_or w.under w.depth 0) k m))
      none k (inr m) = none_in_empty k (subst (Member k) z (union_right w.fresh.bits (get_or w.under w.depth 0) k m))

  -- where something is left and there is no component, an atom is fresh
  pub fresh_left : union w.fresh.bits (get_or w.under w.depth 0) ≢ 0 → w.depth ≡ 0 → w.fresh.bits ≢ 0
  fresh_left n d z = n (subst (λ (x : ℕ). union x (get_or w.under w.depth 0) ≡ 0) (sym z) (subst (λ (x : ℕ). union 0 x ≡ 0) (sym path) refl))
    where
      path : get_or w.under w.depth 0 ≡ 0
      path = subst (λ (x : ℕ). get_or w.under x 0 ≡ 0) (sym d) v.chain.bottom

-- ---- the beginning

zeros : (n k : ℕ) → ◌≡◌ {A = ℕ} (get_or (replicate n 0) k 0) 0
zeros zero k = refl
zeros (suc n) zero = refl
zeros (suc n) (suc k) = zeros n k

pub no_zeros : (n i k : ℕ) → Member k (get_or (replicate n 0) i 0) → ⊥
no_zeros n i k m = none_in_empty k (subst (Member k) (zeros n i) m)

abbrev pub first_walk : ℕ → Walk
first_walk heads = record { under = replicate 65 0; fresh = record { bits = heads }; depth = 0; count = 1 }

module _ (rows : List ℕ) (heads : ℕ) (headless : Headless rows heads) (small : heads < 2 ^ 64) (rest : ℕ) (is : rest ≡ difference (2 ^ 64 - 1) heads) where
  first : List ℕ
  first = set (replicate 65 0) 0 rest

  on_0 : get_or first 0 0 ≡ rest
  unfolding first
  on_0 = refl

  only_fresh : (k : ℕ) → Unsettled heads (get_or (replicate 65 0) 0 0) k → Member k heads
  only_fresh k (inl m) = m
  only_fresh k (inr m) = absurd (no_zeros 65 0 k m)

  -- atoms on level l to begin with
  first_only : (k l : ℕ) → Member k (get_or first l 0) → (Member k heads → ⊥) × (l ≡ 0)
  unfolding first
  first_only k l m = go (ℕ_discrete l 0)
    where
      go : Dec (l ≡ 0) → (Member k heads → ⊥) × (l ≡ 0)
      go (yes e) = (((difference_iff (2 ^ 64 - 1) heads k).0 (subst (Member k) is (subst (λ (x : ℕ). Member k (get_or first x 0)) e m))).1, e)
      go (no n) = absurd (no_zeros 65 l k (subst (Member k) (get_or-set_other (replicate 65 0) 0 l rest 0 n) m))

  settled_first : Settled rows heads (get_or (replicate 65 0) 0 0) (replicate 64 0) first 1
  unfolding first
  settled_first = record {
    atom_places = refl;
    level_places = refl;
    above = λ h k n row. absurd (n (inl (headless h k row)));
    low = λ k. subst (λ (x : ℕ). x < 1) (sym (zeros 64 k)) (omega arith);
    found = λ k l n.
        subst (λ (x : ℕ). Member k (get_or first x 0)) (sym (zeros 64 k))
        (subst (Member k) (sym is) ((difference_iff (2 ^ 64 - 1) heads k).1 ((member_lowest 64 k).1 l, λ m. n (inl m))));
    only = λ k l m. let o = first_only k l m in (λ u. o.0 (only_fresh k u), zeros 64 k ∙ sym o.1);
  }

  pub walking_first : Walking rows (first_walk heads) (replicate 64 0) (set (replicate 65 0) 0 rest)
  unfolding first
  walking_first = record {
    places = refl;
    chain = record {
      bottom = refl;
      nested = λ i j l m k n. absurd (no_zeros 65 i k n);
      depends = λ a b n. absurd (no_zeros 65 0 a n);
    };
    apart = λ k m n. no_zeros 65 0 k n;
    settled = settled_first;
    small = small;
    some = omega arith;
    room = omega (arith, size_most heads);
  }
