-- The count of an owner's unfinished sessions. Assumes nothing.
use mathlib.Core.Path.{◌∙◌, ◌≡◌, ap, refl, subst, sym}
use mathlib.Core.Logic.{◌↔◌}
use mathlib.Core.Bool.{Bool, cond, false, true, true≢false}
use mathlib.Core.List.{List, [], ◌∷◌}
use Prim.Native.Nat.{◌+◌, ◌-◌, ◌≤◌, suc, zero, ℕ}
use lib.Dec.{eqb, ltb}
use lib.ListN.{get_or-eq_default, length}
use native.Mathlib.Decide.{dec_le}
use native.Mathlib.Omega.{arith}
use Rattle.lists.specs.Lists.{Every}
use Rattle.lists.specs.Sums.{sum}
use Rattle.lists.proofs.SumLaws.{sum_add, sum_next, sum_none, sum_start}
use Rattle.validation.specs.Statements.{Decides}
use Rattle.validation.proofs.DecideLaws.{decides_eq, decides_lt}
use Rattle.rounds.specs.Sessions.{Finished, is_closed}
use Rattle.rounds.proofs.SessionLaws.{decides_closed}
use Rattle.slots.specs.Slots.{FallingBelow, Owns, Slot, Unfinished, UnfinishedOf, held, slot_at, unfinished, unfinished_of, vacant}
use Rattle.slots.proofs.FreeLaws.{phase_open}

-- ---- slot by slot

-- n is 1 where the statement holds, else 0
data Counts (K : Type 0) (n : ℕ) : Type 0 where
  one : K → n ≡ 1 → Counts K n
  nothing : (K → ⊥) → n ≡ 0 → Counts K n

-- a slot counts for 1 where it holds one of the owner's, else for 0
counts : (o : ℕ) (x : Slot) → Counts (UnfinishedOf o x) (unfinished_of o x)
unfolding unfinished_of
counts o vacant = nothing (λ h. h) refl
counts o (held p s) = go (eqb p o) (is_closed s.phase) (decides_eq p o) (decides_closed s)
  where
    go : (a c : Bool) → Decides a (p ≡ o) → Decides c (Finished s) → Counts ((p ≡ o) × Unfinished s) (cond a (cond c 0 1) 0)
    go false c d f = nothing (λ h. true≢false (sym (d.1 h.0))) refl
    go true true d f = nothing (λ h. (phase_open s.phase).0 h.1 (f.0 refl)) refl
    go true false d f = one (d.0 refl, (phase_open s.phase).1 (λ h. true≢false (sym (f.1 h)))) refl

pub one_most : (o : ℕ) (x : Slot) → unfinished_of o x ≤ 1
one_most o x = go (counts o x)
  where
    go : Counts (UnfinishedOf o x) (unfinished_of o x) → unfinished_of o x ≤ 1
    go (one h e) = omega (arith, e)
    go (nothing h e) = omega (arith, e)

module _ (o : ℕ) (xs : List Slot) where
  pub unfinished_none : unfinished o xs 0 ≡ 0
  unfolding unfinished
  unfinished_none = sum_start (λ k. unfinished_of o (slot_at xs k))

  pub unfinished_next : (k : ℕ) → unfinished o xs (k + 1) ≡ unfinished o xs k + unfinished_of o (slot_at xs k)
  unfolding unfinished
  unfinished_next k = sum_next (λ k. unfinished_of o (slot_at xs k)) k

  pub unfinished_most : (k : ℕ) → unfinished o xs k ≤ k
  unfolding unfinished sum
  unfinished_most zero = omega arith
  unfinished_most (suc k) = omega (arith, unfinished_most k, one_most o (slot_at xs k))

  -- past the list's end there is none
  nobody's : (k : ℕ) → length xs ≤ k → unfinished_of o (slot_at xs k) ≡ 0
  unfolding unfinished_of
  nobody's k l = ap (unfinished_of o) (get_or-eq_default xs vacant {n = k} l)

  pub unfinished_all : (n : ℕ) → length xs ≤ n → unfinished o xs n ≡ unfinished o xs (length xs)
  unfolding unfinished
  unfinished_all n l =
      let f : ℕ → ℕ = λ k. unfinished_of o (slot_at xs k) in
      let beyond = sum_none (λ m. f (length xs + m)) (n - length xs) (λ m _. nobody's (length xs + m) (omega arith)) in
      let e : n ≡ length xs + (n - length xs) = omega (arith, l) in
      ap (sum f) e ∙ omega (arith, sum_add f (length xs) (n - length xs), beyond)

-- ---- which slots are counted

-- numbers below n are below more
falling_more : (n : ℕ) (ks : List ℕ) → FallingBelow n ks → FallingBelow (suc n) ks
falling_more n [] h = tt
falling_more n (k ∷ ks) h = (omega (arith, h.0), h.1)

module _ (o : ℕ) (xs : List Slot) where
  abbrev Counted : ℕ → Type 0
  Counted k = Counts (UnfinishedOf o (slot_at xs k)) (unfinished_of o (slot_at xs k))

  unfinished_rises : (m n : ℕ) → m ≤ n → unfinished o xs m ≤ unfinished o xs n
  unfolding unfinished
  unfinished_rises m n l =
      let f : ℕ → ℕ = λ k. unfinished_of o (slot_at xs k) in
      let e : n ≡ m + (n - m) = omega (arith, l) in
      subst (λ (j : ℕ). sum f m ≤ sum f j) (sym e) (omega (arith, sum_add f m (n - m)))

  counted_owns : (n many : ℕ) → many ≤ unfinished o xs n → Owns o xs n many
  unfolding unfinished sum
  counted_owns n zero l = record { numbers = []; different = tt; each = tt; counted = refl }
  counted_owns zero (suc many) l = absurd (omega (arith, l))
  counted_owns (suc n) (suc many) l = go (counts o (slot_at xs n)) (counted_owns n many) (counted_owns n (suc many))
    where
      go : Counted n → (many ≤ unfinished o xs n → Owns o xs n many) → (suc many ≤ unfinished o xs n → Owns o xs n (suc many))
          → Owns o xs (suc n) (suc many)
      go (one h e) ih _ =
          let w = ih (omega (arith, l, e)) in
          record { numbers = n ∷ w.numbers; different = (omega arith, w.different); each = (h, w.each); counted = ap suc w.counted }
      go (nothing h e) _ ih =
          let w = ih (omega (arith, l, e)) in
          record { numbers = w.numbers; different = falling_more n w.numbers w.different; each = w.each; counted = w.counted }

  all_counted : (n : ℕ) (ks : List ℕ) → FallingBelow n ks → Every (λ k. UnfinishedOf o (slot_at xs k)) ks → length ks ≤ unfinished o xs n
  all_counted n [] f h = omega arith
  all_counted n (k ∷ ks) f h = go (counts o (slot_at xs k)) (all_counted k ks f.1 h.1)
    where
      go : Counted k → length ks ≤ unfinished o xs k → suc (length ks) ≤ unfinished o xs n
      go (nothing d e) ih = absurd (d h.0)
      go (one _ e) ih = omega (arith, e, ih, unfinished_next o xs k, unfinished_rises (k + 1) n (omega (arith, f.0)))

  pub counted : (n many : ℕ) → (many ≤ unfinished o xs n) ↔ Owns o xs n many
  counted n many = (counted_owns n many, λ w. omega (arith, w.counted, all_counted n w.numbers w.different w.each))

  -- "owner has four or more", or has not
  pub decides_fewer : (n many : ℕ) → Decides (ltb (unfinished o xs n) many) (Owns o xs n many → ⊥)
  decides_fewer n many =
      let d = decides_lt (unfinished o xs n) many in
      let i = counted n many in (
        λ e w. omega (arith, d.0 e, i.1 w),
        λ f. let g : many ≤ unfinished o xs n → ⊥ = λ l. f (i.0 l) in d.1 (omega (arith, g)),
      )

  pub not_fewer : (n many : ℕ) → ((Owns o xs n many → ⊥) → ⊥) → Owns o xs n many
  not_fewer n many f = go (dec_le many (unfinished o xs n))
    where
      go : Dec (many ≤ unfinished o xs n) → Owns o xs n many
      go (yes l) = (counted n many).0 l
      go (no d) = absurd (f (λ w. d ((counted n many).1 w)))
