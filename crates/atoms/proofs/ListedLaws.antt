-- The atoms of a set as a list, rising. Assumes nothing.
use mathlib.Core.Path.{◌∙◌, ◌≡◌, ap, refl, subst, sym}
use mathlib.Core.Logic.{◌↔◌, ◌≢◌, ◌⊎◌, inl, inr}
use mathlib.Core.Bool.{Bool, cond}
use mathlib.Core.List.{List, [], ◌∷◌}
use Prim.Native.Nat.{◌+◌, ◌-◌, ◌<◌, ◌^◌, ◌≤◌, suc, zero, ℕ}
use lib.Bits.{bit_and}
use lib.Count.{count_trailing_zeros}
use native.Mathlib.Decide.{ℕ_discrete}
use native.Mathlib.Omega.{arith}
use borrow.Author.Tests.{eq-eqb, ne_eqb}
use Rattle.std.specs.Int.{w64}
use Rattle.std.specs.List.{filter, range_with_len}
use Rattle.std.specs.List.Sorted.{IsStrictlyIncreasing}
use Rattle.std.proofs.lemmas.List.FromFn.{get_or-range_with_len, length-range_with_len}
use Rattle.std.proofs.lemmas.List.Kept.{IsStrictlyIncreasing-filter}
use Rattle.std.proofs.lemmas.Nat.Bits.{bit_at-trailing_zeros}
use Rattle.lists.specs.Lists.{OneOf}
use Rattle.atoms.specs.Sets.{Member, atoms_of, bit, member}
use Rattle.atoms.proofs.LowestLaws.{Lowest, lowest_fits, lowest_in, without}
use Rattle.atoms.proofs.SetLaws.{bit_empty, in_or_out, member_low}

-- the members of s among d numbers from n on
abbrev among : ℕ → ℕ → ℕ → List ℕ
among d n s = filter (λ k. member k s) (range_with_len n d)

with_first : (d n s : ℕ) → Member n s → among (suc d) n s ≡ n ∷ among d (n + 1) s
with_first d n s m = ap (λ (b : Bool). cond b (n ∷ among d (n + 1) s) (among d (n + 1) s)) (eq-eqb _ 1 m)

without_first : (d n s : ℕ) → bit s n ≡ 0 → among (suc d) n s ≡ among d (n + 1) s
without_first d n s z = ap (λ (b : Bool). cond b (n ∷ among d (n + 1) s) (among d (n + 1) s)) (ne_eqb _ 1 (λ e. omega arith))

-- ---- which they are

among_only : (d n s k : ℕ) → OneOf k (among d n s) → Member k s
among_only zero n s k x = absurd x
among_only (suc d) n s k x = go (in_or_out s n) (among_only d (n + 1) s k)
  where
    go : Member n s ⊎ (bit s n ≡ 0) → (OneOf k (among d (n + 1) s) → Member k s) → Member k s
    go (inl m) ih = pick (subst (OneOf k) (with_first d n s m) x)
      where
        pick : (k ≡ n) ⊎ OneOf k (among d (n + 1) s) → Member k s
        pick (inl e) = subst (λ (y : ℕ). Member y s) (sym e) m
        pick (inr i) = ih i
    go (inr z) ih = ih (subst (OneOf k) (without_first d n s z) x)

among_low : (d n s k : ℕ) → OneOf k (among d n s) → k < n + d
among_low zero n s k x = absurd x
among_low (suc d) n s k x = go (in_or_out s n) (λ i. let l : k < n + 1 + d = among_low d (n + 1) s k i in omega arith)
  where
    go : Member n s ⊎ (bit s n ≡ 0) → (OneOf k (among d (n + 1) s) → k < n + suc d) → k < n + suc d
    go (inl m) ih = pick (subst (OneOf k) (with_first d n s m) x)
      where
        pick : (k ≡ n) ⊎ OneOf k (among d (n + 1) s) → k < n + suc d
        pick (inl e) = omega arith
        pick (inr i) = ih i
    go (inr z) ih = ih (subst (OneOf k) (without_first d n s z) x)

among_all : (d n s k : ℕ) → n ≤ k → k < n + d → Member k s → OneOf k (among d n s)
among_all zero n s k a b m = absurd (omega arith)
among_all (suc d) n s k a b m = go (in_or_out s n) (ℕ_discrete k n) (λ l. among_all d (n + 1) s k l (omega arith) m)
  where
    go : Member n s ⊎ (bit s n ≡ 0) → Dec (k ≡ n) → (n + 1 ≤ k → OneOf k (among d (n + 1) s)) → OneOf k (among (suc d) n s)
    go (inl i) (yes e) ih = subst (OneOf k) (sym (with_first d n s i)) (inl e)
    go (inl i) (no o) ih = subst (OneOf k) (sym (with_first d n s i)) (inr (ih (omega arith)))
    go (inr z) (yes e) ih = absurd (let q : bit s k ≡ 0 = subst (λ (y : ℕ). bit s y ≡ 0) (sym e) z in omega arith)
    go (inr z) (no o) ih = subst (OneOf k) (sym (without_first d n s z)) (ih (omega arith))

pub listed_iff : (s k : ℕ) → s < 2 ^ 64 → OneOf k (atoms_of s) ↔ Member k s
unfolding atoms_of
listed_iff s k l = (among_only 64 0 s k, λ m. among_all 64 0 s k (omega arith) (omega (arith, member_low s 64 k l m)) m)

-- the first of them is below 64, whatever the set
pub first_low : (s k : ℕ) (ks : List ℕ) → atoms_of s ≡ k ∷ ks → k < 64
unfolding atoms_of
first_low s k ks e = among_low 64 0 s k (subst (OneOf k) (sym e) (inl refl))

rises : (n d : ℕ) → IsStrictlyIncreasing (range_with_len n d)
rises n d k l =
    let e = length-range_with_len n d in
    omega (arith, get_or-range_with_len n d k 0 (omega arith), get_or-range_with_len n d (k + 1) 0 (omega arith))

pub rising : (s : ℕ) → IsStrictlyIncreasing (atoms_of s)
unfolding atoms_of
rising s = IsStrictlyIncreasing-filter (λ k. member k s) (range_with_len 0 64) (rises 0 64)

-- ---- the first of them, and the others

among_same : (d n a b : ℕ) → ((k : ℕ) → n ≤ k → bit a k ≡ bit b k) → among d n a ≡ among d n b
among_same zero n a b f = refl
among_same (suc d) n a b f = go (in_or_out b n) (among_same d (n + 1) a b (λ k l. f k (omega arith)))
  where
    go : Member n b ⊎ (bit b n ≡ 0) → among d (n + 1) a ≡ among d (n + 1) b → among (suc d) n a ≡ among (suc d) n b
    go (inl m) ih = with_first d n a (f n (omega arith) ∙ m) ∙ ap (◌∷◌ n) ih ∙ sym (with_first d n b m)
    go (inr z) ih = without_first d n a (f n (omega arith) ∙ z) ∙ ih ∙ sym (without_first d n b z)

among_none : (d n : ℕ) → among d n 0 ≡ []
among_none zero n = refl
among_none (suc d) n = without_first d n 0 (bit_empty n) ∙ among_none d (n + 1)

-- t is the lowest of s, and r is s without it
module _ (s t r : ℕ) (low : Lowest s t r) (below : (k : ℕ) → k < t → bit s k ≡ 0) where
  among_next : (d n : ℕ) → n ≤ t → t < n + d → among d n s ≡ t ∷ among d n r
  among_next zero n a b = absurd (omega arith)
  among_next (suc d) n a b = go (ℕ_discrete t n) (λ l. among_next d (n + 1) l (omega arith))
    where
      go : Dec (t ≡ n) → (n + 1 ≤ t → among d (n + 1) s ≡ t ∷ among d (n + 1) r) → among (suc d) n s ≡ t ∷ among (suc d) n r
      go (yes e) ih =
          with_first d n s (subst (λ (x : ℕ). Member x s) e low.has)
          ∙ ap (◌∷◌ n) (among_same d (n + 1) s r (λ k l. sym (low.rest k (omega arith))))
          ∙ ap (λ (x : ℕ). x ∷ among d (n + 1) r) (sym e)
          ∙ ap (◌∷◌ t) (sym (without_first d n r (subst (λ (x : ℕ). bit r x ≡ 0) e low.gone)))
      go (no o) ih =
          let l : n < t = omega arith in
          without_first d n s (below n l) ∙ ih (omega arith) ∙ ap (◌∷◌ t) (sym (without_first d n r (low.rest n o ∙ below n l)))

pub atoms_none : (s : ℕ) → s ≡ 0 → atoms_of s ≡ []
unfolding atoms_of
atoms_none s e = ap atoms_of e ∙ among_none 64 0

pub atoms_next : (s : ℕ) → s ≢ 0 → s < 2 ^ 64 → atoms_of s ≡ count_trailing_zeros 64 s ∷ atoms_of (bit_and s (s - 1))
unfolding atoms_of without
atoms_next s some small =
    among_next s (count_trailing_zeros 64 s) (bit_and s (s - 1)) (lowest_in 64 s (omega arith) small)
    (bit_at-trailing_zeros w64 s (omega arith) small).2 64 0 (omega arith) (omega (arith, lowest_fits s some small))
