-- The loop that finds the next key. Assumes nothing.
use mathlib.Core.Path.{◌∙◌, ◌≡◌, subst, sym}
use mathlib.Core.Logic.{inl, inr}
use mathlib.Core.List.{List}
use Prim.Native.Nat.{◌<◌, ◌≤◌, min, suc, ℕ}
use lib.ListN.{get_or}
use native.Mathlib.Decide.{dec_lt, ℕ_discrete}
use native.Mathlib.Nat.{not-suc-le-zero}
use native.Mathlib.Omega.{arith}
use Rattle.ranking.specs.Keys.{never}
use Rattle.ranking.specs.Next.{AtLeast, NextKey}

pub next_none : (keys : List ℕ) (from : ℕ) → from ≤ never → NextKey keys 0 from never
next_none keys from l = record {
  rises = l;
  most = omega arith;
  least = λ i k _. absurd (not-suc-le-zero k);
  one = λ k. absurd (omega arith);
}

pub next_more : (keys : List ℕ) (i from r x : ℕ) → NextKey keys i from r → AtLeast (get_or keys i 0) from x → NextKey keys (suc i) from (min x r)
next_more keys i from r x h a = record {
  rises = rises a;
  most = omega (arith, h.most);
  least = λ j m k. least a j m k (ℕ_discrete j i);
  one = λ m. one a m (dec_lt x r);
}
  where
    rises : AtLeast (get_or keys i 0) from x → from ≤ min x r
    rises (inl (k, e)) = omega (arith, h.rises)
    rises (inr (k, e)) = omega (arith, h.rises, h.most)

    least : AtLeast (get_or keys i 0) from x → (j : ℕ) → j < suc i → from ≤ get_or keys j 0 → Dec (j ≡ i) → min x r ≤ get_or keys j 0
    least (inl (_, e)) j m k (yes d) = subst (λ (y : ℕ). min x r ≤ get_or keys y 0) (sym d) (omega arith)
    least (inr (n, _)) j m k (yes d) = absurd (let o = subst (λ (y : ℕ). from ≤ get_or keys y 0) d k in omega arith)
    least _ j m k (no d) = omega (arith, h.least j (omega arith) k)

    one : AtLeast (get_or keys i 0) from x → min x r < never → Dec (x < r) → (j : ℕ) × (j < suc i) × (get_or keys j 0 ≡ min x r)
    one _ m (no d) = let o = h.one (omega arith) in (o.0, omega (arith, o.1), o.2 ∙ omega arith)
    one (inl (_, e)) m (yes d) = (i, omega arith, omega arith)
    one (inr (_, e)) m (yes d) = absurd (omega arith)
