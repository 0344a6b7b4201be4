-- The loops that make keys. Assumes nothing.
use mathlib.Core.Path.{◌∙◌, ◌≡◌, ap, refl, subst, sym}
use mathlib.Core.List.{List}
use Prim.Native.Nat.{◌*◌, ◌+◌, ◌-◌, ◌<◌, ◌^◌, ◌≤◌, suc, ℕ}
use lib.ListN.{drop, get_or, length, length-set, set}
use lib.Pow.{pow_pos}
use lib.Seq.{get_or-drop, get_or-set_other, get_or-set_same}
use native.Mathlib.Decide.{dec_lt, ℕ_discrete}
use native.Mathlib.Nat.{not-suc-le-zero, pow-suc}
use native.Mathlib.Omega.{arith}
use Rattle.atoms.specs.Sets.{size}
use Rattle.atoms.proofs.SizeLaws.{size_credentials}
use Rattle.preference.specs.Order.{cost_of, weight_of}
use Rattle.preference.proofs.CostLaws.{weight_add, weight_empty}
use Rattle.ranking.specs.Keys.{Extended, KeysWritten, TotalsWritten}

-- ---- one member more, for the first i candidates

pub record Extending (top weight : ℕ) (old : List ℕ) (i : ℕ) (new : List ℕ) : Type 0 where
  pub long : length new ≡ length old
  pub kept : (j : ℕ) → j < top → get_or new j 0 ≡ get_or old j 0
  pub added : (j : ℕ) → j < i → get_or new (top + j) 0 ≡ get_or old j 0 + weight
  pub beyond : (j : ℕ) → top + top ≤ j → get_or new j 0 ≡ get_or old j 0

pub extending_none : (top weight : ℕ) (old : List ℕ) → Extending top weight old 0 old
extending_none top weight old = record { long = refl; kept = λ j _. refl; added = λ j k. absurd (not-suc-le-zero k); beyond = λ j _. refl }

pub extending_more : (top weight : ℕ) (old : List ℕ) (i : ℕ) (new : List ℕ) → Extending top weight old i new → i < top → top + i < length new
    → Extending top weight old (suc i) (set new (top + i) (get_or new i 0 + weight))
extending_more top weight old i new h l k = record {
  long = length-set new (top + i) (get_or new i 0 + weight) ∙ h.long;
  kept = λ j m. get_or-set_other new (top + i) j (get_or new i 0 + weight) 0 (λ e. omega arith) ∙ h.kept j m;
  added = λ j m. go j m (ℕ_discrete j i);
  beyond = λ j m. get_or-set_other new (top + i) j (get_or new i 0 + weight) 0 (λ e. omega arith) ∙ h.beyond j m;
}
  where
    go : (j : ℕ) → j < suc i → Dec (j ≡ i) → get_or (set new (top + i) (get_or new i 0 + weight)) (top + j) 0 ≡ get_or old j 0 + weight
    go j m (yes e) =
        ap (λ (x : ℕ). get_or (set new (top + i) (get_or new i 0 + weight)) (top + x) 0) e
        ∙ get_or-set_same new (top + i) (get_or new i 0 + weight) 0 k
        ∙ ap (λ (x : ℕ). x + weight) (h.kept i l ∙ ap (λ (x : ℕ). get_or old x 0) (sym e))
    go j m (no d) = get_or-set_other new (top + i) (top + j) (get_or new i 0 + weight) 0 (λ e. d (omega arith)) ∙ h.added j (omega arith)

pub extending_all : (top weight : ℕ) (old new : List ℕ) (i : ℕ) → Extending top weight old i new → top ≤ i → Extended top weight old new
extending_all top weight old new i h l = record { long = h.long; kept = h.kept; added = λ j m. h.added j (omega arith); beyond = h.beyond }

-- ---- the total weights

pub totals_none : (ws : List ℕ) (from : ℕ) (xs : List ℕ) → get_or xs 0 0 ≡ 0 → TotalsWritten ws from 0 xs xs
totals_none ws from xs z = record {
  long = refl;
  each = λ i k. let e : i ≡ 0 = omega arith in ap (λ (x : ℕ). get_or xs x 0) e ∙ z ∙ sym (weight_empty (drop from ws)) ∙ ap (weight_of (drop from ws)) (sym e);
  small = λ i k. let e : i ≡ 0 = omega arith in omega (arith, ap (λ (x : ℕ). get_or xs x 0) e);
  beyond = λ i k. refl;
}

-- the first total is written before the others
pub totals_first : (ws : List ℕ) (from members : ℕ) (xs new : List ℕ) → TotalsWritten ws from members (set xs 0 0) new → TotalsWritten ws from members xs new
totals_first ws from members xs new h = record {
  long = h.long ∙ length-set xs 0 0;
  each = h.each;
  small = h.small;
  beyond = λ i k. h.beyond i k ∙ get_or-set_other xs 0 i 0 0 (λ e. omega (arith, pow_pos members));
}

pub totals_more : (ws : List ℕ) (from j w : ℕ) (xs old new : List ℕ) → TotalsWritten ws from j xs old → w ≡ get_or ws (from + j) 0 → w ≤ 255
    → Extended (2 ^ j) w old new → TotalsWritten ws from (suc j) xs new
totals_more ws from j w xs old new h is m e = record {
  long = e.long ∙ h.long;
  each = λ i k. each i k (dec_lt i (2 ^ j));
  small = λ i k. small i k (dec_lt i (2 ^ j));
  beyond = λ i k. e.beyond i (omega (arith, pow-suc 2 j)) ∙ h.beyond i (omega (arith, pow-suc 2 j));
}
  where
    upper : (i : ℕ) → (i < 2 ^ j → ⊥) → 2 ^ j + (i - 2 ^ j) ≡ i
    upper i l = omega arith

    each : (i : ℕ) → i < 2 ^ suc j → Dec (i < 2 ^ j) → get_or new i 0 ≡ weight_of (drop from ws) i
    each i k (yes l) = e.kept i l ∙ h.each i l
    each i k (no l) =
        let r : i - 2 ^ j < 2 ^ j = omega (arith, pow-suc 2 j) in
        let d = upper i l in
        ap (λ (x : ℕ). get_or new x 0) (sym d)
        ∙ e.added (i - 2 ^ j) r
        ∙ omega (arith, h.each (i - 2 ^ j) r, is, get_or-drop from ws j 0, weight_add j (drop from ws) (i - 2 ^ j) r)
        ∙ ap (weight_of (drop from ws)) d

    small : (i : ℕ) → i < 2 ^ suc j → Dec (i < 2 ^ j) → get_or new i 0 ≤ 255 * suc j
    small i k (yes l) = omega (arith, e.kept i l, h.small i l)
    small i k (no l) =
        let r : i - 2 ^ j < 2 ^ j = omega (arith, pow-suc 2 j) in
        let d : get_or new (2 ^ j + (i - 2 ^ j)) 0 ≡ get_or new i 0 = ap (λ (x : ℕ). get_or new x 0) (upper i l) in
        omega (arith, e.added (i - 2 ^ j) r, h.small (i - 2 ^ j) r)

-- ---- the keys, of the first i candidates

pub record Keyed (totals : List ℕ) (i : ℕ) (keys : List ℕ) : Type 0 where
  pub long : length keys ≡ length totals
  pub each : (j : ℕ) → j < i → get_or keys j 0 ≡ 256 * (17 * get_or totals j 0 + size j) + j
  pub beyond : (j : ℕ) → i ≤ j → get_or keys j 0 ≡ get_or totals j 0

pub keyed_none : (totals : List ℕ) → Keyed totals 0 totals
keyed_none totals = record { long = refl; each = λ j l. absurd (not-suc-le-zero l); beyond = λ j _. refl }

pub keyed_more : (totals : List ℕ) (i k : ℕ) (keys : List ℕ) → Keyed totals i keys → i < length totals → k ≡ 256 * (17 * get_or keys i 0 + size i) + i
    → Keyed totals (suc i) (set keys i k)
keyed_more totals i k keys h l is = record {
  long = length-set keys i k ∙ h.long;
  each = λ j m. each j m (ℕ_discrete j i);
  beyond = λ j m. get_or-set_other keys i j k 0 (λ e. omega arith) ∙ h.beyond j (omega arith);
}
  where
    own : k ≡ 256 * (17 * get_or totals i 0 + size i) + i
    own = is ∙ ap (λ (x : ℕ). 256 * (17 * x + size i) + i) (h.beyond i (omega arith))

    each : (j : ℕ) → j < suc i → Dec (j ≡ i) → get_or (set keys i k) j 0 ≡ 256 * (17 * get_or totals j 0 + size j) + j
    each j m (yes e) =
        subst (λ (x : ℕ). get_or (set keys i k) x 0 ≡ 256 * (17 * get_or totals x 0 + size x) + x) (sym e)
        (get_or-set_same keys i k 0 (omega (arith, h.long)) ∙ own)
    each j m (no d) = get_or-set_other keys i j k 0 d ∙ h.each j (omega arith)

pub keyed_all : (ws : List ℕ) (from members : ℕ) (xs totals keys : List ℕ) (i : ℕ) → members ≤ 8 → 2 ^ members ≤ 256 → TotalsWritten ws from members xs totals
    → i ≡ 2 ^ members → Keyed totals i keys → KeysWritten ws from members xs keys
unfolding cost_of
keyed_all ws from members xs totals keys i l top t e h = record {
  long = h.long ∙ t.long;
  keys = record {
    each = λ j k. omega (arith, h.each j (omega arith), t.each j k);
    small = λ j k. omega (arith, h.each j (omega arith), t.small j k, size_credentials j (omega arith));
  };
  beyond = λ j k. h.beyond j (omega arith) ∙ t.beyond j k;
}
