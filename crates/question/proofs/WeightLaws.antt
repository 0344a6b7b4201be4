-- The weights of the members of a set, listed one after another. Assumes nothing.
use mathlib.Core.Path.{◌∙◌, ◌≡◌, ap, refl, sym}
use mathlib.Core.List.{List, ◌∷◌}
use Prim.Native.Nat.{◌%◌, ◌+◌, ◌-◌, ◌/◌, ◌<◌, ◌^◌, ◌≤◌, suc, zero, ℕ}
use lib.Count.{ones_in}
use lib.ListN.{get_or, length, length-set, set}
use lib.Seq.{get_or-set_other, get_or-set_same}
use native.Mathlib.Decide.{dec_lt}
use native.Mathlib.Omega.{arith}
use Rattle.preference.specs.Subsets.{WeightsListed, pick, weights_in, weights_of}
use Rattle.preference.proofs.NumberLaws.{ones_none, ones_size}
use Rattle.question.proofs.MemberLaws.{above_next, ones_next}

-- the weights from k on, as they are read
weights_same : (m : ℕ) (v w : ℕ → ℕ) (D : ℕ) → ((j : ℕ) → v j ≡ w j) → weights_in m v D ≡ weights_in m w D
unfolding weights_in
weights_same zero v w D h = refl
weights_same (suc m) v w D h =
    let ih = weights_same m (λ j. v (suc j)) (λ j. w (suc j)) (D / 2) (λ j. h (suc j)) in
    ap (λ (xs : List ℕ). pick (D % 2) xs (v 0 ∷ xs)) ih
    ∙ ap (λ (x : ℕ). pick (D % 2) (weights_in m (λ j. w (suc j)) (D / 2)) (x ∷ weights_in m (λ j. w (suc j)) (D / 2))) (h 0)

-- the first k credentials are passed: the weights of those that are members are listed, and the others' are those of what is left
pub record Weighing (w : ℕ → ℕ) (D : ℕ) (listed : List ℕ) (left k n : ℕ) : Type 0 where
  pub long : length listed ≡ 16
  pub few : n ≤ k
  pub most : k ≤ 16
  pub above : left < 2 ^ (16 - k)
  pub sized : ones_in 16 D ≡ n + ones_in (16 - k) left
  pub written : (j : ℕ) → j < n → get_or listed j 0 ≡ get_or (weights_of w D) j 0
  pub rest : (j : ℕ) → get_or (weights_of w D) (n + j) 0 ≡ get_or (weights_in (16 - k) (λ i. w (k + i)) left) j 0

pub weighing_none : (w : ℕ → ℕ) (D : ℕ) (listed : List ℕ) → D < 2 ^ 16 → length listed ≡ 16 → Weighing w D listed D 0 0
weighing_none w D listed l e = record {
  long = e;
  few = omega arith;
  most = omega arith;
  above = l;
  sized = omega arith;
  written = λ j i. absurd (omega arith);
  rest = λ j.
      ap (λ (x : ℕ). get_or (weights_of w D) x 0) (omega arith)
      ∙ ap (λ (xs : List ℕ). get_or xs j 0) (weights_same 16 w (λ i. w (0 + i)) D (λ i. ap w (omega arith)));
}

module _ (w : ℕ → ℕ) (D : ℕ) (listed : List ℕ) (left k n : ℕ) (h : Weighing w D listed left k n) where
  module _ (l : k < 16) where
    after : List ℕ
    after = set listed n (w k)

    others : List ℕ
    others = weights_in (16 - (k + 1)) (λ i. w (k + 1 + i)) (left / 2)

    next : (j : ℕ) → get_or (weights_of w D) (n + j) 0 ≡ get_or (pick (left % 2) others (w k ∷ others)) j 0
    unfolding others weights_in
    next j =
        let m = 16 - (k + 1) in
        let e : 16 - k ≡ suc m = omega arith in
        h.rest j
        ∙ ap (λ (x : ℕ). get_or (weights_in x (λ i. w (k + i)) left) j 0) e
        ∙ ap (λ (xs : List ℕ). get_or (pick (left % 2) xs (w (k + 0) ∷ xs)) j 0)
        (weights_same m (λ i. w (k + suc i)) (λ i. w (k + 1 + i)) (left / 2) (λ i. ap w (omega arith)))
        ∙ ap (λ (x : ℕ). get_or (pick (left % 2) others (w x ∷ others)) j 0) (omega arith)

    -- of a member the weight is listed, of any other it is written over
    passed : (x : ℕ) → x < 2 → ((j : ℕ) → get_or (weights_of w D) (n + j) 0 ≡ get_or (pick x others (w k ∷ others)) j 0)
        → ((j : ℕ) → j < n + x → get_or after j 0 ≡ get_or (weights_of w D) j 0) × ((j : ℕ) → get_or (weights_of w D) (n + x + j) 0 ≡ get_or others j 0)
    unfolding after
    passed zero s f = (
      λ j i. get_or-set_other listed n j (w k) 0 (λ e. omega arith) ∙ h.written j (omega arith),
      λ j. ap (λ (y : ℕ). get_or (weights_of w D) y 0) (omega arith) ∙ f j,
    )
    passed (suc zero) s f = (λ j i. go j i (dec_lt j n), λ j. ap (λ (y : ℕ). get_or (weights_of w D) y 0) (omega arith) ∙ f (suc j))
      where
        go : (j : ℕ) → j < n + 1 → Dec (j < n) → get_or (set listed n (w k)) j 0 ≡ get_or (weights_of w D) j 0
        go j i (yes d) = get_or-set_other listed n j (w k) 0 (λ e. omega arith) ∙ h.written j d
        go j i (no d) =
            let e : j ≡ n = omega arith in
            ap (λ (y : ℕ). get_or (set listed n (w k)) y 0) e ∙ get_or-set_same listed n (w k) 0 (omega (arith, h.long, h.few))
            ∙ sym (f 0) ∙ ap (λ (y : ℕ). get_or (weights_of w D) y 0) (omega arith)
    passed (suc (suc x)) s f = absurd (omega arith)

    pub weighing_more : Weighing w D (set listed n (w k)) (left / 2) (k + 1) (n + left % 2)
    unfolding after others
    weighing_more =
        let p = passed (left % 2) (omega arith) next in
        record {
          long = length-set listed n (w k) ∙ h.long;
          few = omega (arith, h.few);
          most = omega arith;
          above = above_next left k l h.above;
          sized = omega (arith, h.sized, ones_next left k l);
          written = p.0;
          rest = p.1;
        }

  pub weighing_all : D < 2 ^ 16 → left ≡ 0 → WeightsListed w D listed
  weighing_all l z j i = h.written j (omega (arith, h.sized, ones_size D l, ap (ones_in (16 - k)) z, ones_none (16 - k)))
