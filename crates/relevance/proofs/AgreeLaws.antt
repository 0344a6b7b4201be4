-- Leaving out rules changes nothing that the others bear on: each of the two closures, as far as it counts, lies within the other. Assumes nothing.
use mathlib.Core.List.{List, [], ◌∷◌}
use Prim.Native.Nat.{◌≤◌, ℕ}
use Rattle.lists.proofs.ListLaws.{every_imp, every_imp₂}
use Rattle.lists.specs.Lists.{Every}
use Rattle.atoms.specs.Atoms.{violation}
use Rattle.atoms.specs.Sets.{Member, Subset}
use Rattle.rules.specs.LevelByLevel.{level_by_level, settle}
use Rattle.rules.specs.Model.{closure, consequences}
use Rattle.rules.specs.Rules.{Headed, Rule}
use Rattle.rules.specs.Stable.{Closed, Unstruck, reduct}
use Rattle.rules.proofs.LeastLaws.{closure_closed, closure_within}
use Rattle.rules.proofs.ReductLaws.{LeftRespects, Respects, reduct_every, reduct_headed}
use Rattle.relevance.specs.Relevance.{Follows, SameOn, SameWhere, kept, kept_levels}
use Rattle.relevance.proofs.KeptLaws.{kept_every}

-- where P holds of the head, r is left and P holds of its body
pub record Bears (P : ℕ → Type 0) (R : ℕ) (r : Rule) : Type 0 where
  pub left : P r.head → Member r.head R
  pub positive : P r.head → (k : ℕ) → Member k r.positive → P k
  pub negated : P r.head → (k : ℕ) → Member k r.negated → P k

module _ (P : ℕ → Type 0) (R : ℕ) where
  -- Y has T and is closed under the rules that count: then, as far as it counts, the closure lies within Y
  half : (rs : List Rule) → Every (Bears P R) rs → (S T Y : ℕ) → SameWhere P S T → Subset T Y → Every (λ r. P r.head → LeftRespects T Y r) rs
      → (k : ℕ) → P k → Member k (closure (reduct S rs) S) → Member k Y
  half rs b S T Y a t y k p m =
      closure_within (λ k. P k → Member k Y) (reduct S rs) S (λ k i p. t k ((a k p).0 i))
      ((reduct_every S rs (λ r. ((k : ℕ) → Member k r.positive → P k → Member k Y) → P r.head → Member r.head Y)).1
      (every_imp₂ (Bears P R) (λ r. P r.head → LeftRespects T Y r)
      (λ r. Unstruck S r → ((k : ℕ) → Member k r.positive → P k → Member k Y) → P r.head → Member r.head Y) step rs b y)) k m p
    where
      step : (r : Rule) → Bears P R r → (P r.head → LeftRespects T Y r)
          → Unstruck S r → ((k : ℕ) → Member k r.positive → P k → Member k Y) → P r.head → Member r.head Y
      step r c z u f p = z p (λ k m n. u k m ((a k (c.negated p k m)).1 n)) (λ k m. f k m (c.positive p k m))

  pub settle_agree : (rs : List Rule) → Every Headed rs → Every (Bears P R) rs → (S T : ℕ) → SameWhere P S T → SameWhere P (settle rs S) (settle (kept R rs) T)
  unfolding settle consequences
  settle_agree rs h b S T a k p = (half rs b S T Y a few.holds forth k p, half qs fewer T S X (λ k p. ((a k p).1, (a k p).0)) all.holds back k p)
    where
      qs : List Rule
      qs = kept R rs

      X : ℕ
      X = closure (reduct S rs) S

      Y : ℕ
      Y = closure (reduct T (kept R rs)) T

      all : Closed (reduct S rs) S X
      all = closure_closed (reduct S rs) (reduct_headed S rs h) S

      few : Closed (reduct T qs) T Y
      few = closure_closed (reduct T qs) (reduct_headed T qs ((kept_every R rs Headed).1 (every_imp Headed (λ r. Member r.head R → Headed r) (λ r h _. h) rs h))) T

      fewer : Every (Bears P R) qs
      fewer = (kept_every R rs (Bears P R)).1 (every_imp (Bears P R) (λ r. Member r.head R → Bears P R r) (λ r h _. h) rs b)

      forth : Every (λ r. P r.head → LeftRespects T Y r) rs
      forth =
          every_imp₂ (Bears P R) (λ r. Member r.head R → LeftRespects T Y r) (λ r. P r.head → LeftRespects T Y r) (λ r c z p. z (c.left p)) rs b
          ((kept_every R rs (LeftRespects T Y)).0 ((reduct_every T qs (Respects Y)).0 few.respects))

      back : Every (λ r. P r.head → LeftRespects S X r) qs
      back =
          (kept_every R rs (λ r. P r.head → LeftRespects S X r)).1
          (every_imp (LeftRespects S X) (λ r. Member r.head R → P r.head → LeftRespects S X r) (λ r z _ _. z) rs
          ((reduct_every S rs (Respects X)).0 all.respects))

  pub levels_agree : (levels : List (List Rule)) → Every (Every Headed) levels → Every (Every (Bears P R)) levels → (S T : ℕ) → SameWhere P S T
      → SameWhere P (level_by_level levels S) (level_by_level (kept_levels R levels) T)
  unfolding level_by_level kept_levels
  levels_agree [] h b S T a = a
  levels_agree (rs ∷ levels) h b S T a =
      levels_agree levels h.1 b.1 (settle rs S) (settle (kept R rs) T) (settle_agree rs h.0 b.0 S T a)

-- ---- where what counts is what is in R

follows_bears : (R : ℕ) (r : Rule) → Follows R r → Bears (λ k. Member k R) R r
follows_bears R r f = record { left = λ i. i; positive = f.positive; negated = f.negated }

pub settle_agree_on : (R : ℕ) (rs : List Rule) → Every Headed rs → Every (Follows R) rs → (S T : ℕ)
    → SameOn R S T → SameOn R (settle rs S) (settle (kept R rs) T)
settle_agree_on R rs h f = settle_agree (λ k. Member k R) R rs h (every_imp _ _ (follows_bears R) rs f)

pub levels_agree_on : (R : ℕ) (levels : List (List Rule)) → Every (Every Headed) levels → Every (Every (Follows R)) levels → (S T : ℕ)
    → SameOn R S T → SameOn R (level_by_level levels S) (level_by_level (kept_levels R levels) T)
levels_agree_on R levels h f =
    levels_agree (λ k. Member k R) R levels h
    (every_imp (Every (Follows R)) (Every (Bears (λ k. Member k R) R)) (λ rs. every_imp _ _ (follows_bears R) rs) levels f)

-- ---- where it is what is in R, and every number that is no atom

pub follows_bears_low : (R : ℕ) (r : Rule) → Headed r → Follows R r → Bears (λ k. k ≤ violation → Member k R) R r
follows_bears_low R r h f = record {
  left = λ p. p h;
  positive = λ p k m _. f.positive (p h) k m;
  negated = λ p k m _. f.negated (p h) k m;
}
