-- Closed and stable sets, from the rules alone. Assumes nothing.
use mathlib.Core.Logic.{◌↔◌}
use mathlib.Core.List.{List}
use Prim.Native.Nat.{ℕ}
use Rattle.lists.specs.Lists.{OneOf}
use Rattle.atoms.specs.Sets.{Member, Subset}
use Rattle.rules.specs.Rules.{Rule}
use Rattle.rules.specs.Stable.{Closed, Stable, reduct}
use Rattle.rules.specs.Theorems.{ClosedBeside}
use Rattle.rules.proofs.LayoutLaws.{every_one_of, one_of_every}
use Rattle.rules.proofs.ReductLaws.{LeftRespects, Respects, reduct_every}

pub closed_means : (rs : List Rule) (C S : ℕ)
    → Closed rs C S ↔ (Subset C S × ((r : Rule) → OneOf r rs → Subset r.positive S → Member r.head S))
closed_means rs C S = (
  λ c. (c.holds, every_one_of (Respects S) rs c.respects),
  λ h. record { holds = h.0; respects = one_of_every (Respects S) rs h.1 },
)

-- what the reduct leaves is read beside M
beside : (rs : List Rule) (C M X : ℕ) → Closed (reduct M rs) C X ↔ ClosedBeside rs C M X
beside rs C M X = (
  λ c. record { holds = c.holds; heads = λ r i p u. every_one_of (LeftRespects M X) rs ((reduct_every M rs (Respects X)).0 c.respects) r i u p },
  λ h. record { holds = h.holds; respects = (reduct_every M rs (Respects X)).1 (one_of_every (LeftRespects M X) rs (λ r i u p. h.heads r i p u)) },
)

pub stable_means : (rs : List Rule) (C M : ℕ) → Stable rs C M ↔ (ClosedBeside rs C M M × ((X : ℕ) → ClosedBeside rs C M X → Subset M X))
stable_means rs C M = (
  λ s. ((beside rs C M M).0 s.one, λ X c. s.least X ((beside rs C M X).1 c)),
  λ h. record { one = (beside rs C M M).1 h.0; least = λ X c. h.1 X ((beside rs C M X).0 c) },
)

-- so that the order of rules and their repetition do not change what is stable
pub same_stable : (rs qs : List Rule) → ((r : Rule) → OneOf r rs ↔ OneOf r qs) → (C M : ℕ) → Stable rs C M → Stable qs C M
same_stable rs qs s C M h =
    let m = (stable_means rs C M).0 h in
    (stable_means qs C M).1 (moved rs qs (λ r. (s r).1) M m.0, λ X c. m.1 X (moved qs rs (λ r. (s r).0) X c))
  where
    moved : (ps ts : List Rule) → ((r : Rule) → OneOf r ts → OneOf r ps) → (X : ℕ) → ClosedBeside ps C M X → ClosedBeside ts C M X
    moved ps ts f X c = record { holds = c.holds; heads = λ r i. c.heads r (f r i) }
