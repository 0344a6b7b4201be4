-- Demand 2, of an ending e where P is shown and N declined. Nothing here computes but weights and sizes: unlocking is by stable sets, disclosure by
-- least closed sets. Assumes nothing.
use Rattle.std.specs.Prelude.{◌≡◌, ◌↔◌, ◌≢◌, ℕ}
use Rattle.atoms.specs.Sets.{Member, union}
use Rattle.rules.specs.Policy.{Policy}
use Rattle.rules.specs.Unlocking.{Unlocks}
use Rattle.rules.specs.Stable.{OneStable}
use Rattle.disclosure.specs.Disclosure.{Disclosable}
use Rattle.preference.specs.Question.{Preferred, Question}
use Rattle.rounds.specs.Endings.{Ending, ask, deny, grant}

-- "no set of disclosable credentials, neither shown nor declined by that round, unlocks the service beside those shown by then": what such a set is
pub record Missing (pol : Policy) (r P N : ℕ) (q : Question) : Type 0 where
  pub disclosed : (k : ℕ) → Member k q.asks → Disclosable pol P k
  pub unshown : (k : ℕ) → Member k q.asks → Member k P → ⊥
  pub undeclined : (k : ℕ) → Member k q.asks → Member k N → ⊥
  pub opens : Unlocks pol r (union P q.asks)

-- "The preferred set has the least total weight, then the fewest credentials, then the smallest number.": q is such a set, and preferred to every other
pub record FirstMissing (pol : Policy) (r P N : ℕ) (q : Question) : Type 0 where
  pub missing : Missing pol r P N q
  pub first : (x : Question) → Missing pol r P N x → x ≢ q → Preferred pol q x

-- demand 3, of the same ending: it is deny "exactly when no set of disclosable credentials, neither shown nor declined by that round, unlocks the
-- service beside those shown by then"; "the empty set is among the sets that deny rules out"
abbrev pub DeniedWhen : Policy → ℕ → ℕ → ℕ → Ending → Type 0
DeniedWhen pol r P N e = (e ≡ deny) ↔ ((q : Question) → Missing pol r P N q → ⊥)

pub record Demand2 (pol : Policy) (r P N : ℕ) (e : Ending) : Type 0 where
  -- "For every accepted policy and every C just one stable set exists; that is the model."
  pub one_stable : (C : ℕ) → (M : ℕ) × OneStable pol.access C M
  -- "C unlocks service r if r is in the model and 63 is not."; "if P unlocks the request, grant"
  pub grants : (e ≡ grant) ↔ Unlocks pol r P
  -- "otherwise"; "the preferred one is asked"
  pub asks : (q : Question) → (e ≡ ask q) ↔ ((Unlocks pol r P → ⊥) × FirstMissing pol r P N q)
  -- "if there is none, deny"
  pub denies : DeniedWhen pol r P N e
