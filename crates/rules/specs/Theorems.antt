-- The theorems of rules: what is computed is what is meant. Assumes nothing.
use Rattle.std.specs.Prelude.{◌≡◌, ◌↔◌, true, List, ◌++◌, ◌∷◌, ◌<◌, ℕ}
use Rattle.lists.specs.Lists.{Every, OneOf}
use Rattle.atoms.specs.Sets.{Member, Subset, empty}
use Rattle.rules.specs.LevelByLevel.{by_level, level_by_level, of_level}
use Rattle.rules.specs.Model.{applies, closure, model, pass_by}
use Rattle.rules.specs.Policy.{Policy}
use Rattle.rules.specs.Rules.{Headed, Rule, Stratified}
use Rattle.rules.specs.Stable.{Closed, Least, OneStable, Stable, reduct}
use Rattle.rules.specs.Unlocking.{Unlocks, grants, unlocks}
use Rattle.rules.specs.Weights.{weight_among}

-- the body of r holds in M: all of its positive part, and none of its negated part
pub record BodyHolds (M : ℕ) (r : Rule) : Type 0 where
  pub positive : Subset r.positive M
  pub negated : (k : ℕ) → Member k r.negated → Member k M → ⊥

-- X has C, and the head of each rule of whose positive part X has all and of whose negated part M has nothing
pub record ClosedBeside (rs : List Rule) (C M X : ℕ) : Type 0 where
  pub holds : Subset C X
  pub heads : (r : Rule) → OneOf r rs → Subset r.positive X → ((k : ℕ) → Member k r.negated → Member k M → ⊥) → Member r.head X

-- Access rules ps and qs give the same beside every C, which the field calls uniformly equivalent: the same sets are stable, the same is unlocked,
-- and the model is the same where ps keep levels.
pub record Equivalent (ps qs : List Rule) : Type 0 where
  pub stable_sets : (C M : ℕ) → Stable ps C M ↔ Stable qs C M
  pub unlocked : (ds ws : List Rule) (s C : ℕ)
      → Unlocks (record { access = ps; disclosure = ds; weights = ws }) s C ↔ Unlocks (record { access = qs; disclosure = ds; weights = ws }) s C
  pub models : (lev : ℕ → ℕ) → Every (Stratified lev) ps → (C : ℕ) → model ps C ≡ model qs C

pub record Theorems : Type 1 where
  -- "strike each rule that negates an atom of M, then drop the negated parts of the others": what remains is this and nothing else
  pub reducts : (M : ℕ) (rs : List Rule) (P : Rule → Type 0)
      → Every P (reduct M rs)
      ↔ Every (λ r. ((k : ℕ) → Member k r.negated → Member k M → ⊥) → P (record { head = r.head; positive = r.positive; negated = empty })) rs
  -- "holds C and is closed under": it has the head of each rule whose positive part it has
  pub closed_means : (rs : List Rule) (C S : ℕ)
      → Closed rs C S ↔ (Subset C S × ((r : Rule) → OneOf r rs → Subset r.positive S → Member r.head S))
  -- "M is stable if it equals the least set that holds C and is closed under what remains", from the rules alone
  pub stable_means : (rs : List Rule) (C M : ℕ) → Stable rs C M ↔ (ClosedBeside rs C M M × ((X : ℕ) → ClosedBeside rs C M X → Subset M X))
  -- a stable set has the head of each rule whose body holds in it
  pub applied : (rs : List Rule) (C M : ℕ) → Stable rs C M → Every (λ r. BodyHolds M r → Member r.head M) rs
  -- "An atom may stand on both sides of a body; that rule never applies."
  pub two_sided : (r : Rule) (k : ℕ) → Member k r.positive → Member k r.negated → (M : ℕ) → BodyHolds M r → ⊥
  -- so that with it and without it the same is stable, unlocked and, where levels are kept, in the model
  pub never_applies : (qs rs : List Rule) (r : Rule) (k : ℕ) → Member k r.positive → Member k r.negated
      → Equivalent (qs ++ (r ∷ rs)) (qs ++ rs)
  -- "An empty body always applies."
  pub empty_body : (r : Rule) → r.positive ≡ empty → r.negated ≡ empty → (M : ℕ) → BodyHolds M r
  -- "the least set that holds P and is closed under" rules without negation
  pub closures : (rs : List Rule) → Every Headed rs → (C : ℕ) → Least (Closed rs C) (closure rs C)
  -- "just one stable set exists; that is the model", where the rules keep levels, whatever these are
  pub models : (lev : ℕ → ℕ) (rs : List Rule) → Every (Stratified lev) rs → (C : ℕ) → OneStable rs C (model rs C)
  -- "r is in the model and 63 is not", of any set
  pub grants_means : (r M : ℕ) → (grants r M ≡ true) ↔ (Member r M × (Member 63 M → ⊥))
  -- "C unlocks service r if r is in the model and 63 is not."
  pub unlocking : (lev : ℕ → ℕ) (pol : Policy) → Every (Stratified lev) pol.access → (r C : ℕ) → (unlocks pol r C ≡ true) ↔ Unlocks pol r C
  -- "The same record may come twice.": the order of rules and their repetition do not change what is stable
  pub orders : (rs qs : List Rule) → ((r : Rule) → OneOf r rs ↔ OneOf r qs) → (C M : ℕ) → Stable rs C M → Stable qs C M
  -- the rules of level l are those of the list on that level, and no others
  pub of_level_lem : (lev : ℕ → ℕ) (l : ℕ) (rs : List Rule) (r : Rule) → OneOf r (of_level lev l rs) ↔ (OneOf r rs × (lev r.head ≡ l))
  -- one level after another gives the model, where all heads are on the levels below n
  pub levels : (lev : ℕ → ℕ) (rs : List Rule) → Every (Stratified lev) rs → (C n : ℕ) → Every (λ r. lev r.head < n) rs
      → level_by_level (by_level lev 0 n rs) C ≡ model rs C
  -- a pass only adds; a pass does not change what is reached; and with the first pass that adds nothing it is reached
  pub inflationary : (rs : List Rule) (S : ℕ) → Subset S (pass_by applies rs S)
  pub passes : (rs : List Rule) (S : ℕ) → closure rs (pass_by applies rs S) ≡ closure rs S
  pub idle : (rs : List Rule) (S : ℕ) → pass_by applies rs S ≡ S → closure rs S ≡ S
  -- an idle pass means closed
  pub idle_closed : (rs : List Rule) → Every Headed rs → (S : ℕ) → pass_by applies rs S ≡ S → Closed rs S S
  -- "unnamed ones weigh 1"
  pub unnamed_weight : (ws : List Rule) (k : ℕ) → Every (λ r. r.head ≡ k → ⊥) ws → weight_among ws k ≡ 1
  -- "gives a credential (head) a weight 0 to 15 in its positive set's number": the first that names it does
  pub named_weight : (ps qs : List Rule) (r : Rule) → Every (λ p. p.head ≡ r.head → ⊥) ps → weight_among (ps ++ (r ∷ qs)) r.head ≡ r.positive
