-- Why there may be no levels: a loop through a negation. Nothing here computes. Assumes nothing.
use Rattle.std.specs.Prelude.{◌≡◌, List, suc, zero, ℕ}
use Rattle.lists.specs.Lists.{OneOf}
use Rattle.atoms.specs.Sets.{Member}
use Rattle.rules.specs.Rules.{InBody, Rule}

-- a rule of head a has atom c in its body, on either side
pub record Uses (rs : List Rule) (a c : ℕ) : Type 0 where
  pub rule : Rule
  pub listed : OneOf rule rs
  pub head : rule.head ≡ a
  pub body : InBody c rule

-- atom a depends on atom b in n steps, each from a rule's head to an atom of its body
unfoldable pub DependsIn : List Rule → ℕ → ℕ → ℕ → Type 0
DependsIn rs zero a b = a ≡ b
DependsIn rs (suc n) a b = (c : ℕ) × (Uses rs a c × DependsIn rs n c b)

-- a rule negates an atom that depends on the rule's own head, or is that head, as in the rule "17 if not 17"
pub record NegatedLoop (rs : List Rule) : Type 0 where
  pub rule : Rule
  pub listed : OneOf rule rs
  pub atom : ℕ
  pub negated : Member atom rule.negated
  pub steps : ℕ
  pub back : DependsIn rs steps atom rule.head
