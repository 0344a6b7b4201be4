-- Document 01, "Disclosure". Proofs above use only its laws (specs/Theorems); the marked cases compute it. Assumes nothing.
use Rattle.std.specs.Prelude.{List, map, ℕ}
use Rattle.lists.specs.Lists.{OneOf}
use Rattle.atoms.specs.Sets.{Member, set_of}
use Rattle.rules.specs.Model.{closure}
use Rattle.rules.specs.Policy.{Policy}
use Rattle.rules.specs.Stable.{Closed}

-- "The disclosable set of shown credentials P is the least set that holds P and is closed under the disclosure rules.": k is in every such set
abbrev pub Disclosable : Policy → ℕ → ℕ → Type 0
Disclosable pol P k = (D : ℕ) → Closed pol.disclosure P D → Member k D

-- the set of them, computed
unfoldable pub disclosable : Policy → ℕ → ℕ
disclosable pol P = closure pol.disclosure P

-- the heads of the disclosure rules, in order
abbrev pub heads : Policy → List ℕ
heads pol = map (λ r. r.head) pol.disclosure

-- "A credential is askable if it heads some disclosure rule."
abbrev pub Askable : Policy → ℕ → Type 0
Askable pol k = OneOf k (heads pol)

-- the set of them, computed
unfoldable pub askable : Policy → ℕ
askable pol = set_of (heads pol)
