-- Document 02, R-2: what a credential weighs. Assumes nothing.
use Rattle.std.specs.Prelude.{◌≡◌, cond, List, [], ◌∷◌, ◌≤◌, ℕ, eqb, get_or}
use Rattle.atoms.specs.Atoms.{last_credential}
use Rattle.rules.specs.Policy.{Policy}
use Rattle.rules.specs.Rules.{Rule}

-- "gives a credential (head) a weight 0 to 15 in its positive set's number; unnamed ones weigh 1": what the first that names credential k gives it
unfoldable pub weight_among : List Rule → ℕ → ℕ
weight_among [] k = 1
weight_among (r ∷ rs) k = cond (eqb r.head k) r.positive (weight_among rs k)

-- an accepted policy names none twice (13), so that there is no other
abbrev pub weight_in : Policy → ℕ → ℕ
weight_in pol k = weight_among pol.weights k

-- ws has the weight of credential k at place k
abbrev pub WeightTable : Policy → List ℕ → Type 0
WeightTable pol ws = (k : ℕ) → k ≤ last_credential → get_or ws k 0 ≡ weight_in pol k
