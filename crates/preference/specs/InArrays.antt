-- What unlocks the request, by rules in arrays, and what a search for it starts from. Assumes nothing.
use Rattle.std.specs.Prelude.{◌≡◌, Bool, false, true, List, ◌≤◌, ℕ}
use Rattle.std.proofs.Math.Option.{Option}
use Rattle.atoms.specs.Atoms.{violation}
use Rattle.atoms.specs.Sets.{disjoint, union}
use Rattle.rules.specs.Unlocking.{grants}
use Rattle.arrays.specs.Arrays.{Placed, evaluated}
use Rattle.preference.specs.Candidates.{Members, switched}
use Rattle.preference.specs.Preference.{preferred}
use Rattle.preference.specs.Question.{Question, candidates, keys_by, no_question}
use Rattle.preference.specs.Weights.{weight_at}

module _ (levels : ℕ) (heads positive negated starts : List ℕ) (r P : ℕ) where
  -- "that with P unlock the request"
  abbrev pub opens_in : Question → Bool
  opens_in q = grants r (evaluated levels heads positive negated starts (union P q.asks))

  -- candidate n does, with members of it switched in P
  unfoldable pub opens_at : List ℕ → ℕ → ℕ → Bool
  opens_at members count n = grants r (evaluated levels heads positive negated starts (switched P members count n))

-- the question that is preferred among those within a set, if there is one, where credential k weighs what ws has at place k
abbrev pub preferred_in : ℕ → List ℕ → List ℕ → List ℕ → List ℕ → ℕ → ℕ → ℕ → List ℕ → Option Question
preferred_in levels heads positive negated starts r P within ws =
    preferred (keys_by (weight_at ws)) (opens_in levels heads positive negated starts r P) (candidates within)

-- what a search starts from: rules in arrays, a request that is an atom, and members to switch
pub record Searchable (levels : ℕ) (heads starts : List ℕ) (request : ℕ) (members : List ℕ) (count : ℕ) : Type 0 where
  pub placed : Placed levels heads starts
  pub atom : request ≤ violation
  pub switches : Members members count

-- what a question starts from: a request that is an atom, nothing of what may be asked is shown, and what is shown does not unlock the request alone
pub record LockedRequest (levels : ℕ) (heads positive negated starts : List ℕ) (request shown within : ℕ) : Type 0 where
  pub atom : request ≤ violation
  pub apart : disjoint shown within ≡ true
  pub alone : opens_in levels heads positive negated starts request shown no_question ≡ false
