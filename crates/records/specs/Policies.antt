-- What a policy's bytes say to a round. Assumes nothing.
use Rattle.std.specs.Prelude.{cond, List, [], ◌∷◌, ℕ, eqb}
use Rattle.rules.specs.Policy.{Policy}
use Rattle.records.specs.Records.{Record, access_kind, disclosure_kind, rules_of, weight_kind}

-- its access rules, its disclosure rules and its weights
abbrev pub policy_of : List ℕ → Policy
policy_of bytes = record {
  access = rules_of access_kind bytes;
  disclosure = rules_of disclosure_kind bytes;
  weights = rules_of weight_kind bytes;
}

-- the records that are no weights, in order
unfoldable pub unweighted : List Record → List Record
unweighted [] = []
unweighted (d ∷ ds) = cond (eqb d.kind weight_kind) (unweighted ds) (d ∷ unweighted ds)
