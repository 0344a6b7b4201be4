-- Document 01, "The model" and "Disclosure", and document 02, R-2: what model, disclosure and rounds read of a policy. Assumes nothing.
use Rattle.std.specs.Prelude.{List}
use Rattle.rules.specs.Rules.{Rule}

-- "access rules" and "disclosure rules"; and the records that give "a credential (head) a weight 0 to 15 in its positive set's number"
pub record Policy : Type 0 where
  pub access : List Rule
  pub disclosure : List Rule
  pub weights : List Rule
