-- What the model answers of any bytes. Assumes nothing.
use mathlib.Core.Path.{◌≡◌}
use mathlib.Core.List.{List}
use Prim.Native.Nat.{ℕ}
use Rattle.encoding.specs.LittleEndian.{Bytes}
use Rattle.lists.specs.Lists.{OneOf}
use Rattle.atoms.specs.Sets.{Member, empty}
use Rattle.rules.specs.Model.{model}
use Rattle.rules.specs.Rules.{Rule}
use Rattle.rules.specs.Stable.{Stable}
use Rattle.rules.proofs.LayoutLaws.{every_one_of}
use Rattle.rules.proofs.BodyLaws.{empty_body, stable_applied}
use Rattle.records.specs.Policies.{policy_of}
use Rattle.form.specs.WrittenForm.{WellFormed}
use Rattle.form.proofs.AnswerLaws.{gives}
use Rattle.form.proofs.PolicyLaws.{one_model}
use Rattle.model.specs.Answers.{model_answer}
use Rattle.model.specs.Theorems.{GivesModel}

pub applies_always : (bytes : List ℕ) → Bytes bytes → WellFormed bytes → (C : ℕ) (r : Rule) → OneOf r (policy_of bytes).access → r.positive ≡ empty
    → r.negated ≡ empty → Member r.head (model (policy_of bytes).access C)
applies_always bytes b w C r i p n =
    let access = (policy_of bytes).access in
    every_one_of _ access (stable_applied access C (model access C) (one_model bytes b w C).stable) r i (empty_body r p n (model access C))

pub gives_model : (bytes : List ℕ) → Bytes bytes → (C : ℕ) → GivesModel bytes C (model_answer bytes C)
unfolding model_answer
gives_model bytes b C =
    let access = (policy_of bytes).access in
    gives bytes b (Stable access C) (model access C) (λ w. (one_model bytes b w C).stable) (λ w. (one_model bytes b w C).only)
