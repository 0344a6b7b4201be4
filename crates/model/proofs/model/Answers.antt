-- `model::model` meets its contract: by the two answers of the policy's test. Assumes nothing.
use mathlib.Core.Path.{◌∙◌, ◌≡◌, ap, refl, sym}
use Rattle.encoding.proofs.ByteLaws.{slice_bytes}
use Rattle.validation.specs.Unless.{given, withheld}
use Rattle.validation.proofs.UnlessLaws.{unless_given, unless_withheld}
use Rattle.policy.specs.Types.{checked_of, refusal_of}
use Rattle.model.specs.Answers.{model_answer}
use Rattle.model.proofs.AnswerLaws.{gives_model}
use Rattle.model.proofs.model.Goals as goal

pub returns : goal.returns
unfolding model_answer
returns c =
    let bytes = c.args.policy.now in
    let answer : given c.model_of.result.bits ≡ model_answer bytes c.args.credentials = unless_given _ _ _ (sym c.in-Ok.ensures.answer) c.model_of.ensures in
    record { answer = answer; meaning = rw answer (gives_model bytes (slice_bytes bytes c.type_inv.policy) c.args.credentials); unchanged = refl }

pub returns-in_default : goal.returns-in_default
unfolding model_answer
returns-in_default c =
    let bytes = c.args.policy.now in
    let refused = ap checked_of (sym c.unwrap_err.ensures) ∙ c.examine-examined.ensures.answer in
    let answer : withheld (refusal_of c.unwrap_err.result) ≡ model_answer bytes c.args.credentials = unless_withheld _ _ _ (sym refused) in
    record { answer = answer; meaning = rw answer (gives_model bytes (slice_bytes bytes c.type_inv.policy) c.args.credentials); unchanged = refl }
