-- `disclosure::disclosable` meets its contract: by the two answers of the policy's test. Assumes nothing.
use mathlib.Core.Path.{◌≡◌, refl, sym}
use Rattle.encoding.proofs.ByteLaws.{slice_bytes}
use Rattle.validation.specs.Unless.{given, withheld}
use Rattle.validation.proofs.UnlessLaws.{unless_given, unless_withheld}
use Rattle.policy.specs.Types.{refusal_of}
use Rattle.disclosure.specs.Answers.{disclosable_answer}
use Rattle.disclosure.proofs.AcceptedLaws.{gives_disclosable}
use Rattle.disclosure.proofs.disclosable.Goals as goal

pub returns-in_default : goal.returns-in_default
unfolding disclosable_answer
returns-in_default c =
    let bytes = c.args.policy.now in
    let answer : given c.disclosable_of.result ≡ disclosable_answer bytes c.args.shown
    = unless_given _ _ _ (sym c.in_default.ensures.answer) c.disclosable_of.ensures in
    record { answer = answer; meaning = rw answer (gives_disclosable bytes (slice_bytes bytes c.type_inv.policy) c.args.shown); unchanged = refl }

pub returns : goal.returns
unfolding disclosable_answer
returns c =
    let bytes = c.args.policy.now in
    let answer : withheld (refusal_of c.in-Err.refusal) ≡ disclosable_answer bytes c.args.shown
    = unless_withheld _ _ _ (sym c.in-Err.ensures.answer) in
    record { answer = answer; meaning = rw answer (gives_disclosable bytes (slice_bytes bytes c.type_inv.policy) c.args.shown); unchanged = refl }
