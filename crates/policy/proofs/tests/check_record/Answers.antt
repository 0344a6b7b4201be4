-- `policy::tests::check_record` meets its contract: each kind takes its own tests. Assumes nothing.
use mathlib.Core.Path.{◌∙◌, ap, sym}
use Rattle.records.specs.Types.{kind_of, record_of}
use Rattle.policy.proofs.KindLaws.{access_refusal, disclosure_refusal, other_refusal, weight_refusal}
use Rattle.policy.proofs.tests.check_record.Goals as goal

pub returns-in_default : goal.returns-in_default
returns-in_default c before h =
    let none = c.in_default.ensures.1 in
    sym (other_refusal before (record_of c.args.parsed) c.args.k none.0 none.1.0 none.1.1)

pub returns-in-Access : goal.returns-in-Access
returns-in-Access c before h =
    let kind = sym c.in-Ok.ensures ∙ ap kind_of c.in-Access.is in
    simp (
      access_refusal before (record_of c.args.parsed) c.args.k kind,
      ← c.access_head.ensures,
      ← c.access_body.ensures,
    ) c.first_failed.ensures

pub returns-in-Disclosure : goal.returns-in-Disclosure
returns-in-Disclosure c before h =
    let kind = sym c.in-Ok.ensures ∙ ap kind_of c.in-Disclosure.is in
    simp (
      disclosure_refusal before (record_of c.args.parsed) c.args.k kind,
      ← c.credential_head.ensures,
      ← c.disclosure_body.ensures,
    ) c.first_failed-in-Disclosure.ensures

pub returns-in-Weight : goal.returns-in-Weight
returns-in-Weight c before h =
    let kind = sym c.in-Ok.ensures ∙ ap kind_of c.in-Weight.is in
    simp (
      weight_refusal before (record_of c.args.parsed) c.args.k kind,
      ← c.credential_head-in-Weight.ensures,
      ← c.weight_body.ensures,
      ← h c.args.parsed.head,
      ← c.contains.ensures,
    ) c.weight_failed.ensures
