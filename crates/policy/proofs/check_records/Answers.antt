-- `policy::check_records` meets its contract. Assumes nothing.
use mathlib.Core.Path.{◌∙◌}
use Rattle.std.proofs.Common.{rules, arith}
use Rattle.std.proofs.lemmas.Result.{err_from_is_err_and}
use Rattle.records.specs.Records.{records_from}
use Rattle.records.specs.Types.{record_of}
use Rattle.policy.proofs.LoopLaws.{answered, records_accepted, records_done, records_refused}
use Rattle.policy.proofs.WeighedLaws.{accepted_head, weighed_next, weighed_none}
use Rattle.policy.proofs.check_records.Goals as goal

pub loop-k-init : goal.loop-k-init
loop-k-init c = record { refusal = search rules; weighs = weighed_none c.args.policy.now }

pub returns-in_err-check_record : goal.returns-in_err-check_record
returns-in_err-check_record c =
    let l = c.loop-k in
    let bytes = c.args.policy.now in
    let p = err_from_is_err_and c.from_residual.result c.from_residual.ensures.1 in
    rw (p.1, p.2, l.invariant.refusal)
    (records_refused bytes l.k c.args.records (omega arith) _
    (answered bytes l.k _ _ _ c.in_err-check_record.ensures l.invariant.weighs c.record_at-parsed.ensures))

pub with_weighed-weighed-requires : goal.with_weighed-weighed-requires
with_weighed-weighed-requires c =
    accepted_head (records_from c.args.policy.now 0 c.loop-k.k) (record_of c.record_at-parsed.result) c.loop-k.k (search rules)

pub loop-k-preserved : goal.loop-k-preserved
loop-k-preserved c =
    let answer = answered c.args.policy.now _ _ _ _ c.in_ok-check_record.ensures c.loop-k.invariant.weighs c.record_at-parsed.ensures in
    record {
      refusal = c.loop-k.invariant.refusal ∙ records_accepted _ _ _ (omega arith) (search rules);
      weighs = weighed_next _ _ _ (rw c.record_at-parsed.ensures at (c.with_weighed-weighed.ensures (records_from _ 0 _) c.loop-k.invariant.weighs));
    }

pub returns : goal.returns
returns c = rw c.loop-k.invariant.refusal (records_done _ c.loop-k.k _ (omega arith))
