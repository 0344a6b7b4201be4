use mathlib.Core.Path.{◌≡◌, ap, subst, sym}
use mathlib.Core.Option.{some}
use Rattle.session.specs.Types.{move_of, outcome_of}
use Rattle.session_logs.specs.RoundRecords.{round_record}
use Rattle.session_logs.specs.Theorems.{RecordBytes}
use Rattle.session_logs.proofs.RecordLaws.{record_bytes}
use Rattle.recorder.proofs.of_round.Goals as goal

pub returns-in-Ok-clause-meaning : goal.returns-in-Ok-clause-meaning
unfolding round_record
returns-in-Ok-clause-meaning c =
    let m = move_of c.args.taken in
    let o = outcome_of c.args.outcome in
    let e : some c.of_ending.result ≡ round_record m o = rw c.in-Ok.is (ap some c.of_ending.ensures) in
    subst (RecordBytes m o.answer o.session.count) (sym e) (record_bytes m o)
