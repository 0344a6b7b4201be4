-- `policy::weights::with_weighed` meets its contract: a weight adds its head, and no other record adds anything. Assumes nothing.
use native.Mathlib.Omega.{arith}
use Rattle.records.specs.Types.{record_of}
use Rattle.policy.proofs.WeighedLaws.{weighed_more}
use Rattle.policy.proofs.weights.with_weighed.Goals as goal

pub returns : goal.returns
returns c ds h =
    let a = c.args in
    rw (c.union.ensures, c.one.ensures)
    (weighed_more ds (record_of a.parsed) a.weighed.bits h (omega arith) c.requires)
