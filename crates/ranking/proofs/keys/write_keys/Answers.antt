use lib.Pow.{pow_mono}
use Rattle.ranking.proofs.KeyLaws.{keyed_all}
use native.Mathlib.Omega.{arith}
use Rattle.ranking.proofs.keys.write_keys.Goals as goal

pub returns : goal.returns
returns c =
    let m = pow_mono {i = c.args.members} {j = 8} c.requires.few in
    keyed_all _ _ _ _ _ _ _ c.requires.few m c.write_totals.ensures (omega arith) c.loop-i.invariant
