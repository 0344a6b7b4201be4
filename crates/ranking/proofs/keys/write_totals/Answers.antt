use mathlib.Core.Path.{◌≡◌}
use Prim.Native.Nat.{◌%◌, ◌*◌, ◌+◌, ◌^◌, ◌≤◌, suc}
use lib.ListN.{length-set}
use lib.Pow.{pow_mono, pow_pos}
use lib.Seq.{get_or-set_same}
use native.Mathlib.Nat.{pow-suc}
use native.Mathlib.Numerals.{add-one}
use Rattle.ranking.proofs.KeyLaws.{totals_more, totals_none}
use native.Mathlib.Omega.{arith}
use Rattle.ranking.proofs.keys.write_totals.Goals as goal

pub loop-j-init : goal.loop-j-init
loop-j-init c = totals_none _ _ _ (get_or-set_same c.args.totals.now 0 0 0 (omega (arith, pow_pos c.args.members)))

pub extend-requires : goal.extend-requires
extend-requires c =
    let v = c.loop-j in
    let m = pow_mono {i = v.j} {j = 7} (omega arith) in
    let d = pow_mono {i = suc v.j} {j = c.args.members} (omega arith) in
    record {
      few = omega arith;
      room = omega (arith, v.invariant.long, length-set c.args.totals.now 0 0, pow-suc 2 v.j);
      fits = λ i k. omega (arith, v.invariant.small i (omega arith), c.from-weight.ensures, c.fits-weights (c.args.from + v.j));
    }

pub loop-j-preserved : goal.loop-j-preserved
loop-j-preserved c =
    let v = c.loop-j in
    let m = pow_mono {i = v.j} {j = 7} (omega arith) in
    let e : 1 * 2 ^ v.j % 18446744073709551616 ≡ 2 ^ v.j = omega arith in
    let w : c.from-weight.result ≤ 255 = omega (arith, c.from-weight.ensures, c.fits-weights (c.args.from + v.j)) in
    rw add-one (totals_more _ _ _ _ _ _ _ v.invariant c.from-weight.ensures w (rw e at c.extend.ensures))
