use mathlib.Core.Path.{sym}
use lib.ListN.{get_or}
use Rattle.std.proofs.lemmas.List.{get_or-take, length-take}
use Rattle.ranking.proofs.PlaceLaws.{below_is, below_most, more_below, none_below}
use native.Mathlib.Omega.{arith}
use Rattle.ranking.proofs.place.keys_below.Goals as goal

pub loop-key-init : goal.loop-key-init
loop-key-init c = (sym (none_below _ _), omega arith)

pub loop-key-preserved : goal.loop-key-preserved
loop-key-preserved c =
    let a = c.args in
    let v = c.loop-key in
    let e = get_or-take a.count a.keys.now v.key-index 0 (omega (arith, length-take a.count a.keys.now)) in
    let b = below_is (get_or a.keys.now v.key-index 0) a.bar c.from-n.result cc in (
      omega (arith, v.invariant.0, b, more_below a.keys.now v.key-index a.bar),
      omega (arith, b, below_most (get_or a.keys.now v.key-index 0) a.bar),
    )
