use native.Mathlib.Numerals.{add-one}
use native.Mathlib.Omega.{arith}
use Rattle.std.proofs.lemmas.List.{get_or-take, length-take}
use Rattle.ranking.proofs.NextLaws.{next_more}
use Rattle.ranking.proofs.next.next_key.Goals as goal

pub loop-key-preserved : goal.loop-key-preserved
loop-key-preserved c =
    let a = c.args in
    let i = c.loop-key.key-index in
    let e = get_or-take a.count a.keys.now i 0 (omega (arith, length-take a.count a.keys.now)) in
    rw (add-one, c.min-least.ensures) (next_more _ _ _ _ _ c.loop-key.invariant (rw e at c.at_least.ensures))
