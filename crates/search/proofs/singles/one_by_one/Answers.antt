use mathlib.Core.Path.{◌∙◌}
use lib.Pow.{pow_mono}
use Rattle.std.proofs.lemmas.List.{get_or-replicate}
use Rattle.ranking.specs.Keys.{never}
use Rattle.search.proofs.AnswerLaws.{single_found, single_nothing}
use native.Mathlib.Omega.{arith}
use Rattle.search.proofs.singles.one_by_one.Goals as goal

pub write_keys-requires : goal.write_keys-requires
write_keys-requires c =
    let m = pow_mono {i = c.args.search.now.count} {j = 3} c.requires.few in
    record { few = omega arith; within = omega arith; room = omega arith }

pub returns-then-best-ge-NEVER : goal.returns-then-best-ge-NEVER
returns-then-best-ge-NEVER c =
    let w = c.write_keys.ensures in
    c.nothing.ensures
    ∙ single_nothing _ _ _ c.requires.few w.keys _ _ _ _ c.candidates-lanes.ensures.power (λ i k l. w.beyond i k ∙ get_or-replicate 8 i never 0 l)
    c.requires.locked c.best_lane-best.ensures c.if-best-ge-NEVER.true

pub keys_below-place-requires : goal.keys_below-place-requires
keys_below-place-requires c =
    let m = pow_mono {i = c.args.search.now.count} {j = 3} c.requires.few in
    let l = c.write_keys.ensures.long in
    let n = c.candidates-lanes.ensures.power in
    (omega arith, omega arith)

pub returns : goal.returns
returns c =
    let w = c.write_keys.ensures in
    c.found.ensures
    ∙ single_found _ _ _ c.requires.few w.keys _ _ _ _ c.candidates-lanes.ensures.power (λ i k l. w.beyond i k ∙ get_or-replicate 8 i never 0 l)
    c.requires.locked c.best_lane-best.ensures _ (omega arith) c.keys_below-place.ensures.0
