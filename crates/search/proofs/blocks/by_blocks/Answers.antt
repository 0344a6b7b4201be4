use mathlib.Core.Path.{◌∙◌}
use Prim.Native.Nat.{◌-◌}
use native.Mathlib.Omega.{arith}
use lib.Pow.{pow_mono}
use Rattle.ranking.proofs.RankLaws.{grid_written}
use Rattle.search.proofs.AnswerLaws.{block_found, block_nothing}
use Rattle.search.proofs.blocks.by_blocks.Goals as goal

pub write_keys-requires : goal.write_keys-requires
write_keys-requires c =
    let n = c.args.search.now.searchable.switches.0 in
    let m = pow_mono {i = c.min-inner.result} {j = 8} (omega arith) in
    record { few = omega arith; within = omega arith; room = omega arith }

pub write_keys-requires-2 : goal.write_keys-requires-2
write_keys-requires-2 c =
    let n = c.args.search.now.searchable.switches.0 in
    let m = pow_mono {i = c.args.search.now.count - c.min-inner.result} {j = 8} (omega arith) in
    record { few = omega arith; within = omega arith; room = omega arith }

pub invariant_of-tables : goal.invariant_of-tables
invariant_of-tables c =
    let g = grid_written _ _ _ _ _ _ _ c.args.search.now.searchable.switches.0 c.min-inner.ensures c.candidates-lanes.ensures.power c.candidates-blocks.ensures.power c.write_keys.ensures c.write_keys-2.ensures in
    record { lanes_most = g.tables.lanes_most; blocks_most = g.tables.blocks_most }

pub invariant_of-tables-2 : goal.invariant_of-tables-2
invariant_of-tables-2 c =
    let g = grid_written _ _ _ _ _ _ _ c.args.search.now.searchable.switches.0 c.min-inner.ensures c.candidates-lanes.ensures.power c.candidates-blocks.ensures.power c.write_keys.ensures c.write_keys-2.ensures in
    record { tables = g.tables; some = c.candidates-blocks.ensures.some }

pub returns-then-best-ge-NEVER_KEY : goal.returns-then-best-ge-NEVER_KEY
returns-then-best-ge-NEVER_KEY c =
    let g = grid_written _ _ _ _ _ _ _ c.args.search.now.searchable.switches.0 c.min-inner.ensures c.candidates-lanes.ensures.power c.candidates-blocks.ensures.power c.write_keys.ensures c.write_keys-2.ensures in
    c.nothing.ensures
    ∙ block_nothing _ _ _ _ _ _ c.args.search.now.searchable.switches.0 g _ _ _ _ c.bar-end.ensures c.best_of-best.ensures _
    c.if-best-ge-NEVER_KEY.true (omega (arith, c.candidates.ensures.power))

pub returns : goal.returns
returns c =
    let g = grid_written _ _ _ _ _ _ _ c.args.search.now.searchable.switches.0 c.min-inner.ensures c.candidates-lanes.ensures.power c.candidates-blocks.ensures.power c.write_keys.ensures c.write_keys-2.ensures in
    c.found.ensures
    ∙ block_found _ _ _ _ _ _ c.args.search.now.searchable.switches.0 g _ _ _ _ c.bar-end.ensures c.best_of-best.ensures _ (omega arith)
    c.place-before.ensures
