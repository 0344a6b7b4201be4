-- `levels::find_levels` meets its contract: what the rows and their layers say, the rules say. Assumes nothing.
use Rattle.encoding.proofs.ByteLaws.{slice_bytes}
use Rattle.records.proofs.ReadLaws.{record_sized}
use Rattle.levels.proofs.FindLaws.{headless, levels, none}
use Rattle.levels.proofs.find_levels.Goals as goal

pub layered-layers-requires : goal.layered-layers-requires
layered-layers-requires c =
    headless c.args.policy.now c.rows_of-rows.result.bodies c.rows_of-rows.result.negated c.rows_of-rows.result.heads.bits
    c.rows_of-rows.ensures

pub returns-then-found : goal.returns-then-found
returns-then-found c =
    let bytes = c.args.policy.now in
    levels bytes c.rows_of-rows.result.bodies c.rows_of-rows.result.negated c.rows_of-rows.result.heads.bits c.rows_of-rows.ensures
    (λ j a. (record_sized bytes (slice_bytes bytes c.type_inv.policy) j).negated) c.layered-layers.result.of c.layered-layers.result.at
    c.layered-layers.ensures c.test-found.result c.test-found.ensures c.if-found.true

pub returns-else-found : goal.returns-else-found
returns-else-found c =
    let bytes = c.args.policy.now in
    none bytes c.rows_of-rows.result.bodies c.rows_of-rows.result.negated c.rows_of-rows.result.heads.bits c.rows_of-rows.ensures
    (λ j a. (record_sized bytes (slice_bytes bytes c.type_inv.policy) j).negated) c.layered-layers.result.of c.layered-layers.result.at
    c.layered-layers.ensures c.test-found.result c.test-found.ensures c.if-found.false
