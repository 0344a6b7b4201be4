-- `levels::layers::layered` meets its contract: the walk's state is kept, and there is less to do after each step. Assumes nothing.
use Prim.Native.Nat.{◌<◌, ◌^◌}
use native.Mathlib.Omega.{arith}
use Rattle.levels.proofs.LayerLaws.{fresh_left, layered_done, walking_first}
use Rattle.levels.proofs.layers.layered.Goals as goal

pub loop-walk-init : goal.loop-walk-init
loop-walk-init c =
    let small : c.args.heads.bits < 2 ^ 64 =
    omega arith in
    walking_first _ _ c.requires small _ c.difference.ensures

pub step-requires : goal.step-requires
step-requires c =
    let v = c.loop-walk.invariant in
    (v, fresh_left _ _ _ _ v c.loop-walk-test.true)

pub returns : goal.returns
returns c = layered_done _ _ _ _ c.loop-walk.invariant c.loop-walk-test.false
