use mathlib.Core.Path.{◌∙◌, sym}
use native.Mathlib.Omega.{arith}
use Rattle.relevance.proofs.HeadLaws.{head_in, head_out}
use Rattle.relevance.proofs.PlaceLaws.{room_in, room_out}
use Rattle.relevance.proofs.compaction.after.Goals as goal

pub returns-then-is_disjoint : goal.returns-then-is_disjoint
returns-then-is_disjoint c =
    let R = c.args.set.bits in
    let head = c.args.head.bits in
    omega (arith, room_out R head (head_out R head c.requires.1 (sym c.is_disjoint.ensures ∙ c.if-is_disjoint.true)))

pub returns-else-is_disjoint : goal.returns-else-is_disjoint
returns-else-is_disjoint c =
    let R = c.args.set.bits in
    let head = c.args.head.bits in
    omega (arith, room_in R head (head_in R head c.requires.1 (sym c.is_disjoint.ensures ∙ c.if-is_disjoint.false)))
