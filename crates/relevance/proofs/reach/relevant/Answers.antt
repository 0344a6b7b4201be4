use mathlib.Core.Path.{◌∙◌, sym}
use native.Mathlib.Omega.{arith}
use borrow.Author.Tests.{eqb-false}
use Rattle.validation.proofs.TestLaws.{eqb_true}
use Rattle.relevance.proofs.FollowLaws.{way_adds, way_end}
use Rattle.relevance.proofs.reach.relevant.Goals as goal

pub returns-then-eq : goal.returns-then-eq
returns-then-eq c = way_end _ _ _ _ c.follow_all-next.ensures c.loop-next.invariant (eqb_true _ _ (sym c.eq.ensures ∙ c.if-eq.true))

pub loop-next-smaller : goal.loop-next-smaller
loop-next-smaller c =
    way_adds _ _ _ _ c.follow_all-next.ensures c.loop-next.invariant (omega arith) (eqb-false _ _ (sym c.eq.ensures ∙ c.if-eq.false))
