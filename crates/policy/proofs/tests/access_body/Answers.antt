-- `policy::tests::access_body` meets its contract: by the two tests of membership. Assumes nothing.
use Rattle.policy.proofs.tests.access_body.Goals as goal

pub returns-then-not-contains : goal.returns-then-not-contains
returns-then-not-contains c = simp (← c.contains.ensures, ← c.contains-then-not-contains.ensures, c.if-not-contains.true)

pub returns-else-not-contains : goal.returns-else-not-contains
returns-else-not-contains c = simp (← c.contains.ensures, c.if-not-contains.false)
