-- `fixpoint::pass` meets its contract: its loop's invariant, and what is left after the last rule. Assumes nothing.
use mathlib.Core.Path.{◌≡◌}
use mathlib.Core.Bool.{◌&&◌, cond}
use lib.ListN.{get_or}
use native.Mathlib.Omega.{arith}
use Rattle.atoms.specs.Sets.{disjoint, subset, union}
use Rattle.arrays.proofs.ArrayLaws.{pass_done_at, pass_next_at}
use Rattle.fixpoint.proofs.pass.Goals as goal
use Rattle.fixpoint.proofs.pass.Goals.{then-body_holds, else-body_holds}

pub loop-k-preserved : goal.loop-k-preserved
loop-k-preserved c =
    let rules = c.args.rules.now in
    let l = c.loop-k in
    let S = l.reached.bits in
    let B = c.args.below.bits in
    let next : c.if-body_holds.reached.bits ≡ cond (disjoint (get_or rules.negated l.k 0) B && subset (get_or rules.positive l.k 0) S) (union S (get_or rules.heads l.k 0)) S =
    elim c.if-body_holds.branch [ then-body_holds w ↦ simp (← c.body_holds.ensures, w.if-body_holds.true) (cc) | else-body_holds w ↦ simp (← c.body_holds.ensures, w.if-body_holds.false) (cc) ] in
    pass_next_at rules.heads rules.positive rules.negated l.k c.args.to (omega arith) (c.requires.singles l.k (omega arith)) B S _ _ next l.invariant

pub returns : goal.returns
returns c =
    let rules = c.args.rules.now in
    let l = c.loop-k in
    pass_done_at rules.heads rules.positive rules.negated l.k c.args.to (omega arith) c.args.below.bits l.reached.bits _ l.invariant
