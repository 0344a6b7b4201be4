use mathlib.Core.Path.{◌∙◌, ap, sym}
use Prim.Native.Nat.{ℕ}
use lib.ListN.{get_or}
use Rattle.atoms.specs.Sets.{union}
use Rattle.arrays.specs.Arrays.{rule_at}
use Rattle.relevance.proofs.FollowLaws.{followed_in, followed_out}
use Rattle.relevance.proofs.HeadLaws.{head_in, head_out}
use Rattle.relevance.proofs.reach.follow.Goals as goal

pub returns-then-is_disjoint : goal.returns-then-is_disjoint
returns-then-is_disjoint c =
    let a = c.args in
    let r = a.rules.now in
    followed_out (rule_at r.heads r.positive r.negated a.k) a.set.bits
    (head_out a.set.bits (get_or r.heads a.k 0) c.requires.1 (sym c.is_disjoint.ensures ∙ c.if-is_disjoint.true))

pub returns : goal.returns
returns c =
    let a = c.args in
    let r = a.rules.now in
    followed_in (rule_at r.heads r.positive r.negated a.k) a.set.bits c.union-2.result.bits
    (head_in a.set.bits (get_or r.heads a.k 0) c.requires.1 (sym c.is_disjoint.ensures ∙ c.if-is_disjoint.false))
    (c.union-2.ensures ∙ ap (λ (x : ℕ). union x (get_or r.negated a.k 0)) c.union.ensures)
