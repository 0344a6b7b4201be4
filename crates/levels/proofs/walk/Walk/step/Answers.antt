-- `levels::walk::Walk::step` meets its contract: by the laws of its three steps. Assumes nothing.
use mathlib.Core.Path.{◌∙◌, subst, sym}
use Prim.Native.Nat.{ℕ}
use lib.ListN.{get_or}
use native.Mathlib.Omega.{arith}
use Rattle.std.proofs.Common.{rules}
use Rattle.atoms.specs.Sets.{Member}
use Rattle.atoms.proofs.SetLaws.{intersection_iff, none_in_empty}
use Rattle.levels.proofs.StepLaws.{entered_step, joined_step, needed_by_all, settled_step, some_left}
use Rattle.levels.proofs.walk.Walk.step.Goals as goal

pub enter-requires : goal.enter-requires
enter-requires c = (omega (arith, c.if-depth-eq0.true), c.requires.1 c.if-depth-eq0.true)

pub returns-then-depth-eq0 : goal.returns-then-depth-eq0
returns-then-depth-eq0 c =
    let v = c.requires.0 in
    let zero = c.if-depth-eq0.true in
    entered_step c.args.rows.now c.args.layers.now.of c.args.layers.now.at c.args.self.now v c.args.self.now.fresh.bits
    _ c.enter.ensures (λ k m. m)
    (λ k m j i. absurd (none_in_empty j (subst (Member j) v.chain.bottom (subst (λ (x : ℕ). Member j (get_or c.args.self.now.under x 0)) zero i))))

pub returns-then-not-is_disjoint : goal.returns-then-not-is_disjoint
returns-then-not-is_disjoint c =
    joined_step c.args.rows.now c.args.layers.now.of c.args.layers.now.at c.args.self.now c.requires.0 c.if-depth-eq0.false
    c.difference-members.result.bits c.needs_of.result.bits c.difference-outside.result.bits c.difference-members.ensures c.needs_of.ensures
    c.difference-outside.ensures (sym c.is_disjoint.ensures ∙ c.if-not-is_disjoint.true)

pub enter-requires-then-ne : goal.enter-requires-then-ne
enter-requires-then-ne c =
    let v = c.requires.0 in
    let more =
    some_left c.args.self.now.fresh.bits c.intersection-open.result.bits v.small
    (λ k j. ((intersection_iff c.difference-outside.result.bits c.args.self.now.fresh.bits k).0 (subst (Member k) c.intersection-open.ensures j)).1)
    (search rules) in
    (omega (arith, v.room, v.some, more), (search rules))

pub returns-then-ne : goal.returns-then-ne
returns-then-ne c =
    let among : (k : ℕ) → Member k c.intersection-open.result.bits → Member k c.difference-outside.result.bits × Member k c.args.self.now.fresh.bits =
    (λ k j. (intersection_iff c.difference-outside.result.bits c.args.self.now.fresh.bits k).0 (subst (Member k) c.intersection-open.ensures j)) in
    entered_step c.args.rows.now c.args.layers.now.of c.args.layers.now.at c.args.self.now c.requires.0
    c.intersection-open.result.bits _ c.enter-then-ne.ensures (λ k j. (among k j).1)
    (λ k j. needed_by_all c.args.rows.now c.args.layers.now.of c.args.layers.now.at c.args.self.now c.requires.0 c.if-depth-eq0.false
    c.difference-members.result.bits c.needs_of.result.bits c.difference-outside.result.bits c.difference-members.ensures c.needs_of.ensures
    c.difference-outside.ensures k (among k j).0)

pub returns : goal.returns
returns c =
    settled_step c.args.rows.now c.args.layers.now.of c.args.layers.now.at c.args.self.now c.requires.0 c.if-depth-eq0.false
    c.difference-members.result.bits c.needs_of.result.bits c.difference-outside.result.bits c.difference-members.ensures c.needs_of.ensures
    c.difference-outside.ensures (sym c.is_disjoint.ensures ∙ c.if-not-is_disjoint.false)
    (sym c.intersection-open.ensures ∙ search rules) _ _ _ c.settle-self.ensures
