-- `fixpoint::close` meets its contract, by the law of all loops that end with their first idle pass. Assumes nothing.
use mathlib.Core.Path.{◌∙◌, sym}
use mathlib.Core.List.{List}
use Prim.Native.Nat.{◌-◌, ◌≤◌, ℕ}
use borrow.Author.Tests.{eqb-false, eqb-true}
use native.Mathlib.Omega.{arith}
use Rattle.rules.specs.LevelByLevel.{pass_over}
use Rattle.rules.specs.Rules.{Rule}
use Rattle.iteration.specs.IdlePasses.{heads_of}
use Rattle.iteration.proofs.LoopLaws.{running_few, running_first, running_last, running_next}
use Rattle.iteration.proofs.RuleLaws.{closed_settle, heads_atoms, over_adding, rules_passes}
use Rattle.arrays.specs.Arrays.{rules_in}
use Rattle.fixpoint.proofs.close.Invariants.{Closing}
use Rattle.fixpoint.proofs.close.Goals as goal

few : (rs : List Rule) (S R n : ℕ) → Closing rs S R n → n ≤ 64
few rs S R n = running_few 1 _ _ (heads_of rs) (heads_atoms rs) (λ _ _. over_adding S rs) (λ _. R) n

pub loop-set-init : goal.loop-set-init
loop-set-init c = running_first _ _ _

pub overflow_add-passes : goal.overflow_add-passes
overflow_add-passes c = omega (arith, few _ _ _ _ c.loop-set.invariant)

pub returns-then-eq : goal.returns-then-eq
returns-then-eq c = let a = c.args in
    let l = c.loop-set in
    let p = c.pass-next in
    let rs = rules_in a.rules.now.heads a.rules.now.positive a.rules.now.negated a.from (a.to - a.from) in
    let closed =
    running_last 1 (λ _. pass_over a.set.bits rs) (λ _. a.set.bits) (heads_of rs) (heads_atoms rs) (λ _ _. over_adding a.set.bits rs)
    (λ _. l.reached.bits) (λ _. p.result.bits) l.passes l.invariant (λ _ _. p.ensures) (λ _ _. eqb-true _ _ (sym c.eq.ensures ∙ c.if-eq.true)) in
    record {
      set = closed_settle 1 rs (λ _. a.set.bits) (heads_of rs) (λ _. p.result.bits) _ closed 0 (omega arith);
      passes = rules_passes rs a.set.bits p.result.bits _ closed;
      count = closed;
    }

pub loop-set-preserved : goal.loop-set-preserved
loop-set-preserved c = let p = c.pass-next in
    running_next 1 _ _ _ _ _ c.loop-set.invariant (λ _ _. p.ensures) (λ same. eqb-false _ _ (sym c.eq.ensures ∙ c.if-eq.false) (same 0 (omega arith)))

pub loop-set-smaller : goal.loop-set-smaller
loop-set-smaller c = omega (arith, few _ _ _ _ (loop-set-preserved c))
