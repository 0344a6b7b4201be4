-- `levels::rows::rows_of` meets its contract. The loop's invariant: the rows of the records so far. Assumes nothing.
use mathlib.Core.Path.{◌≡◌, refl, subst}
use Prim.Native.Nat.{◌/◌, ℕ}
use lib.ListN.{length, length-set}
use native.Mathlib.Omega.{arith}
use Rattle.std.proofs.Common.{rules}
use Rattle.records.specs.Types.{record_of}
use Rattle.levels.specs.Rows.{Gathered}
use Rattle.levels.proofs.RowLaws.{access_low, gathered_none, gathered_other, gathered_put}
use Rattle.levels.proofs.rows.rows_of.Goals as goal
use Rattle.levels.proofs.rows.rows_of.Goals.{then-parsed-eq-ACCESS, else-parsed-eq-ACCESS}

pub loop-k-init : goal.loop-k-init
loop-k-init c = (refl, (refl, gathered_none _))

pub loop-k-preserved : goal.loop-k-preserved
loop-k-preserved c =
    let l = c.loop-k in
    let v = l.invariant in
    let r = record_of c.record_at-parsed.result in
    let e = c.record_at-parsed.ensures in
    elim c.if-parsed-eq-ACCESS.branch [
      | then-parsed-eq-ACCESS w ↦
          rw (w.rows-is, w.heads-is) (
            simp length-set v.0,
            (
              simp length-set v.1.0,
              gathered_put c.args.policy.now l.k l.rows.bodies l.rows.negated l.heads.bits v.1.1 v.0 v.1.0 r e (search rules)
                  (access_low c.args.policy.now c.requires l.k (omega arith) r e (search rules)) w.from-h.result (search rules) w.one.result.bits
                  w.union-all.result.bits w.union.result.bits w.union-then-parsed-eq-ACCESS.result.bits w.union-heads.result.bits w.one.ensures w.union-all.ensures
                  w.union.ensures w.union-then-parsed-eq-ACCESS.ensures w.union-heads.ensures,
            ),
          )
      | else-parsed-eq-ACCESS w ↦
          rw (w.rows-is, w.heads-is)
          (v.0, (v.1.0, gathered_other c.args.policy.now l.k l.rows.bodies l.rows.negated l.heads.bits v.1.1 v.0 v.1.0 r e (search rules)))
    ]

pub returns : goal.returns
returns c =
    let l = c.loop-k in
    let e : l.k ≡ length c.args.policy.now / 18 = omega (arith, c.loop-k-test.false) in
    subst (λ (x : ℕ). Gathered c.args.policy.now x l.rows.bodies l.rows.negated l.heads.bits) e l.invariant.1.1
