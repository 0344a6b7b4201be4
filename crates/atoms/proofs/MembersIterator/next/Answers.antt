-- `atoms::Members` gives the lowest atom of those that are left, and leaves the others. Assumes nothing.
use Rattle.std.proofs.Common.{ap, arith, length}
use Rattle.atoms.proofs.ListedLaws.{atoms_next, atoms_none}
use Rattle.atoms.proofs.MembersIterator.next.Goals as goal

pub returns-then-left-eq0-clause-steps : goal.returns-then-left-eq0-clause-steps
returns-then-left-eq0-clause-steps c = let e = atoms_none c.args.self.now.left c.if-left-eq0.true in (e, e)

pub returns-clause-steps : goal.returns-clause-steps
returns-clause-steps c = atoms_next c.args.self.now.left c.if-left-eq0.false (omega arith)

pub returns-clause-goes : goal.returns-clause-goes
returns-clause-goes c =
    let e = ap length (atoms_next c.args.self.now.left c.if-left-eq0.false (omega arith)) in
    record { on = λ f. (tt, f, omega arith); keeps = tt; rests = λ f. tt }
