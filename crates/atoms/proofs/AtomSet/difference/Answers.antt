-- `atoms::AtomSet::difference` meets its contract: what is in both and what is in this set alone are together this set. Assumes nothing.
use Rattle.std.proofs.Common.{◌-◌, ◌^◌, arith}
use Rattle.std.proofs.lemmas.Nat.{and-not}
use lib.Bits.{and_comm}
use Rattle.atoms.proofs.AtomSet.difference.Goals as goal

pub returns : goal.returns
returns c =
    let a = c.args.self.bits in
    let b = c.args.other.bits in
    omega (arith, and-not 64 b a (omega arith) (omega arith), and_comm a b, and_comm a (2 ^ 64 - 1 - b))
