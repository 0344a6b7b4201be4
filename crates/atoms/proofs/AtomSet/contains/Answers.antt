-- A 64-bit number has no bit above 63.
use Rattle.std.proofs.Common.{◌≡◌, arith}
use Rattle.std.proofs.lemmas.Bool.Decides.{nat_tests}
use Rattle.atoms.specs.Sets.{bit}
use Rattle.atoms.proofs.SetLaws.{bit_high}
use Rattle.atoms.proofs.AtomSet.contains.Goals as goal

pub returns-else-atom-le-VIOLATION : goal.returns-else-atom-le-VIOLATION
returns-else-atom-le-VIOLATION c =
    let a = c.args in
    let z : bit a.self.bits a.atom ≡ 0 = bit_high a.self.bits 64 a.atom (omega arith) c.if-atom-le-VIOLATION.false in
    grind (arith, nat_tests)
