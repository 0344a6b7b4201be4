-- `levels::walk::Walk::enter` meets its contract: the lowest atom is one of the set. Assumes nothing.
use mathlib.Core.Path.{◌∙◌, ap, refl}
use Prim.Native.Nat.{◌+◌}
use lib.Count.{count_trailing_zeros}
use lib.ListN.{get_or, set}
use native.Mathlib.Omega.{arith}
use Rattle.atoms.specs.Sets.{difference, union}
use Rattle.atoms.proofs.LowestLaws.{lowest_in_set}
use Rattle.levels.proofs.walk.Walk.enter.Goals as goal

pub returns : goal.returns
returns c =
    let o = c.one-own in
    let t = count_trailing_zeros 64 c.args.among.bits in
    record {
      atom = t;
      one = lowest_in_set c.args.among.bits c.requires.1 (omega arith);
      path =
          ap (set c.args.self.now.under (c.args.self.now.depth + 1))
          (c.union.ensures ∙ ap (union (get_or c.args.self.now.under c.args.self.now.depth 0)) o.ensures);
      fresh = c.difference-self.ensures ∙ ap (difference c.args.self.now.fresh.bits) o.ensures;
      depth = refl;
      count = refl;
    }
