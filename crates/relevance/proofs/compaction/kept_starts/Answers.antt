use mathlib.Core.Path.{sym}
use native.Mathlib.Omega.{arith}
use Rattle.arrays.specs.Arrays.{level_count}
use Rattle.arrays.proofs.StartLaws.{start_fits}
use Rattle.relevance.proofs.PlaceLaws.{before_none}
use Rattle.relevance.proofs.StartLaws.{moving_done, moving_next}
use Rattle.relevance.proofs.compaction.kept_starts.Goals as goal

pub loop-l-init : goal.loop-l-init
loop-l-init c = record {
  places = omega arith;
  next = λ i. omega arith;
  goes = sym (before_none c.args.set.bits c.args.rules.now.rules.now.heads);
  begins = λ i j. omega arith;
}

pub place_of-place-requires : goal.place_of-place-requires
place_of-place-requires c =
    let l = c.loop-l in
    let placed = c.args.rules.now.placed in (
      record {
        ordered = l.invariant.next (omega arith);
        fits = start_fits level_count c.args.rules.now.starts.now placed.ordered l.l (omega arith);
        singles = placed.singles;
      },
      l.invariant.goes,
    )

pub loop-l-preserved : goal.loop-l-preserved
loop-l-preserved c =
    moving_next _ _ _ _ _ _ _ _ c.loop-l.invariant c.args.rules.now.placed.ordered (omega arith) c.place_of-place.result c.place_of-place.ensures

pub returns : goal.returns
returns c = moving_done _ _ _ _ _ _ _ _ c.loop-l.invariant (omega arith)
