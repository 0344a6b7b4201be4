use mathlib.Core.Path.{◌∙◌, ap}
use Rattle.atoms.specs.Sets.{size}
use Rattle.arrays.specs.Arrays.{level_count}
use Rattle.question.proofs.AskedLaws.{answered, counted, locked}
use Rattle.question.proofs.preferred.Goals as goal

pub invariant_of-search : goal.invariant_of-search
invariant_of-search c =
    let a = c.args in
    let r = a.rules.now in
    let many = c.count-count.ensures ∙ ap size c.credentials.ensures in
    record {
      searchable = record {
        placed = r.placed;
        atom = c.requires.atom;
        switches =
            counted level_count r.rules.now.heads r.rules.now.positive r.rules.now.negated r.starts.now a.request a.shown a.within
            c.ranges.within.fits c.requires.apart _ c.write_members.ensures _ many;
      };
    }

pub first-answer-requires : goal.first-answer-requires
first-answer-requires c =
    let a = c.args in
    let r = a.rules.now in
    let many = c.count-count.ensures ∙ ap size c.credentials.ensures in
    locked level_count r.rules.now.heads r.rules.now.positive r.rules.now.negated r.starts.now a.request a.shown a.within
    c.ranges.within.fits c.requires.apart _ c.write_members.ensures _ many c.requires.alone

pub returns : goal.returns
returns c =
    let a = c.args in
    let r = a.rules.now in
    let many = c.count-count.ensures ∙ ap size c.credentials.ensures in
    c.asked.ensures
    ∙ answered level_count r.rules.now.heads r.rules.now.positive r.rules.now.negated r.starts.now a.request a.shown a.within
    c.ranges.within.fits c.requires.apart _ c.write_members.ensures _ many a.weights.now _ c.write_weights.ensures
    c.first-answer.result c.first-answer.ensures
