-- `probe::found` meets its contract: the search tries the subsets of what may be asked. Assumes nothing.
use mathlib.Core.Path.{◌∙◌, ap}
use lib.Pow.{pow_pos}
use native.Mathlib.Omega.{arith}
use Rattle.atoms.specs.Sets.{size}
use Rattle.arrays.specs.Arrays.{level_count}
use Rattle.search.specs.Types.{result_of}
use Rattle.question.proofs.AskedLaws.{counted, locked}
use Rattle.probe.proofs.ReplyLaws.{replies_found, within_limit}
use Rattle.probe.proofs.found.Goals as goal

pub invariant_of-search : goal.invariant_of-search
invariant_of-search c =
    let a = c.args in
    let r = a.rules.now in
    let sized = c.count-count.ensures ∙ ap size c.credentials.ensures in
    record {
      searchable = record {
        placed = r.placed;
        atom = c.requires.atom;
        switches =
            counted level_count r.rules.now.heads r.rules.now.positive r.rules.now.negated r.starts.now a.request a.shown a.within
            c.ranges.within.fits c.requires.apart _ c.write_members.ensures _ sized;
      };
    }

pub first-answer-requires : goal.first-answer-requires
first-answer-requires c =
    let a = c.args in
    let r = a.rules.now in
    let sized = c.count-count.ensures ∙ ap size c.credentials.ensures in
    locked level_count r.rules.now.heads r.rules.now.positive r.rules.now.negated r.starts.now a.request a.shown a.within
    c.ranges.within.fits c.requires.apart _ c.write_members.ensures _ sized c.requires.alone

pub reply-requires : goal.reply-requires
reply-requires c =
    let a = c.args in
    let r = a.rules.now in
    let sized = c.count-count.ensures ∙ ap size c.credentials.ensures in
    let all = counted level_count r.rules.now.heads r.rules.now.positive r.rules.now.negated r.starts.now a.request a.shown a.within
    c.ranges.within.fits c.requires.apart _ c.write_members.ensures _ sized in
    let few = within_limit _ _ _ _ (pow_pos _) (result_of c.first-answer.result) c.first-answer.ensures in
    (all.0, omega (arith, c.ranges.limit.fits))

pub returns : goal.returns
returns c =
    let a = c.args in
    let r = a.rules.now in
    let sized = c.count-count.ensures ∙ ap size c.credentials.ensures in
    c.reply.ensures
    ∙ replies_found level_count r.rules.now.heads r.rules.now.positive r.rules.now.negated r.starts.now a.request a.shown a.within
    c.ranges.within.fits c.requires.apart _ c.write_members.ensures _ sized _ _ _ c.first-answer.ensures
