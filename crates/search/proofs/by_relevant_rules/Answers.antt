use mathlib.Core.Path.{◌∙◌}
use Rattle.search.proofs.AnswerLaws.{answer_relevant}
use Rattle.search.proofs.by_relevant_rules.Goals as goal

pub returns : goal.returns
returns c =
    let s = c.args.search.now in
    let r = s.rules.now in
    c.by_blocks.ensures
    ∙ answer_relevant _ _ r.rules.now.heads r.rules.now.positive r.rules.now.negated r.starts.now _ _ _ _ c.keep_relevant-starts.ensures c.args.weights.now s.shown s.members.now
    s.count c.args.limit
