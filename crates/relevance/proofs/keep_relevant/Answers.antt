use Rattle.arrays.specs.Arrays.{level_count}
use Rattle.relevance.proofs.AnswerLaws.{same_answer}
use Rattle.relevance.proofs.keep_relevant.Goals as goal

pub returns : goal.returns
returns c =
    let a = c.args.rules.now in
    let k = c.keep_rules.new.kept in
    same_answer level_count a.rules.now.heads a.rules.now.positive a.rules.now.negated a.starts.now a.placed c.relevant-set.result.bits c.args.request
    c.relevant-set.ensures k.heads k.positive k.negated c.keep_rules.result c.keep_rules.ensures
