-- `session::accepted::worked` meets its contract: by those of its calls. Assumes nothing.
use Rattle.records.specs.Policies.{policy_of}
use Rattle.question.specs.Types.{question_of}
use Rattle.session.specs.Types.{ending_of, move_of, session_of}
use Rattle.session.proofs.ProgramLaws.{work_done}
use Rattle.session.proofs.accepted.worked.Goals as goal

pub returns : goal.returns
returns c =
    let a = c.args in
    let asked = c.question-asked in
    let less = c.without in
    work_done (policy_of a.policy.now) (session_of a.session) (move_of a.taken) (question_of asked.result) asked.ensures less.result
    less.ensures (ending_of c.ending-ended.result) c.ending-ended.ensures
