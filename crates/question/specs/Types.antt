-- What the program's answers mean. Assumes nothing.
use Rattle.std.specs.Prelude.{List, None, Option as Answer, Some, ℕ}
use Rattle.std.proofs.Math.Option.{Option, none, some}
use Rattle.preference.specs.Candidates.{switched}
use Rattle.preference.specs.Question as Q
use Rattle.search.specs.declared.result.SearchResult.{SearchResult}
use Rattle.search.specs.declared.result.SearchResult.TheVariants.{Found, Nothing, Spent}
use Rattle.question.specs.declared.Question.{Question}

-- the set asked for
abbrev pub question_of : Question → Q.Question
question_of q = record { asks = q.asks }

abbrev pub found_of : Answer Question → Option Q.Question
found_of (Some q) = some (question_of q)
found_of None = none

-- the question that an answer of the search stands for: what the candidate takes
abbrev pub result_asks : List ℕ → ℕ → SearchResult → Option Q.Question
result_asks members count (Found n p) = some (record { asks = switched 0 members count n })
result_asks members count (Nothing t) = none
result_asks members count Spent = none
