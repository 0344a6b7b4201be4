-- The theorems of the question. Assumes nothing.
use Rattle.std.specs.Prelude.{◌≡◌, Option}
use Rattle.question.specs.Types.{found_of, question_of}
use Rattle.question.specs.declared.Question.{Question}

pub record Theorems : Type 0 where
  -- a question is the very set that is handed out
  pub asked : (q : Question) → (question_of q).asks ≡ q.asks
  -- what the program's answer means is one-to-one, so that a contract through this map fixes the answer
  pub one_to_one : (x y : Option Question) → found_of x ≡ found_of y → x ≡ y
