-- The theorems of specs/Theorems. Assumes nothing.
use Rattle.relevance.specs.Theorems.{Theorems}
use Rattle.relevance.proofs.AgreeLaws.{levels_agree_on, settle_agree_on}
use Rattle.relevance.proofs.AnswerLaws.{arrays_agree, same_answer}
use Rattle.relevance.proofs.ModelLaws.{models_agree}

pub theorems : Theorems
theorems = record {
  settles = settle_agree_on;
  levels = levels_agree_on;
  models = models_agree;
  arrays = arrays_agree;
  answers = same_answer;
}
