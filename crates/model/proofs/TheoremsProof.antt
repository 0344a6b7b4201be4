-- The theorems of specs/Theorems. Assumes nothing.
use Rattle.model.specs.Theorems.{Theorems}
use Rattle.model.proofs.AnswerLaws.{applies_always, gives_model}
use Rattle.model.proofs.TypeLaws.{modelled_one}

pub theorems : Theorems
theorems = record { empty_body = applies_always; models = gives_model; one_to_one = modelled_one }
