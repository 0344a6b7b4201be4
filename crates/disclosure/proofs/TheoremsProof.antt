-- The theorems of specs/Theorems. Assumes nothing.
use Rattle.disclosure.specs.Theorems.{Theorems}
use Rattle.disclosure.proofs.AcceptedLaws.{accepted, gives_disclosable}
use Rattle.disclosure.proofs.TypeLaws.{disclosed_one}

pub theorems : Theorems
theorems = record { accepted = accepted; disclosables = gives_disclosable; one_to_one = disclosed_one }
