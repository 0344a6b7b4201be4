-- The theorems of specs/Theorems. Assumes nothing.
use Rattle.operations.specs.Theorems.{Theorems}
use Rattle.operations.proofs.ApartLaws.{apart}
use Rattle.operations.proofs.AtSlotLaws.{rounds_at_lem, slots_meet_demand3}
use Rattle.operations.proofs.CutLaws.{alike, left, unread}
use Rattle.operations.proofs.ExamplesProof.{examples}
use Rattle.operations.proofs.KeepLaws.{four, sound}

pub theorems : Theorems
theorems = record {
  four = four;
  sound = sound;
  unread = unread;
  left = left;
  alike = alike;
  apart = apart;
  demand3 = slots_meet_demand3;
  rounds_at_lem = rounds_at_lem;
  examples = examples;
}
