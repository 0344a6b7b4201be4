-- The theorems of specs/Theorems. Assumes nothing.
use Rattle.logs.specs.Theorems.{Theorems}
use Rattle.logs.proofs.AgreeLaws.{agree_laws, agree_means}
use Rattle.logs.proofs.ComparisonLaws.{compares}
use Rattle.logs.proofs.EntryLaws.{all_back, read_back, said, written, written_back}
use Rattle.logs.proofs.ExamplesProof.{examples}
use Rattle.logs.proofs.SoundLaws.{decides_sound, sound_means, sounds, unsounds, whole_is}

pub theorems : Theorems
theorems = record {
  entries = record {
    said = said;
    bytes = written;
    read_back = read_back;
    written_back = written_back;
    all_back = all_back;
    sound = decides_sound;
    sound_means = sound_means;
  };
  logs = record { whole = whole_is; sounds = sounds; unsounds = unsounds };
  agreement = agree_means;
  agree = agree_laws;
  compares = compares;
  examples = examples;
}
