-- The theorems of specs/Theorems. Assumes nothing.
use mathlib.Core.Path.{◌≡◌, refl}
use mathlib.Core.List.{[], flat_map}
use Rattle.rounds.specs.Rounds.{rounds_of}
use Rattle.session_logs.specs.SessionLogs.{log_of}
use Rattle.session_logs.specs.Theorems.{Theorems}
use Rattle.session_logs.proofs.AlikeProof.{alike}
use Rattle.session_logs.proofs.ImplementationProof.{implementations_compared, ours}
use Rattle.session_logs.proofs.CaseA.{policy_A}
use Rattle.session_logs.proofs.ExactProof.{exactly}
use Rattle.session_logs.proofs.ExportLaws.{asked_bytes, asked_nothing, denied_bytes, granted_bytes, no_session_record, other_replies, record_sound}
use Rattle.session_logs.proofs.ExportLaws.{round_record_lem}
use Rattle.session_logs.proofs.LogProof.{log_says, played_right}
use Rattle.session_logs.proofs.RecordLaws.{different, one_accepted, one_refused, record_bytes}
use Rattle.session_logs.proofs.SaidLaws.{said_more, said_rounds}

no_round : log_of [] ≡ []
unfolding log_of flat_map
no_round = refl

pub theorems : Theorems
theorems = record {
  records = record_bytes;
  different = different;
  no_round = no_round;
  one_accepted = one_accepted;
  one_refused = one_refused;
  says = log_says;
  implementations = λ bytes r s ms p. implementations_compared (rounds_of bytes s ms) (log_says bytes r s ms p).sound;
  ours = λ bytes r s ms p. ours (rounds_of bytes s ms) (log_says bytes r s ms p).sound;
  exactly = λ bytes r s ms p us. exactly (rounds_of bytes s ms) us (played_right bytes r s ms p);
  alike = alike;
  said_rounds = said_rounds;
  said_more = said_more;
  exports = record {
    round_record_lem = round_record_lem;
    no_session = no_session_record;
    sound = record_sound;
    granted = granted_bytes;
    denied = denied_bytes;
    asked = asked_bytes;
    asked_nothing = asked_nothing;
    others = other_replies;
    agreement = λ before. (refl, refl);
    parts = λ k before. (refl, refl);
    refuses = λ n before. (refl, refl);
  };
  policy_A = policy_A;
}
