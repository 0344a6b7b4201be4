-- The theorems of specs/Theorems. Assumes nothing.
use mathlib.Core.Path.{refl}
use Rattle.packing.specs.Packed.{packed}
use Rattle.packing.specs.Theorems.{Theorems}
use Rattle.packing.proofs.ExamplesProof.{examples}
use Rattle.packing.proofs.ListLaws.{calls, demand3}
use Rattle.packing.proofs.RecordLaws.{packed_fits, stands}
use Rattle.packing.proofs.ReplyLaws as replies
use Rattle.packing.proofs.SessionLaws as sessions

pub theorems : Theorems
unfolding packed
theorems = record {
  stands = stands;
  fits = packed_fits;
  fresh_bytes = λ r P N n. refl;
  waiting_bytes = λ r P N n q. refl;
  granted_bytes = λ r P N n. refl;
  denied_bytes = λ r P N n. refl;
  accepts = replies.accepts;
  refuses = replies.refuses;
  given = λ S before. (refl, refl);
  ungiven = λ f before. (refl, refl);
  opens = sessions.opens;
  unopened = sessions.unopened;
  plays = sessions.plays;
  no_session = λ policy b w before p none_in. sessions.no_session policy before p none_in b w;
  untested = λ policy b f h before p none_in. sessions.untested policy before p none_in b f h;
  left = sessions.left;
  told = replies.told;
  calls = calls;
  demand3 = demand3;
  examples = examples;
}
