-- The theorems of specs/Theorems. Assumes nothing.
use mathlib.Core.Path.{refl}
use native.Mathlib.Omega.{arith}
use Rattle.probe.specs.Theorems.{Theorems}

pub theorems : Theorems
theorems = record {
  found_reply_lem = λ asks n place l. (omega arith, (omega arith, omega arith));
  nothing_reply = λ asks tried. (omega arith, omega arith);
  spent_reply = λ asks. refl;
  refused_reply_lem = refl;
}
