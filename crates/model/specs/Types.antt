-- What the program's answer means. Assumes nothing.
use Rattle.std.specs.Prelude.{ℕ, Result, Ok, Err}
use Rattle.validation.specs.Unless.{Unless, given, withheld}
use Rattle.atoms.specs.declared.AtomSet.{AtomSet}
use Rattle.form.specs.WrittenForm as W
use Rattle.policy.specs.Types.{refusal_of}
use Rattle.policy.specs.declared.refusal.Refusal.{Refusal}

-- the set, or the policy's refusal and no set
abbrev pub modelled_of : Result AtomSet Refusal → Unless W.Refusal ℕ
modelled_of (Ok s) = given s.bits
modelled_of (Err f) = withheld (refusal_of f)
