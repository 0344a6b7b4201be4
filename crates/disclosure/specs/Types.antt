-- What the program's answer means. Assumes nothing.
use Rattle.std.specs.Prelude.{ℕ, Result, Ok, Err}
use Rattle.validation.specs.Unless.{Unless, given, withheld}
use Rattle.form.specs.WrittenForm as W
use Rattle.policy.specs.Types.{refusal_of}
use Rattle.policy.specs.declared.refusal.Refusal.{Refusal}

-- the set, or the policy's refusal and no set
abbrev pub disclosed_of : Result ℕ Refusal → Unless W.Refusal ℕ
disclosed_of (Ok s) = given s
disclosed_of (Err f) = withheld (refusal_of f)
