-- What the program's types mean: the papers' number and values for each case. Assumes nothing.
use Rattle.std.specs.Prelude.{List, ℕ, Result, Ok, Err}
use Rattle.std.proofs.Math.Option.{Option, none, some}
use Rattle.records.specs.Policies.{policy_of}
use Rattle.levels.specs.Levels.{Levels}
use Rattle.form.specs.WrittenForm as W
use Rattle.policy.specs.declared.refusal.Refusal.{Refusal}
use Rattle.policy.specs.declared.refusal.Refusal.TheVariants.{TooLong, NotWhole, Kind, Head, Body, Level, Weight, SecondWeight}

abbrev pub refusal_of : Refusal → W.Refusal
refusal_of TooLong = W.at 1 128
refusal_of (NotWhole k) = W.at 2 k
refusal_of (Kind k) = W.at 3 k
refusal_of (Head k) = W.at 4 k
refusal_of (Body k) = W.at 5 k
refusal_of (Level k) = W.at 6 k
refusal_of (Weight k) = W.at 12 k
refusal_of (SecondWeight k) = W.at 13 k

-- the refusal, or none where the policy is accepted, whatever is handed on with that
abbrev pub checked_of : {T : Type 0} → Result T Refusal → Option W.Refusal
checked_of (Ok x) = none
checked_of (Err f) = some (refusal_of f)

-- an accepted policy, and levels that its access rules keep
pub record AcceptedWith (bytes of : List ℕ) : Type 0 where
  pub form : W.WellFormed bytes
  pub levels : Levels (policy_of bytes).access of
