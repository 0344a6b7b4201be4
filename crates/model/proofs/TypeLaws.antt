-- What the answer means is one-to-one: the map has a way back. Assumes nothing.
use mathlib.Core.Path.{◌≡◌, ap, refl}
use Prim.Native.Nat.{ℕ}
use Rattle.std.proofs.Common.{Result, Ok, Err}
use Rattle.validation.specs.Unless.{Unless, given, withheld}
use Rattle.atoms.specs.declared.AtomSet.{AtomSet}
use Rattle.atoms.proofs.MapLaws.{one_to_one}
use Rattle.form.specs.WrittenForm as W
use Rattle.policy.specs.declared.refusal.Refusal.{Refusal}
use Rattle.policy.proofs.TypeLaws.{refusal_back_lem, refusal_back}
use Rattle.model.specs.Types.{modelled_of}

modelled_back : Unless W.Refusal ℕ → Result AtomSet Refusal
modelled_back (given S) = Ok (record { bits = S })
modelled_back (withheld f) = Err (refusal_back f)

modelled_back_lem : (x : Result AtomSet Refusal) → modelled_back (modelled_of x) ≡ x
unfolding modelled_back
modelled_back_lem (Ok s) = refl
modelled_back_lem (Err f) = ap Err (refusal_back_lem f)

pub modelled_one : (x y : Result AtomSet Refusal) → modelled_of x ≡ modelled_of y → x ≡ y
modelled_one = one_to_one modelled_of modelled_back modelled_back_lem
