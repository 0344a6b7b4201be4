-- What the answer means is one-to-one: the map has a way back. Assumes nothing.
use mathlib.Core.Path.{◌≡◌, ap, refl}
use Prim.Native.Nat.{ℕ}
use Rattle.std.proofs.Common.{Result, Ok, Err}
use Rattle.validation.specs.Unless.{Unless, given, withheld}
use Rattle.atoms.proofs.MapLaws.{one_to_one}
use Rattle.form.specs.WrittenForm as W
use Rattle.policy.specs.declared.refusal.Refusal.{Refusal}
use Rattle.policy.proofs.TypeLaws.{refusal_back_lem, refusal_back}
use Rattle.disclosure.specs.Types.{disclosed_of}

disclosed_back : Unless W.Refusal ℕ → Result ℕ Refusal
disclosed_back (given S) = Ok S
disclosed_back (withheld f) = Err (refusal_back f)

disclosed_back_lem : (x : Result ℕ Refusal) → disclosed_back (disclosed_of x) ≡ x
unfolding disclosed_back
disclosed_back_lem (Ok s) = refl
disclosed_back_lem (Err f) = ap Err (refusal_back_lem f)

pub disclosed_one : (x y : Result ℕ Refusal) → disclosed_of x ≡ disclosed_of y → x ≡ y
disclosed_one = one_to_one disclosed_of disclosed_back disclosed_back_lem
