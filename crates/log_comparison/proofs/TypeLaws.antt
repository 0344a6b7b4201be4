-- What the comparison's answer means is one-to-one: the map has a way back. Assumes nothing.
use mathlib.Core.Path.{◌≡◌, ap, refl}
use mathlib.Core.Bool.{cond}
use mathlib.Core.Option.{Option, none, some}
use Prim.Native.Nat.{ℕ}
use lib.Dec.{eqb}
use Rattle.std.specs.Prelude.{Err, None, Ok, Result, Some}
use Rattle.std.specs.Prelude as P
use Rattle.validation.specs.Unless.{Unless, given, withheld}
use Rattle.atoms.proofs.MapLaws.{one_to_one}
use Rattle.log_comparison.specs.Types.{compared_of, refusal_of}
use Rattle.log_comparison.specs.declared.compare.Refusal.{Refusal}
use Rattle.log_comparison.specs.declared.compare.Refusal.TheVariants.{Length, Record}

refusal_back : ℕ → Refusal
refusal_back n = cond (eqb n 10) Length Record

refusal_back_lem : (x : Refusal) → refusal_back (refusal_of x) ≡ x
unfolding refusal_back
refusal_back_lem Length = refl
refusal_back_lem Record = refl

compared_back : Unless ℕ (Option ℕ) → Result (P.Option ℕ) Refusal
compared_back (given none) = Ok None
compared_back (given (some k)) = Ok (Some k)
compared_back (withheld n) = Err (refusal_back n)

compared_back_lem : (x : Result (P.Option ℕ) Refusal) → compared_back (compared_of x) ≡ x
unfolding compared_back
compared_back_lem (Ok None) = refl
compared_back_lem (Ok (Some k)) = refl
compared_back_lem (Err f) = ap Err (refusal_back_lem f)

pub compared_one : (x y : Result (P.Option ℕ) Refusal) → compared_of x ≡ compared_of y → x ≡ y
compared_one = one_to_one compared_of compared_back compared_back_lem
