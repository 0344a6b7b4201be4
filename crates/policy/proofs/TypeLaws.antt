-- What the test's answers mean is one-to-one: the map has a way back. Assumes nothing.
use mathlib.Core.Path.{◌≡◌, ap, refl, sym}
use mathlib.Core.Bool.{cond}
use mathlib.Core.Option.{some-injective, some-ne-none, some}
use lib.Dec.{eqb}
use Rattle.std.proofs.Common.{Result, Ok, Err}
use Rattle.atoms.proofs.MapLaws.{one_to_one}
use Rattle.form.specs.WrittenForm as W
use Rattle.policy.specs.Types.{checked_of, refusal_of}
use Rattle.policy.specs.declared.refusal.Refusal.{Refusal}
use Rattle.policy.specs.declared.refusal.Refusal.TheVariants.{Body, Head, Kind, Level, NotWhole, SecondWeight, TooLong, Weight}

pub refusal_back : W.Refusal → Refusal
refusal_back (W.at n k) =
    cond (eqb n 1) TooLong (cond (eqb n 2) (NotWhole k) (cond (eqb n 3) (Kind k) (cond (eqb n 4) (Head k) (cond (eqb n 5) (Body k)
    (cond (eqb n 6) (Level k) (cond (eqb n 12) (Weight k) (SecondWeight k)))))))

pub refusal_back_lem : (x : Refusal) → refusal_back (refusal_of x) ≡ x
unfolding refusal_back
refusal_back_lem TooLong = refl
refusal_back_lem (NotWhole k) = refl
refusal_back_lem (Kind k) = refl
refusal_back_lem (Head k) = refl
refusal_back_lem (Body k) = refl
refusal_back_lem (Level k) = refl
refusal_back_lem (Weight k) = refl
refusal_back_lem (SecondWeight k) = refl

pub refusal_one : (x y : Refusal) → refusal_of x ≡ refusal_of y → x ≡ y
refusal_one = one_to_one refusal_of refusal_back refusal_back_lem

-- what is refused alike is the same answer, whatever is handed on with acceptance
pub refused_one : {T : Type 0} (x : Result T Refusal) (f : Refusal) → checked_of x ≡ some (refusal_of f) → x ≡ Err f
refused_one (Ok x) f e = absurd (some-ne-none (refusal_of f) (sym e))
refused_one (Err g) f e = ap Err (refusal_one g f (some-injective (refusal_of g) (refusal_of f) e))

pub checked_one : (x y : Result (Unit {0}) Refusal) → checked_of x ≡ checked_of y → x ≡ y
checked_one (Ok x) (Ok y) e = refl
checked_one (Ok x) (Err g) e = absurd (some-ne-none (refusal_of g) (sym e))
checked_one (Err f) y e = sym (refused_one y f (sym e))
