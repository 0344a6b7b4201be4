-- The theorems of specs/Theorems: the map has a way back. Assumes nothing.
use mathlib.Core.Path.{◌≡◌, ap, refl}
use mathlib.Core.List.{List}
use mathlib.Core.Option.{Option, none, some}
use Prim.Native.Nat.{ℕ}
use Rattle.std.specs.Prelude.{None, Some}
use Rattle.std.specs.Prelude as P
use Rattle.atoms.proofs.MapLaws.{one_to_one}
use Rattle.recorder.specs.Types.{logged_of}
use Rattle.recorder.specs.Theorems.{Theorems}

logged_back : Option (List ℕ) → P.Option (List ℕ)
logged_back none = None
logged_back (some bytes) = Some bytes

logged_back_lem : (x : P.Option (List ℕ)) → logged_back (logged_of x) ≡ x
unfolding logged_back
logged_back_lem None = refl
logged_back_lem (Some bytes) = refl

logged_one : (x y : P.Option (List ℕ)) → logged_of x ≡ logged_of y → x ≡ y
logged_one = one_to_one logged_of logged_back logged_back_lem

pub theorems : Theorems
theorems = record {
  logged_one = logged_one;
  accepted = λ x bytes. (ap logged_of, logged_one x (Some bytes));
  unaccepted = λ x. (ap logged_of, logged_one x None);
}
