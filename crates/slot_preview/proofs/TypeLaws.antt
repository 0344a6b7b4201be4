-- What the program's previews mean is one-to-one. Assumes nothing.
use Rattle.std.specs.Prelude.{None, Option, Some}
use mathlib.Core.Path.{◌≡◌, ap, refl}
use mathlib.Core.Option as Math
use Rattle.atoms.proofs.MapLaws.{one_to_one}
use Rattle.rounds.specs.Sessions as R
use Rattle.previews.specs.Previews as P
use Rattle.session.specs.declared.Session.{Session}
use Rattle.session.proofs.TypeLaws.{session_back_lem, session_back}
use Rattle.slot_steps.proofs.TypeLaws.{answer_one}
use Rattle.slot_preview.specs.Types.{next_of, preview_of}
use Rattle.slot_preview.specs.declared.Preview.{Preview}

next_back : Math.Option R.Session → Option Session
next_back Math.none = None
next_back (Math.some s) = Some (session_back s)

next_back_lem : (x : Option Session) → next_back (next_of x) ≡ x
unfolding next_back
next_back_lem (Some s) = ap Some (session_back_lem s)
next_back_lem None = refl

pub preview_one : (x y : Preview) → preview_of x ≡ preview_of y → x ≡ y
preview_one x y e =
    let a : x.answer ≡ y.answer = answer_one x.answer y.answer (ap (λ (v : P.Preview). v.answer) e) in
    let s : x.session ≡ y.session = one_to_one next_of next_back next_back_lem x.session y.session (ap (λ (v : P.Preview). v.session) e) in
    λ k. record { answer = a k; session = s k }
