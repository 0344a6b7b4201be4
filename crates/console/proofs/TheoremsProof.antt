-- The theorems of the bench program's steps. Assumes nothing.
use mathlib.Core.Path.{◌≡◌, ap, ap₂, refl}
use mathlib.Core.Option.{Option, none, some}
use Prim.Native.Nat.{ℕ}
use Rattle.atoms.proofs.MapLaws.{one_to_one}
use Rattle.session.proofs.TypeLaws.{session_back_lem, session_back}
use Rattle.transcript.specs.Steps as S
use Rattle.console.specs.Steps.{half_of, reader_of, stage_of}
use Rattle.console.specs.Theorems.{Theorems}
use Rattle.std.specs.Prelude.{None, Option as Maybe, Some}
use Rattle.console.specs.declared.reader.Reader.{Reader}
use Rattle.console.specs.declared.stage.Stage.{Stage}
use Rattle.console.specs.declared.stage.Stage.TheVariants.{Ended, Request, Rounds}
use Rattle.console.proofs.CallsProof.{calls_mean, program_prints, program_stops, program_tells}

stage_back : S.Stage → Stage
stage_back S.request = Request
stage_back (S.rounds s) = Rounds (session_back s)
stage_back S.ended = Ended

stage_back_lem : (x : Stage) → stage_back (stage_of x) ≡ x
unfolding stage_back
stage_back_lem Request = refl
stage_back_lem (Rounds s) = ap Rounds (session_back_lem s)
stage_back_lem Ended = refl

half_back : Option ℕ → Maybe ℕ
half_back none = None
half_back (some b) = Some b

half_back_lem : (x : Maybe ℕ) → half_back (half_of x) ≡ x
unfolding half_back
half_back_lem None = refl
half_back_lem (Some b) = refl

reader_back : S.Reader → Reader
reader_back r = record { stage = stage_back r.stage; half = half_back r.half }

reader_back_lem : (x : Reader) → reader_back (reader_of x) ≡ x
unfolding reader_back
reader_back_lem x = ap₂ (λ (s : Stage) (h : Maybe ℕ). record { stage = s; half = h }) (stage_back_lem x.stage) (half_back_lem x.half)

pub theorems : Theorems
theorems = record {
  tells = program_tells;
  program = program_prints;
  stops = program_stops;
  calls = calls_mean;
  reader_one = one_to_one reader_of reader_back reader_back_lem;
}
