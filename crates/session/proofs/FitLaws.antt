-- What the program's types give: the sets of a session are 16-bit numbers, its question's among them. So what a call comes to meets the demands.
-- Assumes nothing.
use mathlib.Core.Path.{◌≡◌, subst, sym}
use mathlib.Core.List.{List}
use Prim.Native.Nat.{◌<◌, ◌^◌, ℕ}
use denote.Laws.{Is}
use mir.Val.{Val}
use native.Mathlib.Omega.{arith}
use Rattle.encoding.specs.LittleEndian.{Bytes}
use Rattle.validation.specs.Unless.{Unless}
use Rattle.rounds.specs.Moves as M
use Rattle.rounds.specs.Refusals.{Refusal}
use Rattle.rounds.specs.Rounds as R
use Rattle.rounds.specs.Sessions as S
use Rattle.rounds.specs.Sessions.{SixteenBit, question}
use Rattle.demands.specs.Promises.{OpeningMeets, RoundMeets}
use Rattle.demands.proofs.VisitProof.{opening_meets, round_meets}
use Rattle.session.specs.Types.{phase_of, session_of}
use Rattle.session.specs.declared.Phase.{Phase}
use Rattle.session.specs.declared.Phase.TheVariants.{Closed, Fresh, Waiting}
use Rattle.session.specs.declared.Session.{Session}
use Rattle.session.specs.contracts.Phase as phase
use Rattle.session.specs.contracts.Session as session

asks_fit : (p : Phase) (vs : List Val) → Is phase.the_row p vs → (question (phase_of p)).asks < 2 ^ 16
asks_fit Fresh vs h = omega arith
asks_fit (Waiting q) vs h = omega (arith, h)
asks_fit (Closed v) vs h = omega arith

pub session_fits : (s : Session) (vs : List Val) → Is session.the_row s vs → SixteenBit (session_of s)
session_fits s vs h = record {
  shown = omega (arith, h);
  declined = omega (arith, h);
  asks = asks_fit s.phase _ h.1.1.1.1.1.1.0;
}

pub opened_meets : (r : ℕ) (u : Unless Refusal S.Session) → u ≡ R.opening r → (u ≡ R.opening r) × OpeningMeets r u
opened_meets r u e = (e, subst (OpeningMeets r) (sym e) (opening_meets r))

pub outcome_meets : (bytes : List ℕ) → Bytes bytes → (s : S.Session) → SixteenBit s → (m : M.Move) → m.shows < 2 ^ 16
    → (o : R.Outcome) → o ≡ R.round bytes s m → RoundMeets bytes s m o
outcome_meets bytes b s f m l o e = subst (RoundMeets bytes s m) (sym e) (round_meets bytes b s f m l)
