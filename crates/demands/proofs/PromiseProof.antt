-- What opening and a single round promise. Assumes nothing.
use mathlib.Core.Path.{◌∙◌, ◌≡◌, ap, refl, subst, sym}
use mathlib.Core.Logic.{◌↔◌, inl, inr}
use mathlib.Core.List.{List, [], ◌∷◌}
use mathlib.Core.Option.{none, some}
use Prim.Native.Nat.{ℕ}
use Rattle.encoding.specs.LittleEndian.{Bytes}
use Rattle.validation.proofs.FirstLaws.{first_none, first_some}
use Rattle.validation.specs.Statements.{DecideAll, FirstBroken}
use Rattle.validation.specs.Tests.{first_failed, relabelled}
use Rattle.validation.specs.Unless.{given}
use Rattle.validation.proofs.UnlessLaws.{given_exactly}
use Rattle.atoms.specs.Sets.{Member, empty}
use Rattle.atoms.proofs.SetLaws.{union_left, union_right}
use Rattle.records.specs.Policies.{policy_of}
use Rattle.rounds.specs.Moves.{Move}
use Rattle.rounds.specs.Refusals.{Refusal, number}
use Rattle.rounds.specs.RoundTest.{opening_tests}
use Rattle.rounds.specs.Rounds.{Outcome, Working, decided, declined_after, opening, phase_after, round, shown_after, worked}
use Rattle.rounds.specs.Sessions.{Phase, Service, Session, fresh, opened}
use Rattle.rounds.proofs.RefusalLaws.{round_worked}
use Rattle.rounds.proofs.SessionLaws.{decides_service}
use Rattle.demands.specs.Demand2.{Demand2}
use Rattle.demands.specs.Promises.{FreshFor, Opening, RoundPromise}
use Rattle.demands.proofs.AnswerProof.{demand2}

-- ---- opening

made : ℕ → ℕ → ℕ → ℕ → Phase → Session
made r P N n ph = record { request = r; shown = P; declined = N; count = n; phase = ph }

fresh_is : (r : ℕ) (s : Session) → FreshFor r s → s ≡ opened r
unfolding made
fresh_is r s h =
    let all : made s.request s.shown s.declined s.count s.phase ≡ made r empty empty 0 fresh
    = cc (h.request, h.shown, h.declined, h.count, h.phase) in
    all

is_fresh : (r : ℕ) → FreshFor r (opened r)
is_fresh r = record { request = refl; shown = refl; declined = refl; count = refl; phase = refl }

pub opening_promise : (r : ℕ) → Opening r (opening r)
unfolding opening opening_tests relabelled
opening_promise r =
    given_exactly (Service r) (FreshFor r) (λ f. (Service r → ⊥) × (f ≡ number 7)) (opened r) (first_failed (opening_tests r)) accepts refuses (λ v. is_fresh r)
    (λ v s h. fresh_is r s h)
  where
    form : List (Type 0 × Refusal)
    form = (Service r, number 7) ∷ []

    tests : DecideAll (opening_tests r) ((Service r, number 7) ∷ [])
    tests = (decides_service r, refl, tt)

    accepts : (first_failed (opening_tests r) ≡ none) ↔ Service r
    accepts = let i = first_none (opening_tests r) form tests in (λ e. (i.0 e).0, λ v. i.1 (v, tt))

    seven : (f : Refusal) → FirstBroken ((Service r, number 7) ∷ []) f → (Service r → ⊥) × (f ≡ number 7)
    seven f (inl h) = h
    seven f (inr (v, x)) = absurd x

    refuses : (f : Refusal) → (first_failed (opening_tests r) ≡ some f) ↔ ((Service r → ⊥) × (f ≡ number 7))
    refuses f = let i = first_some (opening_tests r) form tests f in (λ e. seven f (i.0 e), λ h. i.1 (inl h))

-- what opening gives is the fresh session of a service
pub opened_by : (r : ℕ) (s : Session) → opening r ≡ given s → Service r × (opened r ≡ s)
opened_by r s e = let h = ((opening_promise r).values s).0 e in (h.0, sym (fresh_is r s h.1))

pub opened_service : (r : ℕ) → Service r → opening r ≡ given (opened r)
opened_service r v = ((opening_promise r).values (opened r)).1 (v, is_fresh r)

-- ---- a round

module _ (bytes : List ℕ) (b : Bytes bytes) (s : Session) (m : Move) where
  pub round_promise : RoundPromise bytes s m (round bytes s m)
  unfolding worked
  round_promise w h o = (
    x.ended,
    record {
      answer = ap (λ (y : Outcome). y.answer) is;
      answered = subst (λ (y : Outcome). Demand2 (policy_of bytes) s.request y.session.shown y.session.declined x.ended) (sym is)
          (demand2 bytes b w s.request (shown_after s m) (declined_after s m));
      request = ap (λ (y : Outcome). y.session.request) is;
      shown = ap (λ (y : Outcome). y.session.shown) is;
      declined = ap (λ (y : Outcome). y.session.declined) is;
      stays_declined = λ k n p. subst (λ (y : Outcome). Member k y.session.shown × Member k y.session.declined) (sym is)
          (union_right s.shown m.shows k p, union_left s.declined _ k n);
      count = ap (λ (y : Outcome). y.session.count) is;
      grant_closes = λ e. ap (λ (y : Outcome). y.session.phase) is ∙ ap phase_after e;
      deny_closes = λ e. ap (λ (y : Outcome). y.session.phase) is ∙ ap phase_after e;
      ask_waits = λ q e. ap (λ (y : Outcome). y.session.phase) is ∙ ap phase_after e;
    },
  )
    where
      x : Working
      x = worked (policy_of bytes) s m

      is : round bytes s m ≡ decided s (worked (policy_of bytes) s m)
      is = round_worked bytes b s m w h o
