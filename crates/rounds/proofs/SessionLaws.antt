-- The tests of a session say what document 01 does. Assumes nothing.
use mathlib.Core.Path.{◌≡◌, ap, refl, sym}
use mathlib.Core.Logic.{◌≢◌, ◌⊎◌, inl, inr}
use mathlib.Core.Bool.{Bool, ◌&&◌, false, not, true, true≢false}
use Prim.Native.Nat.{◌+◌, ◌≤◌, ℕ}
use lib.Dec.{eqb, leb}
use Rattle.validation.proofs.DecideLaws.{decides_and, decides_eq, decides_le, decides_not}
use Rattle.validation.specs.Statements.{Decides}
use Rattle.atoms.specs.Atoms.{first_derived, last_derived}
use Rattle.atoms.specs.Sets.{Member, disjoint, empty, size, union}
use Rattle.atoms.proofs.SetLaws.{disjoint_true, true_disjoint, union_cases, union_left, union_right}
use Rattle.preference.specs.Question.{Question}
use Rattle.rounds.specs.Sessions.{CountInRange, Finished, Phase, Service, Session, SoundPhase, SoundQuestion, SoundSession, Verdict, closed, count_test, fresh, is_closed, is_service, is_sound, phase_test, question_test, waiting}

pub decides_service : (r : ℕ) → Decides (is_service r) (Service r)
decides_service r = decides_and (leb first_derived r) (leb r last_derived) (decides_le first_derived r) (decides_le r last_derived)

decides_count : (s : Session) → Decides (count_test s) (CountInRange s)
decides_count s = (λ e. let h = both.0 e in record { least = h.0; most = h.1 }, λ h. both.1 (h.least, h.most))
  where
    most : ℕ
    most = 1 + size (union s.shown s.declined)

    both : Decides (count_test s) ((1 ≤ s.count) × (s.count ≤ 1 + size (union s.shown s.declined)))
    both = decides_and (leb 1 s.count) (leb s.count most) (decides_le 1 s.count) (decides_le s.count most)

decides_question : (s : Session) (q : Question) → Decides (question_test s q) (SoundQuestion s q)
decides_question s q = (
  λ e. let h = both.0 e in record {
    not_empty = h.0;
    unshown = λ k m i. h.1 k m (union_left P N k i);
    undeclined = λ k m i. h.1 k m (union_right P N k i);
  },
  λ h. both.1 (h.not_empty, λ k m i. apart h k m (union_cases P N k i)),
)
  where
    P : ℕ
    P = s.shown

    N : ℕ
    N = s.declined

    both : Decides (question_test s q) ((q.asks ≢ empty) × ((k : ℕ) → Member k q.asks → Member k (union P N) → ⊥))
    both = decides_and (not (eqb q.asks empty)) (disjoint q.asks (union P N)) (decides_not (eqb q.asks empty) (decides_eq q.asks empty))
        (disjoint_true q.asks (union P N), true_disjoint q.asks (union P N))

    apart : SoundQuestion s q → (k : ℕ) → Member k q.asks → Member k P ⊎ Member k N → ⊥
    apart h k m (inl i) = h.unshown k m i
    apart h k m (inr i) = h.undeclined k m i

decides_phase : (s : Session) (ph : Phase) → Decides (phase_test s ph) (SoundPhase s ph)
decides_phase s fresh =
    let i = decides_and (eqb s.shown empty && eqb s.declined empty) (eqb s.count 0)
    (decides_and (eqb s.shown empty) (eqb s.declined empty) (decides_eq s.shown empty) (decides_eq s.declined empty))
    (decides_eq s.count 0) in (
      λ e. let h = i.0 e in record { shown = h.0.0; declined = h.0.1; count = h.1 },
      λ h. i.1 ((h.shown, h.declined), h.count),
    )
decides_phase s (waiting q) = decides_and (question_test s q) (count_test s) (decides_question s q) (decides_count s)
decides_phase s (closed v) = decides_count s

pub decides_sound : (s : Session) → Decides (is_sound s) (SoundSession s)
decides_sound s =
    let i = decides_and (is_service s.request) (phase_test s s.phase) (decides_service s.request) (decides_phase s s.phase) in
    (λ e. let h = i.0 e in record { service = h.0; phase = h.1 }, λ h. i.1 (h.service, h.phase))

pub decides_closed : (s : Session) → Decides (is_closed s.phase) (Finished s)
decides_closed s = go s.phase
  where
    go : (ph : Phase) → Decides (is_closed ph) ((v : Verdict) × (ph ≡ closed v))
    go fresh = (λ e. absurd (true≢false (sym e)), λ x. ap is_closed x.1)
    go (waiting q) = (λ e. absurd (true≢false (sym e)), λ x. ap is_closed x.1)
    go (closed v) = (λ e. (v, refl), λ x. refl)

pub decides_open : (s : Session) → Decides (not (is_closed s.phase)) (Finished s → ⊥)
decides_open s = decides_not (is_closed s.phase) (decides_closed s)

-- what is not open is finished
pub not_open_finished : (s : Session) → ((Finished s → ⊥) → ⊥) → Finished s
not_open_finished s f = go (is_closed s.phase) refl
  where
    go : (b : Bool) → is_closed s.phase ≡ b → Finished s
    go true e = (decides_closed s).0 e
    go false e = absurd (f ((decides_open s).0 (ap not e)))
