-- What the program's steps add up to. Assumes nothing.
use mathlib.Core.Path.{◌∙◌, ◌≡◌, ap, refl, subst, sym}
use mathlib.Core.Bool.{Bool, ◌&&◌, cond, false, not, true}
use mathlib.Core.List.{List, [], ◌∷◌}
use mathlib.Core.Option.{Option, map, none, or_else, some}
use Prim.Native.Nat.{◌+◌, ◌≤◌, ℕ}
use lib.Dec.{eqb}
use native.Mathlib.Numerals.{add-one}
use native.Mathlib.Omega.{arith}
use Rattle.encoding.specs.LittleEndian.{Bytes}
use Rattle.validation.specs.Tests.{first_failed, relabelled}
use Rattle.validation.specs.Unless.{unless, withheld}
use Rattle.validation.proofs.TestLaws.{both_true, true_eqb}
use Rattle.atoms.specs.Sets.{Member, difference, disjoint, union}
use Rattle.atoms.proofs.SetLaws.{difference_iff, true_disjoint, union_empty}
use Rattle.atoms.proofs.SizeLaws.{size_most}
use Rattle.rules.specs.Model.{model}
use Rattle.rules.specs.Policy.{Policy}
use Rattle.rules.specs.Unlocking.{grants, unlocks}
use Rattle.rules.specs.Weights.{WeightTable}
use Rattle.records.specs.Policies.{policy_of}
use Rattle.levels.specs.Levels.{level_at}
use Rattle.form.specs.PolicyTest.{policy_refusal}
use Rattle.form.specs.WrittenForm as W
use Rattle.policy.specs.Types.{AcceptedWith}
use Rattle.arrays.specs.Arrays.{LaidOut, evaluated, level_count}
use Rattle.layout.proofs.AccessLaws.{access_levels_lem, access_model}
use Rattle.disclosure.specs.Disclosure.{disclosable}
use Rattle.preference.specs.InArrays.{opens_in, preferred_in}
use Rattle.preference.specs.Question.{Question, chosen, no_question}
use Rattle.preference.proofs.QuestionLaws.{chosen_laid}
use Rattle.rounds.specs.Endings.{Ending, conclude, ending, grant, obtainable}
use Rattle.rounds.specs.Moves.{Move}
use Rattle.rounds.specs.Refusals.{Refusal, number, of_policy}
use Rattle.rounds.specs.RoundTest.{opening_tests, session_refusal}
use Rattle.rounds.specs.Rounds.{Outcome, Working, decided, ends, opening, phase_after, respond, round, shown_after, turned_back, worked}
use Rattle.rounds.specs.Sessions.{CountInRange, Phase, Service, Session, SoundPhase, SoundSession, closed, fresh, is_closed, is_service, is_sound, opened, phase_test, question, waiting}
use Rattle.rounds.proofs.RefusalLaws.{refusal_parts, session_none}

-- ---- the ending, from rules in arrays

module _ (bytes : List ℕ) (b : Bytes bytes) (of : List ℕ) (w : AcceptedWith bytes of) (h p m s : List ℕ)
    (l : LaidOut (level_at of) level_count (policy_of bytes).access h p m s) (r P N : ℕ) where
  -- x says whether the shown credentials C unlock the request
  module _ (C : ℕ) (e : C ≡ P) (x : Bool) (is : x ≡ grants r (evaluated level_count h p m s C)) where
    unlocked : x ≡ unlocks (policy_of bytes) r P
    unfolding unlocks
    unlocked = is ∙ ap (grants r) (access_model bytes b w.form of w.levels h p m s l C ∙ ap (model (policy_of bytes).access) e)

    pub ends_grant : x ≡ true → grant ≡ ending (policy_of bytes) r P N
    unfolding ending
    ends_grant t = ap (λ (y : Bool). conclude y (chosen (policy_of bytes) r P (obtainable (policy_of bytes) P N))) (sym t ∙ unlocked)

    -- asking nothing does not unlock it either
    pub locked_alone : x ≡ false → opens_in level_count h p m s r P no_question ≡ false
    locked_alone f = ap (λ (y : ℕ). grants r (evaluated level_count h p m s y)) (union_empty P ∙ sym e) ∙ sym is ∙ f

    -- the search has given o
    pub ends_found : x ≡ false → (D : ℕ) → D ≡ obtainable (policy_of bytes) P N → (ws : List ℕ) → WeightTable (policy_of bytes) ws → (o : Option Question)
        → o ≡ preferred_in level_count h p m s r P D ws → conclude false o ≡ ending (policy_of bytes) r P N
    unfolding ending
    ends_found f D d ws t o is =
        ap (conclude false) (is ∙ chosen_laid (level_at of) level_count (policy_of bytes) (access_levels_lem bytes b w.form of w.levels) h p m s ws l t r P D ∙ ap (chosen (policy_of bytes) r P) d)
        ∙ ap (λ (y : Bool). conclude y (chosen (policy_of bytes) r P (obtainable (policy_of bytes) P N))) (sym f ∙ unlocked)

-- nothing of what may be asked is shown
pub obtainable_apart : (pol : Policy) (P N D : ℕ) → D ≡ obtainable pol P N → disjoint P D ≡ true
obtainable_apart pol P N D e = true_disjoint P D (λ k a b. unshown k (subst (Member k) e b) a)
  where
    unshown : (k : ℕ) → Member k (obtainable pol P N) → Member k P → ⊥
    unshown k m = ((difference_iff (disclosable pol P) P k).0 ((difference_iff (difference (disclosable pol P) P) N k).0 m).0).1

-- ---- a sound session

-- a fresh one with nothing shown or declined: the count decides
pub untouched_count : (s : Session) → s.shown ≡ 0 → s.declined ≡ 0 → eqb s.count 0 ≡ phase_test s fresh
untouched_count s p q = ap (λ (b : Bool). b && eqb s.count 0) (sym (both_true (true_eqb p) (true_eqb q)))

-- its count is small
sound_count : (s : Session) → SoundSession s → s.count ≤ 65
sound_count s h = go s.phase h.phase
  where
    counted : CountInRange s → s.count ≤ 65
    counted h = omega (arith, h.most, size_most (union s.shown s.declined))

    go : (ph : Phase) → SoundPhase s ph → s.count ≤ 65
    go fresh h = omega (arith, h.count)
    go (waiting q) h = counted h.1
    go (closed v) h = counted h

-- ---- opening

pub opens_refused : (r : ℕ) → is_service r ≡ false → withheld (number 7) ≡ opening r
unfolding opening opening_tests first_failed relabelled
opens_refused r e = ap (λ (b : Bool). unless (cond b none (some (number 7))) (opened r)) (sym e)

pub opens_fresh : (r : ℕ) → is_service r ≡ true → unless none (opened r) ≡ opening r
unfolding opening opening_tests first_failed relabelled
opens_fresh r e = ap (λ (b : Bool). unless (cond b none (some (number 7))) (opened r)) (sym e)

-- ---- the tests of a session

-- as they came out
after_tests : Bool → Bool → Bool → Option Refusal
after_tests service sound ended = first_failed ((service, number 7) ∷ (sound, number 8) ∷ (not ended, number 9) ∷ [])

module _ (s : Session) (m : Move) where
  tests : (a b c : Bool) → is_service s.request ≡ a → is_sound s ≡ b → is_closed s.phase ≡ c → after_tests a b c ≡ session_refusal s m
  unfolding session_refusal relabelled after_tests
  tests a b c d e f =
      ap (λ (x : Bool). after_tests x b c) (sym d)
      ∙ ap (λ (x : Bool). after_tests (is_service s.request) x c) (sym e)
      ∙ ap (λ (x : Bool). after_tests (is_service s.request) (is_sound s) x) (sym f)

  pub not_service : is_service s.request ≡ false → some (number 7) ≡ session_refusal s m
  unfolding after_tests first_failed
  not_service v = tests false (is_sound s) (is_closed s.phase) v refl refl

  pub not_sound : is_service s.request ≡ true → is_sound s ≡ false → some (number 8) ≡ session_refusal s m
  unfolding after_tests first_failed
  not_sound v h = tests true false (is_closed s.phase) v h refl

  pub not_open : is_service s.request ≡ true → is_sound s ≡ true → is_closed s.phase ≡ true → some (number 9) ≡ session_refusal s m
  unfolding after_tests first_failed
  not_open v h e = tests true true true v h e

  pub all_passed : is_service s.request ≡ true → is_sound s ≡ true → is_closed s.phase ≡ false → none ≡ session_refusal s m
  unfolding after_tests first_failed
  all_passed v h e = tests true true false v h e

  -- what passes them all
  pub passed_service : session_refusal s m ≡ none → Service s.request
  passed_service e = ((session_none s m).0 e).0

  pub passed_count : session_refusal s m ≡ none → s.count ≤ 65
  passed_count e = sound_count s ((session_none s m).0 e).1.0

-- ---- a round of such a session

module _ (pol : Policy) (s : Session) (m : Move) where
  -- with the question Q, what is declined now D and the ending e, as they were computed
  pub work_done : (Q : Question) → Q ≡ question s.phase → (D : ℕ) → D ≡ difference Q.asks m.shows
      → (e : Ending) → e ≡ ending pol s.request (shown_after s m) (union s.declined D)
      → ◌≡◌ {A = Working} (record { shown = shown_after s m; declined = union s.declined D; ended = e }) (worked pol s m)
  unfolding worked
  work_done Q q D d e is =
      ap (working D) is
      ∙ ap (λ (x : ℕ). working x (ending pol s.request (shown_after s m) (union s.declined x)))
      (d ∙ ap (λ (x : Question). difference x.asks m.shows) q)
    where
      working : ℕ → Ending → Working
      working D e = record { shown = shown_after s m; declined = union s.declined D; ended = e }

-- with the phase, as it was computed
pub round_decided : (s : Session) (x : Working) (ph : Phase) → ph ≡ phase_after x.ended
    → ◌≡◌ {A = Outcome} (record { answer = ends x.ended; session = record { request = s.request; shown = x.shown; declined = x.declined; count = s.count + 1; phase = ph } })
    (decided s x)
round_decided s x ph p = ap (outcome (s.count + 1)) p ∙ ap (λ (n : ℕ). outcome n (phase_after x.ended)) (add-one s.count)
  where
    outcome : ℕ → Phase → Outcome
    outcome n ph = record { answer = ends x.ended; session = record { request = s.request; shown = x.shown; declined = x.declined; count = n; phase = ph } }

-- ---- a round: the policy's test first, and the session's tests

module _ (bytes : List ℕ) (s : Session) (m : Move) where
  -- by what the tests answered
  from_parts : (t : Option W.Refusal) (x : Option Refusal) → t ≡ policy_refusal bytes → x ≡ session_refusal s m
      → respond (or_else (map of_policy t) x) (policy_of bytes) s m ≡ round bytes s m
  unfolding round
  from_parts t x e f =
      ap (λ (y : Option W.Refusal). respond (or_else (map of_policy y) x) (policy_of bytes) s m) e
      ∙ ap (λ (y : Option Refusal). respond (or_else (map of_policy (policy_refusal bytes)) y) (policy_of bytes) s m) f
      ∙ ap (λ (y : Option Refusal). respond y (policy_of bytes) s m) (sym (refusal_parts bytes s m))

  pub round_tested : (x : Option Refusal) → none ≡ policy_refusal bytes → x ≡ session_refusal s m → respond x (policy_of bytes) s m ≡ round bytes s m
  unfolding or_else
  round_tested x e f = from_parts none x e f

  pub round_untested : (f : W.Refusal) → some f ≡ policy_refusal bytes → turned_back s (of_policy f) ≡ round bytes s m
  unfolding or_else
  round_untested f e = from_parts (some f) (session_refusal s m) e refl
