-- Which refusal a round is given, and what it gives back. Assumes nothing.
use mathlib.Core.Path.{◌∙◌, ◌≡◌, ap, refl, subst, sym}
use mathlib.Core.Logic.{◌↔◌, ◌⊎◌, inl, inr}
use mathlib.Core.Bool.{Bool}
use mathlib.Core.List.{List, ◌++◌}
use mathlib.Core.Option.{Option, map, none, or_else, some}
use Prim.Native.Nat.{◌≤◌, suc, ℕ}
use native.Mathlib.Omega.{arith}
use Rattle.encoding.specs.LittleEndian.{Bytes}
use Rattle.validation.specs.Statements.{AllHold, DecideAll, FirstBroken}
use Rattle.validation.specs.Tests.{first_failed, relabelled}
use Rattle.validation.proofs.FirstLaws.{broken_append, broken_relabelled, decide_append, decide_relabelled, first_append, first_none, first_relabelled, first_some, hold_append, hold_relabelled}
use Rattle.validation.proofs.NumberLaws.{Rising, broken_at, broken_every}
use Rattle.records.specs.Policies.{policy_of}
use Rattle.form.specs.PolicyTest.{policy_refusal, policy_tests}
use Rattle.form.specs.WrittenForm as W
use Rattle.form.specs.WrittenForm.{PolicyForm, PolicyRefused, WellFormed}
use Rattle.form.proofs.RefusalLaws.{decide_policy}
use Rattle.rounds.specs.Endings.{Ending}
use Rattle.rounds.specs.Moves.{Move}
use Rattle.rounds.specs.Refusals.{Refusal, number, of_policy}
use Rattle.rounds.specs.RoundForm.{RoundForm, SessionForm}
use Rattle.rounds.specs.RoundTest.{round_refusal, session_refusal, session_tests}
use Rattle.rounds.specs.Rounds.{Outcome, decided, ends, refused, respond, round, turned_back, worked}
use Rattle.rounds.specs.Sessions.{Finished, Session, SoundSession}
use Rattle.rounds.specs.Theorems.{RoundNumbers}
use Rattle.rounds.proofs.AnswerLaws.{clash}
use Rattle.rounds.proofs.SessionLaws.{decides_open, decides_service, decides_sound, not_open_finished}

-- ---- the tests decide the form

decide_session : (s : Session) (m : Move) → DecideAll (session_tests s m) (SessionForm s m)
decide_session s m = (decides_service s.request, refl, (decides_sound s, refl, (decides_open s, refl, tt)))

pub session_none : (s : Session) (m : Move) → (session_refusal s m ≡ none) ↔ AllHold (SessionForm s m)
unfolding session_refusal
session_none s m =
    let i = first_none (relabelled number (session_tests s m)) (relabelled number (SessionForm s m))
    (decide_relabelled number (session_tests s m) (SessionForm s m) (decide_session s m)) in
    let h = hold_relabelled number (SessionForm s m) in
    (λ e. h.0 (i.0 e), λ x. i.1 (h.1 x))

module _ (bytes : List ℕ) (b : Bytes bytes) (s : Session) (m : Move) where
  abbrev of_policy_lem : List (Type 0 × Refusal)
  of_policy_lem = relabelled of_policy (PolicyForm bytes)

  abbrev of_session : List (Type 0 × Refusal)
  of_session = relabelled number (SessionForm s m)

  abbrev policy_tests_lem : List (Bool × Refusal)
  policy_tests_lem = relabelled of_policy (policy_tests bytes)

  abbrev session_tests_lem : List (Bool × Refusal)
  session_tests_lem = relabelled number (session_tests s m)

  decide_round : DecideAll (policy_tests_lem ++ session_tests_lem) (of_policy_lem ++ of_session)
  decide_round =
      decide_append policy_tests_lem session_tests_lem of_policy_lem of_session (decide_relabelled of_policy (policy_tests bytes) (PolicyForm bytes) (decide_policy bytes b))
      (decide_relabelled number (session_tests s m) (SessionForm s m) (decide_session s m))

  pub round_none : (round_refusal bytes s m ≡ none) ↔ AllHold (RoundForm bytes s m)
  unfolding round_refusal RoundForm
  round_none = first_none (policy_tests_lem ++ session_tests_lem) (of_policy_lem ++ of_session) decide_round

  pub round_some : (f : Refusal) → (round_refusal bytes s m ≡ some f) ↔ FirstBroken (RoundForm bytes s m) f
  unfolding round_refusal RoundForm
  round_some = first_some (policy_tests_lem ++ session_tests_lem) (of_policy_lem ++ of_session) decide_round

-- the policy's test, and then the session's
pub refusal_parts : (bytes : List ℕ) (s : Session) (m : Move)
    → round_refusal bytes s m ≡ or_else (map of_policy (policy_refusal bytes)) (session_refusal s m)
unfolding round_refusal session_refusal policy_refusal
refusal_parts bytes s m =
    first_append (relabelled of_policy (policy_tests bytes)) (relabelled number (session_tests s m))
    ∙ ap (λ (o : Option Refusal). or_else o (first_failed (relabelled number (session_tests s m)))) (first_relabelled of_policy (policy_tests bytes))

-- ---- the form of a round by its parts

-- an accepted policy and a sound open session
pub record Allowed (bytes : List ℕ) (s : Session) : Type 0 where
  pub policy : WellFormed bytes
  pub sound : SoundSession s
  pub unfinished : Finished s → ⊥

module _ (bytes : List ℕ) (s : Session) (m : Move) where
  pub allowed_iff : AllHold (RoundForm bytes s m) ↔ Allowed bytes s
  unfolding RoundForm WellFormed
  allowed_iff = (
    λ h.
        let (p, q) = both.0 h in
        let (v, (i, (o, _))) = session.0 q in
        record { policy = policy.0 p; sound = i; unfinished = o },
    λ a. both.1 (policy.1 a.policy, session.1 (a.sound.service, (a.sound, (a.unfinished, tt)))),
  )
    where
      both : AllHold (relabelled of_policy (PolicyForm bytes) ++ relabelled number (SessionForm s m))
          ↔ (AllHold (relabelled of_policy (PolicyForm bytes)) × AllHold (relabelled number (SessionForm s m)))
      both = hold_append (relabelled of_policy (PolicyForm bytes)) (relabelled number (SessionForm s m))

      policy : AllHold (relabelled of_policy (PolicyForm bytes)) ↔ AllHold (PolicyForm bytes)
      policy = hold_relabelled of_policy (PolicyForm bytes)

      session : AllHold (relabelled number (SessionForm s m)) ↔ AllHold (SessionForm s m)
      session = hold_relabelled number (SessionForm s m)

  -- refused by the policy's test, or by the session's under an accepted policy
  pub data Broken (f : Refusal) : Type 0 where
    by_policy : (g : W.Refusal) → PolicyRefused bytes g → f ≡ of_policy g → Broken f
    by_session : (n : ℕ) → WellFormed bytes → FirstBroken (SessionForm s m) n → f ≡ number n → Broken f

  pub broken_iff : (f : Refusal) → FirstBroken (RoundForm bytes s m) f ↔ Broken f
  unfolding RoundForm WellFormed PolicyRefused
  broken_iff f = (λ x. forth (cases.0 x), λ x. cases.1 (back x))
    where
      cases : FirstBroken (relabelled of_policy (PolicyForm bytes) ++ relabelled number (SessionForm s m)) f
          ↔ (FirstBroken (relabelled of_policy (PolicyForm bytes)) f
          ⊎ (AllHold (relabelled of_policy (PolicyForm bytes)) × FirstBroken (relabelled number (SessionForm s m)) f))
      cases = broken_append (relabelled of_policy (PolicyForm bytes)) (relabelled number (SessionForm s m)) f

      forth : FirstBroken (relabelled of_policy (PolicyForm bytes)) f
          ⊎ (AllHold (relabelled of_policy (PolicyForm bytes)) × FirstBroken (relabelled number (SessionForm s m)) f)
          → Broken f
      forth (inl x) = let (g, (y, e)) = (broken_relabelled of_policy (PolicyForm bytes) f).0 x in by_policy g y e
      forth (inr (h, x)) =
          let (n, (y, e)) = (broken_relabelled number (SessionForm s m) f).0 x in
          by_session n ((hold_relabelled of_policy (PolicyForm bytes)).0 h) y e

      back : Broken f → FirstBroken (relabelled of_policy (PolicyForm bytes)) f
          ⊎ (AllHold (relabelled of_policy (PolicyForm bytes)) × FirstBroken (relabelled number (SessionForm s m)) f)
      back (by_policy g y e) = inl ((broken_relabelled of_policy (PolicyForm bytes) f).1 (g, (y, e)))
      back (by_session n w y e) =
          inr ((hold_relabelled of_policy (PolicyForm bytes)).1 w, (broken_relabelled number (SessionForm s m) f).1 (n, (y, e)))

module _ (bytes : List ℕ) (b : Bytes bytes) (s : Session) (m : Move) where
  pub round_worked : WellFormed bytes → SoundSession s → (Finished s → ⊥) → round bytes s m ≡ decided s (worked (policy_of bytes) s m)
  unfolding round
  round_worked w h o =
      ap (λ (x : Option Refusal). respond x (policy_of bytes) s m)
      ((round_none bytes b s m).1 ((allowed_iff bytes s m).1 (record { policy = w; sound = h; unfinished = o })))

  pub round_refused : (f : Refusal) → FirstBroken (RoundForm bytes s m) f → round bytes s m ≡ turned_back s f
  unfolding round
  round_refused f x = ap (λ (x : Option Refusal). respond x (policy_of bytes) s m) ((round_some bytes b s m f).1 x)

  pub refused_closed : WellFormed bytes → SoundSession s → Finished s → round bytes s m ≡ turned_back s (number 9)
  refused_closed w h f =
      round_refused (number 9) ((broken_iff bytes s m (number 9)).1 (by_session 9 w (inr (h.service, inr (h, inl ((λ n. n f), refl)))) refl))

-- ---- a round is turned back, or decided

pub data RoundCase (bytes : List ℕ) (s : Session) (m : Move) (o : Outcome) : Type 0 where
  turned : (f : Refusal) → round_refusal bytes s m ≡ some f → o ≡ turned_back s f → RoundCase bytes s m o
  goes : round_refusal bytes s m ≡ none → o ≡ decided s (worked (policy_of bytes) s m) → RoundCase bytes s m o

module _ (bytes : List ℕ) (s : Session) (m : Move) where
  pub round_case : RoundCase bytes s m (round bytes s m)
  unfolding round
  round_case = go (round_refusal bytes s m) refl
    where
      go : (x : Option Refusal) → round_refusal bytes s m ≡ x → RoundCase bytes s m (respond x (policy_of bytes) s m)
      go none e = goes e refl
      go (some f) e = turned f e refl

  -- by the answer
  pub refused_unchanged : (f : Refusal) → (round bytes s m).answer ≡ refused f → (round bytes s m).session ≡ s
  refused_unchanged f e = go round_case
    where
      go : RoundCase bytes s m (round bytes s m) → (round bytes s m).session ≡ s
      go (turned g p is) = ap (λ (o : Outcome). o.session) is
      go (goes p is) =
          let a : ends (worked (policy_of bytes) s m).ended ≡ refused f = sym (ap (λ (o : Outcome). o.answer) is) ∙ e in
          clash (cc)

  pub accepted_counted : (e : Ending) → (round bytes s m).answer ≡ ends e → (round bytes s m).session.count ≡ suc s.count
  accepted_counted e h = go round_case
    where
      go : RoundCase bytes s m (round bytes s m) → (round bytes s m).session.count ≡ suc s.count
      go (turned g p is) =
          let a : refused g ≡ ends e = sym (ap (λ (o : Outcome). o.answer) is) ∙ h in
          clash (cc)
      go (goes p is) = ap (λ (o : Outcome). o.session.count) is

-- ---- the answer by the form, and when each number is given

module _ (bytes : List ℕ) (b : Bytes bytes) (s : Session) (m : Move) where
  pub refused_iff : (f : Refusal) → ((round bytes s m).answer ≡ refused f) ↔ FirstBroken (RoundForm bytes s m) f
  refused_iff f = (λ e. forth e (round_case bytes s m), λ x. ap (λ (o : Outcome). o.answer) (round_refused bytes b s m f x))
    where
      forth : (round bytes s m).answer ≡ refused f → RoundCase bytes s m (round bytes s m) → FirstBroken (RoundForm bytes s m) f
      forth e (turned g p is) =
          let a : refused g ≡ refused f = sym (ap (λ (o : Outcome). o.answer) is) ∙ e in
          let i : g ≡ f = cc in
          (round_some bytes b s m f).0 (p ∙ ap some i)
      forth e (goes p is) =
          let a : ends (worked (policy_of bytes) s m).ended ≡ refused f = sym (ap (λ (o : Outcome). o.answer) is) ∙ e in
          clash (cc)

  pub ends_iff : ((e : Ending) × ((round bytes s m).answer ≡ ends e)) ↔ AllHold (RoundForm bytes s m)
  ends_iff = (λ (e, a). forth e a (round_case bytes s m), back)
    where
      forth : (e : Ending) → (round bytes s m).answer ≡ ends e → RoundCase bytes s m (round bytes s m) → AllHold (RoundForm bytes s m)
      forth e a (turned g p is) =
          let c : refused g ≡ ends e = sym (ap (λ (o : Outcome). o.answer) is) ∙ a in
          clash (cc)
      forth e a (goes p is) = (round_none bytes b s m).0 p

      back : AllHold (RoundForm bytes s m) → (e : Ending) × ((round bytes s m).answer ≡ ends e)
      back h =
          let a = (allowed_iff bytes s m).0 h in (
            (worked (policy_of bytes) s m).ended,
            ap (λ (o : Outcome). o.answer) (round_worked bytes b s m a.policy a.sound a.unfinished),
          )

  -- the number at place i of the session's form
  rising : Rising 7 (SessionForm s m)
  rising = (omega arith, (omega arith, (omega arith, tt)))

  number_iff : (n : ℕ) → ((round bytes s m).answer ≡ refused (number n)) ↔ (WellFormed bytes × FirstBroken (SessionForm s m) n)
  number_iff n = (
    λ e. forth ((broken_iff bytes s m (number n)).0 ((refused_iff (number n)).0 e)),
    λ (w, x). (refused_iff (number n)).1 ((broken_iff bytes s m (number n)).1 (by_session n w x refl)),
  )
    where
      forth : Broken bytes s m (number n) → WellFormed bytes × FirstBroken (SessionForm s m) n
      forth (by_policy g x e) = clash (cc)
      forth (by_session k w x e) = let i : k ≡ n = cc in (w, subst (FirstBroken (SessionForm s m)) i x)

  policy_iff : (f : W.Refusal) → ((round bytes s m).answer ≡ refused (of_policy f)) ↔ PolicyRefused bytes f
  policy_iff f = (
    λ e. forth ((broken_iff bytes s m (of_policy f)).0 ((refused_iff (of_policy f)).0 e)),
    λ x. (refused_iff (of_policy f)).1 ((broken_iff bytes s m (of_policy f)).1 (by_policy f x refl)),
  )
    where
      forth : Broken bytes s m (of_policy f) → PolicyRefused bytes f
      forth (by_policy g x e) = let i : g ≡ f = cc in subst (PolicyRefused bytes) i x
      forth (by_session k w x e) = clash (cc)

  pub numbers : RoundNumbers bytes s (round bytes s m)
  numbers = record {
    policy = policy_iff;
    request = let i = number_iff 7 in (λ e. let (w, x) = i.0 e in (w, (broken_at 7 (SessionForm s m) rising 0 (omega arith)).0 x), λ (w, n). i.1 (w, (broken_at 7 (SessionForm s m) rising 0 (omega arith)).1 n));
    unsound = let i = number_iff 8 in (
      λ e. let (w, x) = i.0 e in (w, (broken_at 7 (SessionForm s m) rising 1 (omega arith)).0 x),
      λ (w, h). i.1 (w, (broken_at 7 (SessionForm s m) rising 1 (omega arith)).1 h),
    );
    finished = let i = number_iff 9 in (
      λ e. let (w, x) = i.0 e in let (v, (h, n)) = (broken_at 7 (SessionForm s m) rising 2 (omega arith)).0 x in (w, (h, not_open_finished s n)),
      λ (w, (h, f)). i.1 (w, (broken_at 7 (SessionForm s m) rising 2 (omega arith)).1 (h.service, (h, λ g. g f))),
    );
    accepted = (
      λ e. let a = (allowed_iff bytes s m).0 (ends_iff.0 e) in (a.policy, (a.sound, a.unfinished)),
      λ (w, (h, o)). ends_iff.1 ((allowed_iff bytes s m).1 (record { policy = w; sound = h; unfinished = o })),
    );
    only = λ n e. broken_every (λ k. (7 ≤ k) × (k ≤ 9)) (SessionForm s m) (omega arith, (omega arith, (omega arith, tt))) n ((number_iff n).0 e).1;
  }
