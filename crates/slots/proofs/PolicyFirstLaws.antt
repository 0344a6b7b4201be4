-- Forms that begin with the policy's statements, and the answers that are given by them. Assumes nothing.
use mathlib.Core.Path.{◌∙◌, ◌≡◌, ap, refl, subst, sym}
use mathlib.Core.Logic.{◌↔◌, ◌⊎◌, inl, inr}
use mathlib.Core.List.{List, [], ◌++◌, ◌∷◌}
use mathlib.Core.Option.{Option, none, some}
use Prim.Native.Nat.{ℕ}
use Rattle.encoding.specs.LittleEndian.{Bytes}
use Rattle.validation.specs.Statements.{AllHold, FirstBroken}
use Rattle.validation.specs.Tests.{relabelled}
use Rattle.validation.proofs.FirstLaws.{broken_append, broken_relabelled, hold_append, hold_relabelled}
use Rattle.form.specs.PolicyTest.{policy_refusal}
use Rattle.form.specs.Theorems.{Tested}
use Rattle.form.specs.WrittenForm as W
use Rattle.form.specs.WrittenForm.{PolicyForm, PolicyRefused, WellFormed}
use Rattle.form.proofs.RefusalLaws.{tested}
use Rattle.rounds.specs.Endings.{Ending}
use Rattle.rounds.specs.Moves.{Move}
use Rattle.rounds.specs.Refusals.{Refusal, number, of_policy}
use Rattle.rounds.specs.RoundForm.{RoundForm, SessionForm}
use Rattle.rounds.specs.Rounds.{Answer, ends, refused, round}
use Rattle.rounds.specs.Sessions.{Session}
use Rattle.rounds.proofs.AnswerLaws.{clash}
use Rattle.rounds.proofs.RefusalLaws.{ends_iff, refused_iff}
use Rattle.slots.specs.RoundsAt.{policy_or, refused_by}

-- the policy's statements, and then others
abbrev PolicyThen : List ℕ → List (Type 0 × ℕ) → List (Type 0 × Refusal)
PolicyThen bytes ks = relabelled of_policy (PolicyForm bytes) ++ relabelled number ks

-- the answer a is the one that the form gives
pub record Answers (bytes : List ℕ) (ks : List (Type 0 × ℕ)) (a : Answer) : Type 0 where
  pub accepts : ((e : Ending) × (a ≡ ends e)) ↔ AllHold (PolicyThen bytes ks)
  pub refuses : (f : Refusal) → (a ≡ refused f) ↔ FirstBroken (PolicyThen bytes ks) f

-- ---- by its parts

module _ (bytes : List ℕ) (ks : List (Type 0 × ℕ)) where
  hold_parts : AllHold (PolicyThen bytes ks) ↔ (WellFormed bytes × AllHold ks)
  unfolding WellFormed
  hold_parts =
      let both = hold_append (relabelled of_policy (PolicyForm bytes)) (relabelled number ks) in
      let policy = hold_relabelled of_policy (PolicyForm bytes) in
      let rest = hold_relabelled number ks in
      (λ h. let (p, q) = both.0 h in (policy.0 p, rest.0 q), λ (p, q). both.1 (policy.1 p, rest.1 q))

  data Broken (f : Refusal) : Type 0 where
    by_policy : (g : W.Refusal) → PolicyRefused bytes g → f ≡ of_policy g → Broken f
    by_number : (n : ℕ) → WellFormed bytes → FirstBroken ks n → f ≡ number n → Broken f

  broken_parts : (f : Refusal) → FirstBroken (PolicyThen bytes ks) f ↔ Broken f
  unfolding WellFormed PolicyRefused
  broken_parts f = (λ x. forth (cases.0 x), λ x. cases.1 (back x))
    where
      Cases : Type 0
      Cases = FirstBroken (relabelled of_policy (PolicyForm bytes)) f
          ⊎ (AllHold (relabelled of_policy (PolicyForm bytes)) × FirstBroken (relabelled number ks) f)

      cases : FirstBroken (PolicyThen bytes ks) f ↔ Cases
      cases = broken_append (relabelled of_policy (PolicyForm bytes)) (relabelled number ks) f

      forth : Cases → Broken f
      forth (inl x) = let (g, (y, e)) = (broken_relabelled of_policy (PolicyForm bytes) f).0 x in by_policy g y e
      forth (inr (h, x)) =
          let (n, (y, e)) = (broken_relabelled number ks f).0 x in
          by_number n ((hold_relabelled of_policy (PolicyForm bytes)).0 h) y e

      back : Broken f → Cases
      back (by_policy g y e) = inl ((broken_relabelled of_policy (PolicyForm bytes) f).1 (g, (y, e)))
      back (by_number n w y e) = inr ((hold_relabelled of_policy (PolicyForm bytes)).1 w, (broken_relabelled number ks f).1 (n, (y, e)))

module _ (bytes : List ℕ) (ks : List (Type 0 × ℕ)) (a : Answer) (h : Answers bytes ks a) where
  pub accepted_iff : ((e : Ending) × (a ≡ ends e)) ↔ (WellFormed bytes × AllHold ks)
  accepted_iff = let i = hold_parts bytes ks in (λ e. i.0 (h.accepts.0 e), λ x. h.accepts.1 (i.1 x))

  pub policy_iff : (f : W.Refusal) → (a ≡ refused (of_policy f)) ↔ PolicyRefused bytes f
  policy_iff f = let i = broken_parts bytes ks (of_policy f) in (
    λ e. forth (i.0 ((h.refuses (of_policy f)).0 e)),
    λ x. (h.refuses (of_policy f)).1 (i.1 (by_policy f x refl)),
  )
    where
      forth : Broken bytes ks (of_policy f) → PolicyRefused bytes f
      forth (by_policy g x e) = let i : g ≡ f = cc in subst (PolicyRefused bytes) i x
      forth (by_number n w x e) = clash (cc)

  pub number_iff : (n : ℕ) → (a ≡ refused (number n)) ↔ (WellFormed bytes × FirstBroken ks n)
  number_iff n = let i = broken_parts bytes ks (number n) in (
    λ e. forth (i.0 ((h.refuses (number n)).0 e)),
    λ (w, x). (h.refuses (number n)).1 (i.1 (by_number n w x refl)),
  )
    where
      forth : Broken bytes ks (number n) → WellFormed bytes × FirstBroken ks n
      forth (by_policy g x e) = clash (cc)
      forth (by_number k w x e) = let i : k ≡ n = cc in (w, subst (FirstBroken ks) i x)

-- ---- forms that say the same

pub record Alike (ks ls : List (Type 0 × ℕ)) : Type 0 where
  pub hold : AllHold ks ↔ AllHold ls
  pub broken : (n : ℕ) → FirstBroken ks n ↔ FirstBroken ls n

module _ (K : Type 0) (n : ℕ) (ks : List (Type 0 × ℕ)) where
  -- where the first holds, the others
  pub first_holds : K → Alike ((K, n) ∷ ks) ks
  first_holds h = record { hold = (λ x. x.1, λ x. (h, x)); broken = λ k. (forth k, λ x. inr (h, x)) }
    where
      forth : (k : ℕ) → FirstBroken ((K, n) ∷ ks) k → FirstBroken ks k
      forth k (inl (d, _)) = absurd (d h)
      forth k (inr (_, x)) = x

  -- where it does not, no other
  pub first_fails : (K → ⊥) → Alike ((K, n) ∷ ks) ((⊥, n) ∷ [])
  first_fails d = record { hold = (λ x. absurd (d x.0), λ x. absurd x.0); broken = λ k. (forth k, back k) }
    where
      forth : (k : ℕ) → FirstBroken ((K, n) ∷ ks) k → FirstBroken ((⊥, n) ∷ []) k
      forth k (inl (_, e)) = inl ((λ z. z), e)
      forth k (inr (h, _)) = absurd (d h)

      back : (k : ℕ) → FirstBroken ((⊥, n) ∷ []) k → FirstBroken ((K, n) ∷ ks) k
      back k (inl (_, e)) = inl (d, e)
      back k (inr (z, _)) = absurd z

pub answers_alike : (bytes : List ℕ) (ks ls : List (Type 0 × ℕ)) (a : Answer) → Alike ks ls → Answers bytes ls a → Answers bytes ks a
answers_alike bytes ks ls a s h = record {
  accepts = let i = accepted_iff bytes ls a h in let j = hold_parts bytes ks in (
    λ e. let (w, x) = i.0 e in j.1 (w, s.hold.1 x),
    λ x. let (w, y) = j.0 x in i.1 (w, s.hold.0 y),
  );
  refuses = λ f. let i = broken_parts bytes ks f in let j = broken_parts bytes ls f in (
    λ e. i.1 (back f (j.0 ((h.refuses f).0 e))),
    λ x. (h.refuses f).1 (j.1 (forth f (i.0 x))),
  );
}
  where
    forth : (f : Refusal) → Broken bytes ks f → Broken bytes ls f
    forth f (by_policy g x e) = by_policy g x e
    forth f (by_number n w x e) = by_number n w ((s.broken n).0 x) e

    back : (f : Refusal) → Broken bytes ls f → Broken bytes ks f
    back f (by_policy g x e) = by_policy g x e
    back f (by_number n w x e) = by_number n w ((s.broken n).1 x) e

-- ---- the answers of a refusal by number, and of a session's round

module _ (bytes : List ℕ) (b : Bytes bytes) where
  pub refusal_answers : (n : ℕ) → Answers bytes ((⊥, n) ∷ []) (refused_by bytes n)
  unfolding refused_by
  refusal_answers n = record {
    accepts = (λ (e, x). clash (cc), λ x. absurd ((hold_parts bytes ((⊥, n) ∷ [])).0 x).1.0);
    refuses = λ f. let i = broken_parts bytes ((⊥, n) ∷ []) f in (
      λ e. i.1 (forth f (policy_refusal bytes) (tested bytes b) e),
      λ x. back f (policy_refusal bytes) (tested bytes b) (i.0 x),
    );
  }
    where
      forth : (f : Refusal) (x : Option W.Refusal) → Tested bytes x → refused (policy_or x (number n)) ≡ refused f → Broken bytes ((⊥, n) ∷ []) f
      forth f none t e = by_number n (t.accepts.0 refl) (inl ((λ z. z), refl)) (cc)
      forth f (some g) t e = by_policy g ((t.refuses g).0 refl) (cc)

      back : (f : Refusal) (x : Option W.Refusal) → Tested bytes x → Broken bytes ((⊥, n) ∷ []) f → refused (policy_or x (number n)) ≡ refused f
      back f x t (by_policy g y e) = ap (λ (z : Option W.Refusal). refused (policy_or z (number n))) ((t.refuses g).1 y) ∙ ap refused (sym e)
      back f x t (by_number k w (inl (_, i)) e) =
          ap (λ (z : Option W.Refusal). refused (policy_or z (number n))) (t.accepts.1 w) ∙ ap refused (ap number (sym i) ∙ sym e)
      back f x t (by_number k w (inr (z, _)) e) = absurd z

  pub session_answers : (s : Session) (m : Move) → Answers bytes (SessionForm s m) (round bytes s m).answer
  unfolding RoundForm
  session_answers s m = record { accepts = ends_iff bytes b s m; refuses = refused_iff bytes b s m }
