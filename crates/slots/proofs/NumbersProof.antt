-- When an opening and a round at a slot are answered how, by the number. Assumes nothing.
use mathlib.Core.Path.{◌≡◌, refl, subst, sym}
use mathlib.Core.Logic.{◌↔◌, ◌⊎◌, inl, inr}
use mathlib.Core.List.{List, ◌∷◌}
use mathlib.Core.Option.{some}
use Prim.Native.Nat.{◌<◌, ◌≤◌, ℕ}
use lib.ListN.{length}
use native.Mathlib.Omega.{arith}
use Rattle.encoding.specs.LittleEndian.{Bytes}
use Rattle.validation.specs.Statements.{AllHold, FirstBroken}
use Rattle.validation.proofs.FirstLaws.{broken_relabelled}
use Rattle.validation.proofs.NumberLaws.{Rising, broken_at, broken_every}
use Rattle.form.specs.WrittenForm.{WellFormed}
use Rattle.rounds.specs.Moves.{Move}
use Rattle.rounds.specs.Refusals.{Refusal, number}
use Rattle.rounds.specs.RoundForm.{SessionForm}
use Rattle.rounds.specs.Rounds.{Answer, refused, round}
use Rattle.rounds.specs.Sessions.{Finished, Session, SoundSession}
use Rattle.rounds.proofs.AnswerLaws.{clash}
use Rattle.rounds.proofs.RefusalLaws.{numbers}
use Rattle.slots.specs.Openings.{Reply, open_at}
use Rattle.slots.specs.RoundsAt.{round_at}
use Rattle.slots.specs.SlotForm.{OpeningForm, SlotForm}
use Rattle.slots.specs.Slots.{InTable, Slot, held, slot_at, vacant}
use Rattle.slots.specs.Theorems.{OpeningNumbers, RoundAtNumbers}
use Rattle.slots.proofs.CountLaws.{not_fewer}
use Rattle.slots.proofs.FreeLaws.{not_free, outside}
use Rattle.slots.proofs.OpeningLaws.{accepts_iff, refuses_iff}
use Rattle.slots.proofs.PolicyFirstLaws.{Answers, accepted_iff, number_iff, policy_iff}
use Rattle.slots.proofs.RoundAtLaws.{Rest, round_at-answers, round_held}

-- ---- openings

module _ (xs : List Slot) (i o r : ℕ) where
  rising : Rising 7 (OpeningForm xs i o r)
  rising = (omega arith, (omega arith, (omega arith, (omega arith, tt))))

  refusal_iff : (n : ℕ) → ((open_at xs i o r).answer ≡ some (number n)) ↔ FirstBroken (OpeningForm xs i o r) n
  refusal_iff n =
      let j = broken_relabelled number (OpeningForm xs i o r) (number n) in (
        λ e.
            let (k, (x, d)) = j.0 ((refuses_iff xs i o r (number n)).0 e) in
            let same : k ≡ n = cc in
            subst (FirstBroken (OpeningForm xs i o r)) same x,
        λ x. (refuses_iff xs i o r (number n)).1 (j.1 (n, (x, refl))),
      )

  pub opening_numbers : OpeningNumbers xs i o r (open_at xs i o r)
  opening_numbers = record {
    request = let j = refusal_iff 7 in let k = broken_at 7 (OpeningForm xs i o r) rising 0 (omega arith) in (λ e. k.0 (j.0 e), λ n. j.1 (k.1 n));
    no_slot = let j = refusal_iff 14 in let k = broken_at 7 (OpeningForm xs i o r) rising 1 (omega arith) in (
      λ e. let (v, n) = k.0 (j.0 e) in (v, (outside xs i).0 n),
      λ (v, n). j.1 (k.1 (v, (outside xs i).1 n)),
    );
    unfinished_one = let j = refusal_iff 15 in let k = broken_at 7 (OpeningForm xs i o r) rising 2 (omega arith) in (
      λ e. let (v, (h, n)) = k.0 (j.0 e) in (v, (h, (not_free (slot_at xs i)).1 n)),
      λ (v, (h, u)). j.1 (k.1 (v, (h, (not_free (slot_at xs i)).0 u))),
    );
    full = let j = refusal_iff 16 in let k = broken_at 7 (OpeningForm xs i o r) rising 3 (omega arith) in (
      λ e. let (v, (h, (f, n))) = k.0 (j.0 e) in (v, (h, (f, not_fewer o xs 64 4 n))),
      λ (v, (h, (f, w))). j.1 (k.1 (v, (h, (f, λ n. n w)))),
    );
    accepted = let j = accepts_iff xs i o r in (
      λ e. let (v, (h, (f, (n, _)))) = j.0 e in (v, (h, (f, n))),
      λ (v, (h, (f, n))). j.1 (v, (h, (f, (n, tt)))),
    );
    only = λ f e.
        let (n, (x, d)) = (broken_relabelled number (OpeningForm xs i o r) f).0 ((refuses_iff xs i o r f).0 e) in
        subst Allowed (sym d) (broken_every (λ (n : ℕ). Allowed (number n)) (OpeningForm xs i o r) numbered n x);
  }
    where
      Allowed : Refusal → Type 0
      Allowed f = ((f ≡ number 7) ⊎ (f ≡ number 14)) ⊎ ((f ≡ number 15) ⊎ (f ≡ number 16))

      numbered : Allowed (number 7) × (Allowed (number 14) × (Allowed (number 15) × (Allowed (number 16) × Unit {0})))
      numbered = (inl (inl refl), (inl (inr refl), (inr (inl refl), (inr (inr refl), tt))))

-- ---- rounds

-- an empty slot gives 8, and a session 7 to 9
slot_numbers : (x : Slot) (m : Move) (n : ℕ) → FirstBroken (SlotForm x m) n → (7 ≤ n) × (n ≤ 9)
slot_numbers vacant m = broken_every (λ (k : ℕ). (7 ≤ k) × (k ≤ 9)) (SlotForm vacant m) ((omega arith, omega arith), tt)
slot_numbers (held o s) m =
    broken_every (λ (k : ℕ). (7 ≤ k) × (k ≤ 9)) (SessionForm s m) ((omega arith, omega arith), ((omega arith, omega arith), ((omega arith, omega arith), tt)))

slot_holds : (x : Slot) (m : Move)
    → AllHold (SlotForm x m) ↔ ((o : ℕ) × ((s : Session) × ((x ≡ held o s) × (SoundSession s × (Finished s → ⊥)))))
slot_holds vacant m = (λ h. absurd h.0, λ (o, (s, (e, _))). clash (cc))
slot_holds (held o s) m = (
  λ (v, (h, (f, _))). (o, (s, (refl, (h, f)))),
  λ (p, (t, (e, (h, f)))).
      let k : t ≡ s = cc in
      let i = subst SoundSession k h in
      (i.service, (i, (subst (λ (t : Session). Finished t → ⊥) k f, tt))),
)

module _ (bytes : List ℕ) (b : Bytes bytes) (xs : List Slot) (i : ℕ) (m : Move) where
  abbrev answers : Answers bytes (Rest xs i m) (round_at bytes xs i m).answer
  answers = round_at-answers bytes xs i m b

  by_number : (n : ℕ) → ((round_at bytes xs i m).answer ≡ refused (number n)) ↔ (WellFormed bytes × FirstBroken (Rest xs i m) n)
  by_number = number_iff bytes (Rest xs i m) (round_at bytes xs i m).answer answers

  pub round_at-numbers : RoundAtNumbers bytes xs i (round_at bytes xs i m)
  round_at-numbers = record {
    policy = policy_iff bytes (Rest xs i m) (round_at bytes xs i m).answer answers;
    no_slot = (λ e. let (w, x) = (by_number 14).0 e in (w, past x), λ (w, n). (by_number 14).1 (w, inl ((outside xs i).1 n, refl)));
    empty = λ h d. (λ e. ((by_number 8).0 e).0, λ w. (by_number 8).1 (w, inr (h, empty d)));
    request = λ o s h d. session o s h d 7 (numbers bytes b s m).request;
    unsound = λ o s h d. session o s h d 8 (numbers bytes b s m).unsound;
    finished = λ o s h d. session o s h d 9 (numbers bytes b s m).finished;
    accepted = let j = accepted_iff bytes (Rest xs i m) (round_at bytes xs i m).answer answers in let k = slot_holds (slot_at xs i) m in (
      λ e. let (w, (h, x)) = j.0 e in (w, (h, k.0 x)),
      λ (w, (h, x)). j.1 (w, (h, k.1 x)),
    );
    only = λ n e. only_these n ((by_number n).0 e).1;
  }
    where
      session : (o : ℕ) (s : Session) → InTable xs i → slot_at xs i ≡ held o s → (n : ℕ) {K : Type 0}
          → ((round bytes s m).answer ≡ refused (number n)) ↔ K → ((round_at bytes xs i m).answer ≡ refused (number n)) ↔ K
      session o s h d n {K} = subst (λ (g : Reply Answer). (g.answer ≡ refused (number n)) ↔ K) (sym (round_held bytes xs i m o s h d))

      past : FirstBroken ((InTable xs i, 14) ∷ SlotForm (slot_at xs i) m) 14 → (length xs ≤ i) ⊎ (63 < i)
      past (inl (n, _)) = (outside xs i).0 n
      past (inr (_, x)) = let (_, l) = slot_numbers (slot_at xs i) m 14 x in absurd (omega (arith, l))

      empty : slot_at xs i ≡ vacant → FirstBroken (SlotForm (slot_at xs i) m) 8
      empty d = subst (λ (x : Slot). FirstBroken (SlotForm x m) 8) (sym d) (inl ((λ z. z), refl))

      only_these : (n : ℕ) → FirstBroken ((InTable xs i, 14) ∷ SlotForm (slot_at xs i) m) n → ((7 ≤ n) × (n ≤ 9)) ⊎ (n ≡ 14)
      only_these n (inl (_, e)) = inr e
      only_these n (inr (_, x)) = inl (slot_numbers (slot_at xs i) m n x)
