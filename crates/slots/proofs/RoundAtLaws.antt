-- A round at a slot: what it answers, and what it leaves. Assumes nothing.
use mathlib.Core.Path.{◌∙◌, ◌≡◌, ap, refl, subst, sym}
use mathlib.Core.Bool.{Bool, cond, false, true, true≢false}
use mathlib.Core.List.{List, [], ◌∷◌}
use Prim.Native.Nat.{◌<◌, ◌^◌, ℕ}
use lib.ListN.{length, length-set, set}
use lib.Seq.{get_or-set_other, set-get_or}
use Rattle.encoding.specs.LittleEndian.{Bytes}
use Rattle.rounds.specs.Moves.{Move}
use Rattle.rounds.specs.Refusals.{Refusal}
use Rattle.rounds.specs.RoundForm.{SessionForm}
use Rattle.rounds.specs.Rounds.{Answer, refused, round}
use Rattle.rounds.specs.Sessions.{Session}
use Rattle.rounds.proofs.RefusalLaws.{refused_unchanged}
use Rattle.demands.specs.Promises.{RoundMeets}
use Rattle.demands.proofs.VisitProof as visits
use Rattle.slots.specs.Meanings.{RoundAtMeets}
use Rattle.slots.specs.Openings.{Reply}
use Rattle.slots.specs.RoundsAt.{held_by, put_back, refused_by, round_at, slot_round}
use Rattle.slots.specs.SlotForm.{RoundAtForm, SlotForm}
use Rattle.slots.specs.Slots.{InTable, Slot, held, in_table, slot_at, vacant}
use Rattle.slots.specs.Theorems.{Fits}
use Rattle.slots.proofs.FreeLaws.{decides_in_table}
use Rattle.slots.proofs.PolicyFirstLaws.{Alike, Answers, answers_alike, first_fails, first_holds, refusal_answers, session_answers}

-- what a round at slot i is held to beside the policy
abbrev pub Rest : List Slot → ℕ → Move → List (Type 0 × ℕ)
Rest xs i m = (InTable xs i, 14) ∷ SlotForm (slot_at xs i) m

module _ (bytes : List ℕ) (xs : List Slot) (i : ℕ) (m : Move) where
  -- ---- the three ways

  data RoundAtCase (g : Reply Answer) : Type 0 where
    outside : (InTable xs i → ⊥) → g ≡ record { answer = refused_by bytes 14; table = xs } → RoundAtCase g
    empty : InTable xs i → slot_at xs i ≡ vacant → g ≡ record { answer = refused_by bytes 8; table = xs } → RoundAtCase g
    holds : (o : ℕ) (s : Session) → InTable xs i → slot_at xs i ≡ held o s → g ≡ put_back xs i (held_by o (round bytes s m)) → RoundAtCase g

  -- what is put back unchanged changes nothing
  same_slot : (x : Slot) → slot_at xs i ≡ x → set xs i x ≡ xs
  same_slot x e = ap (set xs i) (sym e) ∙ set-get_or xs i vacant

  round_at-case : RoundAtCase (round_at bytes xs i m)
  unfolding round_at slot_round
  round_at-case = go (in_table xs i) refl (slot_at xs i) refl
    where
      go : (b : Bool) → in_table xs i ≡ b → (x : Slot) → slot_at xs i ≡ x
          → RoundAtCase (cond b (put_back xs i (slot_round bytes x m)) (record { answer = refused_by bytes 14; table = xs }))
      go false e x d = outside (λ h. true≢false (sym ((decides_in_table xs i).1 h) ∙ e)) refl
      go true e vacant d =
          empty ((decides_in_table xs i).0 e) d (ap (λ (ys : List Slot). record { answer = refused_by bytes 8; table = ys }) (same_slot vacant d))
      go true e (held o s) d = holds o s ((decides_in_table xs i).0 e) d refl

  pub round_held : (o : ℕ) (s : Session) → InTable xs i → slot_at xs i ≡ held o s → round_at bytes xs i m ≡ put_back xs i (held_by o (round bytes s m))
  unfolding round_at slot_round
  round_held o s h d =
      ap (λ (b : Bool). cond b (put_back xs i (slot_round bytes (slot_at xs i) m)) (record { answer = refused_by bytes 14; table = xs }))
      ((decides_in_table xs i).1 h)
      ∙ ap (λ (x : Slot). put_back xs i (slot_round bytes x m)) d

  -- ---- the answer

  inside : InTable xs i → (x : Slot) → slot_at xs i ≡ x → Alike (Rest xs i m) (SlotForm x m)
  inside h x d = subst (λ (y : Slot). Alike (Rest xs i m) (SlotForm y m)) d (first_holds (InTable xs i) 14 (SlotForm (slot_at xs i) m) h)

  pub round_at-answers : Bytes bytes → Answers bytes (Rest xs i m) (round_at bytes xs i m).answer
  round_at-answers b = go round_at-case
    where
      by : (ls : List (Type 0 × ℕ)) (a : Answer) → Alike (Rest xs i m) ls → Answers bytes ls a → (round_at bytes xs i m).answer ≡ a
          → Answers bytes (Rest xs i m) (round_at bytes xs i m).answer
      by ls a s h e = subst (Answers bytes (Rest xs i m)) (sym e) (answers_alike bytes (Rest xs i m) ls a s h)

      go : RoundAtCase (round_at bytes xs i m) → Answers bytes (Rest xs i m) (round_at bytes xs i m).answer
      go (outside n is) =
          by ((⊥, 14) ∷ []) (refused_by bytes 14) (first_fails (InTable xs i) 14 (SlotForm (slot_at xs i) m) n) (refusal_answers bytes b 14)
          (ap (λ (g : Reply Answer). g.answer) is)
      go (empty h d is) =
          by ((⊥, 8) ∷ []) (refused_by bytes 8) (inside h vacant d) (refusal_answers bytes b 8) (ap (λ (g : Reply Answer). g.answer) is)
      go (holds o s h d is) =
          by (SessionForm s m) (round bytes s m).answer (inside h (held o s) d) (session_answers bytes b s m)
          (ap (λ (g : Reply Answer). g.answer) is)

  -- ---- the list

  refusal_leaves : (f : Refusal) → (round_at bytes xs i m).answer ≡ refused f → (round_at bytes xs i m).table ≡ xs
  refusal_leaves f a = go round_at-case
    where
      go : RoundAtCase (round_at bytes xs i m) → (round_at bytes xs i m).table ≡ xs
      go (outside n is) = ap (λ (g : Reply Answer). g.table) is
      go (empty h d is) = ap (λ (g : Reply Answer). g.table) is
      go (holds o s h d is) =
          let e : (round bytes s m).answer ≡ refused f = sym (ap (λ (g : Reply Answer). g.answer) is) ∙ a in
          ap (λ (g : Reply Answer). g.table) is ∙ ap (λ (t : Session). set xs i (held o t)) (refused_unchanged bytes s m f e)
          ∙ same_slot (held o s) d

  -- one slot is set, or none
  set_or_left : (P : List Slot → Type 0) → P xs → ((x : Slot) → P (set xs i x)) → P (round_at bytes xs i m).table
  set_or_left P left set-one = go round_at-case
    where
      go : RoundAtCase (round_at bytes xs i m) → P (round_at bytes xs i m).table
      go (outside n is) = subst (λ (g : Reply Answer). P g.table) (sym is) left
      go (empty h d is) = subst (λ (g : Reply Answer). P g.table) (sym is) left
      go (holds o s h d is) = subst (λ (g : Reply Answer). P g.table) (sym is) (set-one (held o (round bytes s m).session))

pub round_at-meets : (bytes : List ℕ) → Bytes bytes → (xs : List Slot) (i : ℕ) (m : Move) → (InTable xs i → Fits (slot_at xs i) × (m.shows < 2 ^ 16))
    → RoundAtMeets bytes xs i m (round_at bytes xs i m)
unfolding RoundAtForm
round_at-meets bytes b xs i m f = record {
  accepts = (round_at-answers bytes xs i m b).accepts;
  refuses = (round_at-answers bytes xs i m b).refuses;
  unchanged = refusal_leaves bytes xs i m;
  round = λ o s h d.
      let is = round_held bytes xs i m o s h d in (
        (round bytes s m).session,
        (
          subst (λ (g : Reply Answer). RoundMeets bytes s m (record { answer = g.answer; session = (round bytes s m).session })) (sym is)
              (visits.round_meets bytes b s (subst Fits d (f h).0) m (f h).1),
          ap (λ (g : Reply Answer). g.table) is,
        ),
      );
  others = λ k n. set_or_left bytes xs i m (λ (ys : List Slot). slot_at ys k ≡ slot_at xs k) refl (λ x. get_or-set_other xs i k x vacant n);
  as_long = set_or_left bytes xs i m (λ (ys : List Slot). length ys ≡ length xs) refl (length-set xs i);
}
