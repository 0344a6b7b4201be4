-- A preview of a round at a slot: what it gives, and what the round gives afterwards. Assumes nothing.
use mathlib.Core.Path.{◌∙◌, ◌≡◌, ap, refl, subst, sym}
use mathlib.Core.Logic.{◌↔◌, ◌⊎◌, inl, inr}
use mathlib.Core.Bool.{Bool, ◌&&◌, cond, false, true, true≢false}
use mathlib.Core.List.{List}
use mathlib.Core.Option.{Option, none, some}
use Prim.Native.Nat.{◌<◌, ◌^◌, ℕ}
use lib.Dec.{ltb}
use lib.ListN.{length-set, length-take, set, take}
use lib.Seq.{get_or-set_same, get_or-take, set-get_or}
use native.Mathlib.Omega.{arith}
use Rattle.encoding.specs.LittleEndian.{Bytes}
use Rattle.validation.proofs.DecideLaws.{same_decision}
use Rattle.rounds.specs.Moves.{Move}
use Rattle.rounds.specs.Rounds.{Answer, round}
use Rattle.rounds.specs.Sessions.{Session}
use Rattle.rounds.proofs.AnswerLaws.{clash}
use Rattle.rounds.proofs.RefusalLaws.{refused_unchanged}
use Rattle.demands.specs.Promises.{RoundMeets}
use Rattle.demands.proofs.VisitProof as visits
use Rattle.slots.specs.Openings.{Reply}
use Rattle.slots.specs.RoundsAt.{put_back, refused_by, round_at, slot_round}
use Rattle.slots.specs.Slots.{InTable, Slot, held, in_table, slot_at, slot_limit, vacant}
use Rattle.slots.specs.Theorems.{Fits, RoundAtNumbers}
use Rattle.slots.proofs.FreeLaws.{decides_in_table}
use Rattle.slots.proofs.NumbersProof.{round_at-numbers}
use Rattle.slots.proofs.RoundAtLaws.{round_at-meets}
use Rattle.slots.proofs.TableLaws.{RoundAtCase, inside as there, outside as no_slot, round_at-case}
use Rattle.previews.specs.Meanings.{PreviewMeets, RoundAfter}
use Rattle.previews.specs.Previews.{Preview, preview_at, preview_slot, session_at, session_held}

-- where there is no such slot
abbrev pub past_preview : List ℕ → Preview
past_preview bytes = record { answer = refused_by bytes 14; session = none }

-- ---- from one slot

module _ (bytes : List ℕ) (i : ℕ) (m : Move) where
  -- by whether there is such a slot, and what it holds
  pub preview_by : Bool → Slot → Preview
  preview_by b x = cond b (preview_slot bytes x m) (past_preview bytes)

  -- the session at a slot that was set
  session_set : (xs : List Slot) (x : Slot) → InTable xs i → in_table xs i ≡ true → session_at (set xs i x) i ≡ session_held x
  unfolding session_at
  session_set xs x h e =
      ap (λ (n : ℕ). cond (ltb i n && ltb i slot_limit) (session_held (slot_at (set xs i x) i)) none) (length-set xs i x)
      ∙ ap (λ (b : Bool). cond b (session_held (slot_at (set xs i x) i)) none) e ∙ ap session_held (get_or-set_same xs i x vacant h.0)

  pub by_slot : (xs : List Slot) → preview_at bytes xs i m ≡ preview_by (in_table xs i) (slot_at xs i)
  unfolding preview_at round_at session_at preview_slot preview_by
  by_slot xs = go (in_table xs i) refl
    where
      shown : Reply Answer → Preview
      shown g = record { answer = g.answer; session = session_at g.table i }

      go : (b : Bool) → in_table xs i ≡ b
          → shown (cond b (put_back xs i (slot_round bytes (slot_at xs i) m)) (record { answer = refused_by bytes 14; table = xs })) ≡ preview_by b (slot_at xs i)
      go true e =
          ap (λ (u : Option Session). record { answer = (slot_round bytes (slot_at xs i) m).answer; session = u })
          (session_set xs (slot_round bytes (slot_at xs i) m).slot ((decides_in_table xs i).0 e) e)
      go false e =
          ap (λ (b : Bool). record { answer = refused_by bytes 14; session = cond b (session_held (slot_at xs i)) none }) e

  pub inside : (xs : List Slot) → InTable xs i → preview_at bytes xs i m ≡ preview_slot bytes (slot_at xs i) m
  unfolding preview_by
  inside xs h = by_slot xs ∙ ap (λ (b : Bool). preview_by b (slot_at xs i)) ((decides_in_table xs i).1 h)

  pub outside : (xs : List Slot) → (InTable xs i → ⊥) → preview_at bytes xs i m ≡ past_preview bytes
  unfolding preview_by
  outside xs n = by_slot xs ∙ go (in_table xs i) refl
    where
      go : (b : Bool) → in_table xs i ≡ b → preview_by b (slot_at xs i) ≡ past_preview bytes
      go true e = absurd (n ((decides_in_table xs i).0 e))
      go false e = refl

  -- lists with the same slot, or none, of that number
  pub alike : (xs ys : List Slot) → in_table xs i ≡ in_table ys i → (InTable ys i → slot_at xs i ≡ slot_at ys i) → preview_at bytes xs i m ≡ preview_at bytes ys i m
  unfolding preview_by
  alike xs ys e d = by_slot xs ∙ ap (λ (b : Bool). preview_by b (slot_at xs i)) e ∙ go (in_table ys i) refl ∙ sym (by_slot ys)
    where
      go : (b : Bool) → in_table ys i ≡ b → preview_by b (slot_at xs i) ≡ preview_by b (slot_at ys i)
      go true h = ap (preview_by true) (d ((decides_in_table ys i).0 h))
      go false h = refl

  pub unread : (xs : List Slot) → preview_at bytes xs i m ≡ preview_at bytes (take slot_limit xs) i m
  unread xs = alike xs (take slot_limit xs) (same_decision (in_table xs i) (in_table (take slot_limit xs) i) (decides_in_table xs i) (λ e. back ((decides_in_table (take slot_limit xs) i).0 e), λ h. (decides_in_table (take slot_limit xs) i).1 (on h))) (λ h. sym (get_or-take slot_limit xs i vacant h.1))
    where
      back : InTable (take slot_limit xs) i → InTable xs i
      back (l, k) = let n = subst (λ (n : ℕ). i < n) (length-take slot_limit xs) l in (omega arith, k)

      on : InTable xs i → InTable (take slot_limit xs) i
      on (l, k) = (subst (λ (n : ℕ). i < n) (sym (length-take slot_limit xs)) (omega arith), k)

-- ---- the three ways

pub data PreviewCase (bytes : List ℕ) (xs : List Slot) (i : ℕ) (m : Move) (v : Preview) : Type 0 where
  none_there : (InTable xs i → ⊥) → v ≡ past_preview bytes → PreviewCase bytes xs i m v
  empty : InTable xs i → slot_at xs i ≡ vacant → v ≡ record { answer = refused_by bytes 8; session = none } → PreviewCase bytes xs i m v
  holds : (o : ℕ) (s : Session) → InTable xs i → slot_at xs i ≡ held o s
      → v ≡ record { answer = (round bytes s m).answer; session = some (round bytes s m).session } → PreviewCase bytes xs i m v

module _ (bytes : List ℕ) (xs : List Slot) (i : ℕ) (m : Move) where
  pub preview_case : PreviewCase bytes xs i m (preview_at bytes xs i m)
  unfolding preview_slot slot_round
  preview_case = go (in_table xs i) refl (slot_at xs i) refl
    where
      go : (b : Bool) → in_table xs i ≡ b → (x : Slot) → slot_at xs i ≡ x → PreviewCase bytes xs i m (preview_at bytes xs i m)
      go false e x d = let n : InTable xs i → ⊥ = λ h. true≢false (sym ((decides_in_table xs i).1 h) ∙ e) in none_there n (outside bytes i m xs n)
      go true e vacant d = let h = (decides_in_table xs i).0 e in empty h d (inside bytes i m xs h ∙ ap (λ (x : Slot). preview_slot bytes x m) d)
      go true e (held o s) d =
          let h = (decides_in_table xs i).0 e in holds o s h d (inside bytes i m xs h ∙ ap (λ (x : Slot). preview_slot bytes x m) d)

  -- of a slot that holds a session
  held_one : (o : ℕ) (s : Session) → InTable xs i → slot_at xs i ≡ held o s
      → preview_at bytes xs i m ≡ record { answer = (round bytes s m).answer; session = some (round bytes s m).session }
  unfolding preview_slot slot_round
  held_one o s h d = inside bytes i m xs h ∙ ap (λ (x : Slot). preview_slot bytes x m) d

  nothing_iff : ((preview_at bytes xs i m).session ≡ none) ↔ ((InTable xs i → ⊥) ⊎ (slot_at xs i ≡ vacant))
  nothing_iff = (go preview_case, back)
    where
      go : PreviewCase bytes xs i m (preview_at bytes xs i m) → (preview_at bytes xs i m).session ≡ none → (InTable xs i → ⊥) ⊎ (slot_at xs i ≡ vacant)
      go (none_there n is) e = inl n
      go (empty h d is) e = inr d
      go (holds o s h d is) e =
          let c : some (round bytes s m).session ≡ none = sym (ap (λ (v : Preview). v.session) is) ∙ e in
          clash (cc)

      ways : PreviewCase bytes xs i m (preview_at bytes xs i m) → (InTable xs i → ⊥) ⊎ (slot_at xs i ≡ vacant) → (preview_at bytes xs i m).session ≡ none
      ways (none_there n is) k = ap (λ (v : Preview). v.session) is
      ways (empty h d is) k = ap (λ (v : Preview). v.session) is
      ways (holds o s h d is) (inl n) = absurd (n h)
      ways (holds o s h d is) (inr e) = let c : held o s ≡ vacant = sym d ∙ e in clash (cc)

      back : (InTable xs i → ⊥) ⊎ (slot_at xs i ≡ vacant) → (preview_at bytes xs i m).session ≡ none
      back = ways preview_case

pub preview_meets : (bytes : List ℕ) → Bytes bytes → (xs : List Slot) (i : ℕ) (m : Move) → (InTable xs i → Fits (slot_at xs i) × (m.shows < 2 ^ 16))
    → PreviewMeets bytes xs i m (preview_at bytes xs i m)
unfolding preview_at
preview_meets bytes b xs i m f =
    let r = round_at-meets bytes b xs i m f in
    record {
      accepts = r.accepts;
      refuses = r.refuses;
      nothing = nothing_iff bytes xs i m;
      round = λ o s h d.
          let is = held_one bytes xs i m o s h d in (
            (round bytes s m).session,
            (
              ap (λ (v : Preview). v.session) is,
              subst (λ (a : Answer). RoundMeets bytes s m (record { answer = a; session = (round bytes s m).session }))
                  (sym (ap (λ (v : Preview). v.answer) is)) (visits.round_meets bytes b s (subst Fits d (f h).0) m (f h).1),
            ),
          );
      unchanged = λ o s h d g e.
          let is = held_one bytes xs i m o s h d in
          ap (λ (v : Preview). v.session) is ∙ ap some (refused_unchanged bytes s m g (sym (ap (λ (v : Preview). v.answer) is) ∙ e));
    }

pub preview_numbers : (bytes : List ℕ) → Bytes bytes → (xs : List Slot) (i : ℕ) (m : Move)
    → RoundAtNumbers bytes xs i (record { answer = (preview_at bytes xs i m).answer; table = xs })
unfolding preview_at
preview_numbers bytes b xs i m =
    let r = round_at-numbers bytes b xs i m in
    record {
      policy = r.policy;
      no_slot = r.no_slot;
      empty = r.empty;
      request = r.request;
      unsound = r.unsound;
      finished = r.finished;
      accepted = r.accepted;
      only = r.only;
    }

-- ---- the round afterwards

-- which session is at a slot
session_at_lem : (ys : List Slot) (i : ℕ) (t : Session) → (session_at ys i ≡ some t) ↔ (InTable ys i × ((o : ℕ) × (slot_at ys i ≡ held o t)))
unfolding session_at
session_at_lem ys i t = (go (in_table ys i) refl (slot_at ys i) refl, λ (h, (o, d)). ap (λ (b : Bool). cond b (session_held (slot_at ys i)) none) ((decides_in_table ys i).1 h) ∙ ap session_held d)
  where
    go : (b : Bool) → in_table ys i ≡ b → (x : Slot) → slot_at ys i ≡ x → cond b (session_held x) none ≡ some t → InTable ys i × ((o : ℕ) × (slot_at ys i ≡ held o t))
    go false e x d c = clash (cc)
    go true e vacant d c = clash (cc)
    go true e (held o s) d c = let same : s ≡ t = cc c in ((decides_in_table ys i).0 e, (o, d ∙ ap (held o) same))

-- an empty slot that is put back
stays_empty : (bytes : List ℕ) (xs : List Slot) (i : ℕ) (m : Move) → slot_at xs i ≡ vacant → set xs i (slot_round bytes (slot_at xs i) m).slot ≡ xs
unfolding slot_round
stays_empty bytes xs i m d = ap (λ (x : Slot). set xs i (slot_round bytes x m).slot) d ∙ ap (set xs i) (sym d) ∙ set-get_or xs i vacant

pub round_after : (bytes : List ℕ) (xs : List Slot) (i : ℕ) (m : Move) → RoundAfter xs i (preview_at bytes xs i m) (round_at bytes xs i m)
unfolding preview_at
round_after bytes xs i m = record {
  answer = refl;
  session = session_at_lem (round_at bytes xs i m).table i;
  nothing = λ e. go ((nothing_iff bytes xs i m).0 e) (round_at-case bytes xs i m);
}
  where
    go : (InTable xs i → ⊥) ⊎ (slot_at xs i ≡ vacant) → RoundAtCase bytes xs i m (round_at bytes xs i m) → (round_at bytes xs i m).table ≡ xs
    go k (no_slot is) = ap (λ (g : Reply Answer). g.table) is
    go (inl n) (there h is) = absurd (n h)
    go (inr d) (there h is) = ap (λ (g : Reply Answer). g.table) is ∙ stays_empty bytes xs i m d
