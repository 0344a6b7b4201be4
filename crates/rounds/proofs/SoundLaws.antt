-- The session that opening gives is sound, and so is what a round gives back of a sound one, whatever its policy; and a sound session's count is at
-- most 17. Assumes nothing.
use mathlib.Core.Path.{◌≡◌, refl, subst, sym}
use mathlib.Core.Logic.{◌≢◌, ◌⊎◌, inl, inr}
use mathlib.Core.List.{List}
use Prim.Native.Nat.{◌<◌, ◌^◌, ◌≤◌, ℕ}
use lib.Bits.{or_lt}
use native.Mathlib.Omega.{arith}
use Rattle.encoding.specs.LittleEndian.{Bytes}
use Rattle.lists.specs.Lists.{Every}
use Rattle.atoms.specs.Sets.{Member, Subset, bit, difference, size, union}
use Rattle.atoms.proofs.SetLaws.{difference_iff, in_or_out, inhabited, member_low, none_in_empty, not_in, union_cases, union_least, union_left, union_right}
use Rattle.atoms.proofs.SizeLaws.{low_lt, size_credentials, size_lt}
use Rattle.rules.specs.Policy.{Policy}
use Rattle.records.specs.Policies.{policy_of}
use Rattle.form.proofs.PolicyLaws.{disclosure_heads}
use Rattle.disclosure.proofs.DisclosureLaws.{Low}
use Rattle.rounds.specs.Moves.{Move}
use Rattle.rounds.specs.Endings.{Ending, ask, deny, grant}
use Rattle.rounds.specs.Rounds.{Outcome, declined_after, phase_after, round, session_after, shown_after, worked}
use Rattle.rounds.specs.Sessions.{CountInRange, Finished, Phase, Service, Session, SixteenBit, SoundPhase, SoundSession, Verdict, closed, fresh, opened, question, waiting}
use Rattle.rounds.proofs.AnswerLaws.{Says, ending_says}
use Rattle.rounds.proofs.RefusalLaws.{RoundCase, allowed_iff, goes, round_case, round_none, turned}

pub record SoundSixteenBit (s : Session) : Type 0 where
  pub sound : SoundSession s
  pub sets : SixteenBit s

-- P with p, and N with what of Q is not in p, hold P, N and Q
module _ (P N Q p : ℕ) where
  after : ℕ
  after = union (union P p) (union N (difference Q p))

  after_shown : Subset P after
  unfolding after
  after_shown k m = union_left (union P p) (union N (difference Q p)) k (union_left P p k m)

  after_declined : Subset N after
  unfolding after
  after_declined k m = union_right (union P p) (union N (difference Q p)) k (union_left N (difference Q p) k m)

  after_asked : Subset Q after
  unfolding after
  after_asked k m = go (in_or_out p k)
    where
      go : Member k p ⊎ (bit p k ≡ 0) → Member k (union (union P p) (union N (difference Q p)))
      go (inl i) = union_left (union P p) (union N (difference Q p)) k (union_right P p k i)
      go (inr z) =
          union_right (union P p) (union N (difference Q p)) k (union_right N (difference Q p) k ((difference_iff Q p k).1 (m, λ i. omega arith)))

  -- a question brings at least one more
  after_more : Q < 2 ^ 16 → Q ≢ 0 → ((k : ℕ) → Member k Q → Member k P → ⊥) → ((k : ℕ) → Member k Q → Member k N → ⊥) → size (union P N) < size after
  after_more l n f g =
      let (k, m) = inhabited Q n in
      size_lt (union P N) after k (omega (arith, member_low Q 16 k l m)) (union_least P N after after_shown after_declined) (after_asked k m)
      (not_in (union P N) k (λ i. apart k m (union_cases P N k i)))
    where
      apart : (k : ℕ) → Member k Q → Member k P ⊎ Member k N → ⊥
      apart k m (inl i) = f k m i
      apart k m (inr i) = g k m i

-- so the count stays in its range
after_count : (s : Session) (ph : Phase) (p : ℕ) → ((v : Verdict) × (ph ≡ closed v) → ⊥) → (question ph).asks < 2 ^ 16 → SoundPhase s ph
    → s.count ≤ size (after s.shown s.declined (question ph).asks p)
after_count s fresh p o l h = omega (arith, h.count)
after_count s (waiting q) p o l h =
    omega (arith, h.1.most, after_more s.shown s.declined q.asks p l h.0.not_empty h.0.unshown h.0.undeclined)
after_count s (closed v) p o l h = absurd (o (v, refl))

-- what each ending says makes the session after it sound, if its count is in range
pub ending_sound : (pol : Policy) (low : Every Low pol.disclosure) (s : Session) (e : Ending) → CountInRange s
    → Says pol low s.request s.shown s.declined e → SoundPhase s (phase_after e)
ending_sound pol low s grant c t = c
ending_sound pol low s deny c t = c
ending_sound pol low s (ask q) c t = (
  record {
    not_empty = λ z. let (k, m) = t.some_one in none_in_empty k (subst (Member k) z m);
    unshown = t.way.unshown;
    undeclined = t.way.undeclined;
  },
  c,
)

-- ---- an accepted round

module _ (pol : Policy) (low : Every Low pol.disclosure) (s : Session) (m : Move) (h : SoundSixteenBit s) (o : Finished s → ⊥) where
  abbrev next : Session
  next = session_after s (worked pol s m)

  says : Says pol low s.request (shown_after s m) (declined_after s m) (worked pol s m).ended
  unfolding worked
  says = ending_says pol low s.request (shown_after s m) (declined_after s m)

  accepted_sound : SoundSession next
  unfolding worked after
  accepted_sound = record {
    service = h.sound.service;
    phase = ending_sound pol low next (worked pol s m).ended in_range says;
  }
    where
      in_range : CountInRange next
      in_range = record {
        least = omega arith;
        most = omega (arith, after_count s s.phase m.shows o h.sets.asks h.sound.phase);
      }

  accepted_small : m.shows < 2 ^ 16 → SixteenBit next
  unfolding worked
  accepted_small l = record {
    shown = or_lt 16 s.shown m.shows h.sets.shown l;
    declined = or_lt 16 s.declined (difference Q m.shows) h.sets.declined
        (low_lt (difference Q m.shows) 16 (λ k i. member_low Q 16 k h.sets.asks ((difference_iff Q m.shows k).0 i).0));
    asks = go (worked pol s m).ended says;
  }
    where
      Q : ℕ
      Q = (question s.phase).asks

      go : (e : Ending) → Says pol low s.request (shown_after s m) (declined_after s m) e → (question (phase_after e)).asks < 2 ^ 16
      go grant t = omega arith
      go deny t = omega arith
      go (ask q) t = low_lt q.asks 16 (λ k i. (t.all k i).below_16)

-- ---- any round: refused, it gives back the session that it got

pub opened_sound : (r : ℕ) → Service r → SoundSixteenBit (opened r)
opened_sound r v = record {
  sound = record { service = v; phase = record { shown = refl; declined = refl; count = refl } };
  sets = record { shown = omega arith; declined = omega arith; asks = omega arith };
}

pub round_sound : (bytes : List ℕ) → Bytes bytes → (s : Session) (m : Move) → m.shows < 2 ^ 16 → SoundSixteenBit s
    → SoundSixteenBit (round bytes s m).session
round_sound bytes b s m l h = go (round_case bytes s m)
  where
    go : RoundCase bytes s m (round bytes s m) → SoundSixteenBit (round bytes s m).session
    go (turned f e is) = subst (λ (o : Outcome). SoundSixteenBit o.session) (sym is) h
    go (goes e is) =
        let a = (allowed_iff bytes s m).0 ((round_none bytes b s m).0 e) in
        let low = disclosure_heads bytes b a.policy in
        subst (λ (o : Outcome). SoundSixteenBit o.session) (sym is)
        (record {
          sound = accepted_sound (policy_of bytes) low s m h a.unfinished;
          sets = accepted_small (policy_of bytes) low s m h a.unfinished l;
        })

-- "The longest sessions have 17 rounds."
pub seventeen : (s : Session) → SoundSixteenBit s → s.count ≤ 17
seventeen s h = go s.phase h.sound.phase
  where
    in_range : CountInRange s → s.count ≤ 17
    in_range c =
        let l = or_lt 16 s.shown s.declined h.sets.shown h.sets.declined in
        omega (arith, c.most, size_credentials (union s.shown s.declined) l)

    go : (ph : Phase) → SoundPhase s ph → s.count ≤ 17
    go fresh k = omega (arith, k.count)
    go (waiting q) k = in_range k.1
    go (closed v) k = in_range k
