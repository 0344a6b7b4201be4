-- The session after some accepted rounds is read off those rounds; and each round of a list is accepted, and the one that the definitions give, until
-- the session closes, and then refused 9. Assumes nothing.
use mathlib.Core.Path.{◌∙◌, ◌≡◌, ap, refl, subst, sym}
use mathlib.Core.Logic.{inl, inr}
use mathlib.Core.List.{List, [], ◌∷◌}
use Prim.Native.Nat.{ℕ}
use native.Mathlib.Omega.{arith}
use Rattle.encoding.specs.LittleEndian.{Bytes}
use Rattle.lists.specs.Each.{Each, Past}
use Rattle.lists.specs.Lists.{Every}
use Rattle.lists.specs.Runs.{Turn, run}
use Rattle.atoms.specs.Sets.{difference, union}
use Rattle.rules.specs.Policy.{Policy}
use Rattle.records.specs.Policies.{policy_of}
use Rattle.form.proofs.PolicyLaws.{disclosure_heads}
use Rattle.form.specs.WrittenForm.{WellFormed}
use Rattle.disclosure.proofs.DisclosureLaws.{Low}
use Rattle.preference.specs.Question.{Question}
use Rattle.rounds.specs.Moves.{Move}
use Rattle.rounds.specs.Endings.{Ending, ask, deny, ending, grant}
use Rattle.rounds.specs.Refusals.{number}
use Rattle.rounds.specs.Rounds.{Answer, Outcome, decided, ends, phase_after, refused, round, rounds_of, worked}
use Rattle.rounds.specs.Sessions.{CountInRange, Finished, Service, Session, SoundSession, closed, denied, granted, question}
use Rattle.rounds.proofs.AnswerLaws.{clash}
use Rattle.rounds.proofs.RefusalLaws.{refused_closed, round_worked}
use Rattle.rounds.proofs.SoundLaws.{ending_sound}
use Rattle.demands.specs.Demand3.{Responds}
use Rattle.demands.specs.Lists.{Over, Round, accepted_of, add_round, declined_by, declined_next, last_question, phase_from, question_in, session_from, shown_by, shown_next}
use Rattle.demands.proofs.BoundLaws.{capped}
use Rattle.demands.proofs.ListLaws.{over_dec}
use Rattle.demands.proofs.RoundLaws.{Genuine, says, settled, settled_known, settling}

question_after : (e : Ending) → question (phase_after e) ≡ question_in e
question_after grant = refl
question_after deny = refl
question_after (ask q) = refl

question_last : (past : List (Round Move)) → question (phase_from past) ≡ last_question past
unfolding phase_from last_question
question_last [] = refl
question_last (t ∷ past) = question_after t.ended

module _ (pol : Policy) (low : Every Low pol.disclosure) (r : ℕ) where
  abbrev Real : List (Round Move) → Type 0
  Real = Past (Genuine pol low r)

  -- ---- the session after rounds that the definitions give

  sound_after : Service r → (past : List (Round Move)) → Real past → SoundSession (session_from r past)
  unfolding session_from phase_from Past shown_by declined_by
  sound_after v [] g = record { service = v; phase = record { shown = refl; declined = refl; count = refl } }
  sound_after v (t ∷ past) g = record {
    service = v;
    phase = ending_sound pol low (session_from r (t ∷ past)) t.ended in_range (says pol low r past t g.1);
  }
    where
      P : ℕ
      P = shown_by (t ∷ past)

      N : ℕ
      N = declined_by (t ∷ past)

      in_range : CountInRange (session_from r (t ∷ past))
      in_range = record {
        least = omega arith;
        most = omega (arith, capped Real (settled pol low r) (settling pol low r) (union P N) past t g (settled_known pol low r (t ∷ past)));
      }

  -- the session is finished where the list is over, and only there
  finished_over : (past : List (Round Move)) → Real past → Over past → Finished (session_from r past)
  unfolding session_from phase_from Past
  finished_over [] g o = absurd o
  finished_over (t ∷ past) g (inl (inl e)) = (granted, ap phase_after e)
  finished_over (t ∷ past) g (inl (inr e)) = (denied, ap phase_after e)
  finished_over (t ∷ past) g (inr o) = absurd (g.1.open_before o)

  open_still : (past : List (Round Move)) → (Over past → ⊥) → Finished (session_from r past) → ⊥
  unfolding session_from phase_from
  open_still [] n (v, e) = clash (cc)
  open_still (t ∷ past) n (v, e) = go t.ended refl e
    where
      go : (x : Ending) → t.ended ≡ x → phase_after x ≡ closed v → ⊥
      go grant p e = n (inl (inl p))
      go deny p e = n (inl (inr p))
      go (ask q) p e = clash (cc)

  -- ---- a round that is worked out

  ending_next : List (Round Move) → Move → Ending
  ending_next past m = ending pol r (shown_next past m) (declined_next past m)

  round_next : List (Round Move) → Move → Round Move
  round_next past m = record { takes = m; ended = ending_next past m }

  next_worked : (past : List (Round Move)) (m : Move) → worked pol (session_from r past) m
      ≡ record { shown = shown_next past m; declined = declined_next past m; ended = ending_next past m }
  unfolding worked session_from ending_next
  next_worked past m =
      ap (λ (q : Question).
      let N = union (declined_by past) (difference q.asks m.shows) in
      record { shown = shown_next past m; declined = N; ended = ending pol r (shown_next past m) N }) (question_last past)

  next_genuine : (past : List (Round Move)) (m : Move) → (Over past → ⊥) → Genuine pol low r past (round_next past m)
  unfolding round_next ending_next shown_by declined_by
  next_genuine past m o = record { open_before = o; given = refl }

module _ (bytes : List ℕ) (b : Bytes bytes) (w : WellFormed bytes) (r : ℕ) (service : Service r) where
  abbrev pol : Policy
  pol = policy_of bytes

  abbrev low : Every Low (policy_of bytes).disclosure
  low = disclosure_heads bytes b w

  abbrev Ok : List (Round Move) → Type 0
  Ok = Past (Genuine pol low r)

  -- either the session stays, and the round is not accepted, or it is accepted
  data Case (past : List (Round Move)) (m : Move) (o : Outcome) : Type 0 where
    stays : (a : Answer) → ((rs : List (Round Move)) → add_round m a rs ≡ rs) → Responds pol r past m a
        → o ≡ record { answer = a; session = session_from r past } → Case past m o
    goes : Genuine pol low r past (round_next pol low r past m) → Responds pol r past m (ends (ending_next pol low r past m))
        → o ≡ record { answer = ends (ending_next pol low r past m); session = session_from r (round_next pol low r past m ∷ past) } → Case past m o

  round_case : (past : List (Round Move)) → Ok past → (m : Move) → Case past m (round bytes (session_from r past) m)
  unfolding ending_next session_from round_next phase_from shown_by declined_by
  round_case past g m = go (over_dec past)
    where
      s : Session
      s = session_from r past

      sound : SoundSession s
      sound = sound_after pol low r service past g

      go : Dec (Over past) → Case past m (round bytes s m)
      go (yes o) =
          stays (refused (number 9)) (λ rs. refl) (record { while_open = λ n. absurd (n o); once_closed = λ x. refl })
          (refused_closed bytes b s m w sound (finished_over pol low r past g o))
      go (no n) =
          goes (next_genuine pol low r past m n) (record { while_open = λ x. refl; once_closed = λ o. absurd (n o) })
          (round_worked bytes b s m w sound (open_still pol low r past n) ∙ ap (decided s) (next_worked pol low r past m))

  -- ---- the rounds of a list

  -- of every round, refused or not, after the rounds `before`
  pub record Given (before : List (Turn Move Outcome)) (t : Turn Move Outcome) : Type 0 where
    pub responds : Responds pol r (accepted_of before) t.takes t.gives.answer
    pub session : t.gives.session ≡ session_from r (accepted_of (t ∷ before))

  pub record Whole (before : List (Turn Move Outcome)) (past : List (Round Move)) (ts : List (Turn Move Outcome)) : Type 0 where
    pub given : Each Given before ts
    pub genuine : Each (Genuine pol low r) past (accepted_of ts)

  pub whole : (before : List (Turn Move Outcome)) (past : List (Round Move)) → accepted_of before ≡ past → Ok past → (ms : List Move)
      → Whole before past (rounds_of bytes (session_from r past) ms)
  unfolding run Each Past accepted_of round_next
  whole before past s g [] = record { given = tt; genuine = tt }
  whole before past s g (m ∷ ms) = go (round bytes (session_from r past) m) (round_case past g m)
      (λ t e. whole (t ∷ before) past e g ms)
      (λ t e h. whole (t ∷ before) (round_next pol low r past m ∷ past) e (g, h) ms)
    where
      u : Round Move
      u = round_next pol low r past m

      Next : Outcome → Type 0
      Next o = Whole before past (record { takes = m; gives = o } ∷ rounds_of bytes o.session ms)

      go : (o : Outcome) → Case past m o
          → ((t : Turn Move Outcome) → accepted_of (t ∷ before) ≡ past → Whole (t ∷ before) past (rounds_of bytes (session_from r past) ms))
          → ((t : Turn Move Outcome) → accepted_of (t ∷ before) ≡ u ∷ past → Genuine pol low r past u
          → Whole (t ∷ before) (u ∷ past) (rounds_of bytes (session_from r (u ∷ past)) ms))
          → Next o
      go o (stays a k h e) f f' =
          let t : Turn Move Outcome = record { takes = m; gives = record { answer = a; session = session_from r past } } in
          let is : accepted_of (t ∷ before) ≡ past = k (accepted_of before) ∙ s in
          let rest = f t is in
          subst Next (sym e)
          (record {
            given = (
              record {
                responds = subst (λ (x : List (Round Move)). Responds pol r x m a) (sym s) h;
                session = ap (session_from r) (sym is);
              },
              rest.given,
            );
            genuine = subst (Each (Genuine pol low r) past) (sym (k (accepted_of (rounds_of bytes (session_from r past) ms)))) rest.genuine;
          })
      go o (goes q h e) f f' =
          let t : Turn Move Outcome = record { takes = m; gives = record { answer = ends (ending_next pol low r past m); session = session_from r (u ∷ past) } } in
          let is : accepted_of (t ∷ before) ≡ u ∷ past = ap (◌∷◌ u) s in
          let rest = f' t is q in
          subst Next (sym e)
          (record {
            given = (
              record {
                responds = subst (λ (x : List (Round Move)). Responds pol r x m (ends (ending_next pol low r past m))) (sym s) h;
                session = ap (session_from r) (sym is);
              },
              rest.given,
            );
            genuine = (q, rest.genuine);
          })
