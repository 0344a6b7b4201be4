-- A client that answers each question with exactly the asked ones it holds is never denied, and has grant by round 2 + u. Assumes nothing.
use mathlib.Core.Path.{◌∙◌, ◌≡◌, ap, refl, subst, sym}
use mathlib.Core.Logic.{◌≢◌, ◌⊎◌, inl, inr}
use mathlib.Core.Bool.{false, true, true≢false}
use mathlib.Core.List.{List, [], ◌∷◌}
use Prim.Native.Nat.{◌+◌, ◌<◌, ◌≤◌, suc, ℕ}
use lib.ListN.{length}
use native.Mathlib.Decide.{ℕ_discrete}
use native.Mathlib.Omega.{arith}
use Rattle.lists.specs.Each.{Past}
use Rattle.lists.specs.Lists.{Every}
use Rattle.atoms.specs.Sets.{Member, Subset, difference, empty, size, union}
use Rattle.atoms.proofs.SetLaws.{difference_iff, inhabited, intersection_all, intersection_iff, none_in_empty, not_in, union_cases, union_difference, union_least, union_left, union_right}
use Rattle.atoms.proofs.SizeLaws.{size_lt}
use Rattle.rules.specs.Policy.{Policy}
use Rattle.rules.specs.Unlocking.{unlocks}
use Rattle.disclosure.proofs.DisclosureLaws.{Low, disclosable_mono}
use Rattle.disclosure.specs.Disclosure.{askable, disclosable}
use Rattle.preference.specs.Question.{Question}
use Rattle.rounds.specs.Moves.{Move}
use Rattle.rounds.specs.Endings.{Ending, ask, deny, grant}
use Rattle.rounds.proofs.AnswerLaws.{FirstWay, Says, Way}
use Rattle.demands.specs.Lists.{Round, declined_by, last_question, question_in, reply, shown_by}
use Rattle.demands.proofs.BoundLaws.{Settling, capped}
use Rattle.demands.proofs.RoundLaws.{Genuine, asked_before, declined_askable, denied_none, says}

-- ---- the client that holds H and shows I first

-- by the tests
pub record LicensedTest (pol : Policy) (r H I S : ℕ) : Type 0 where
  pub first : Subset I H
  pub held : Subset S H
  pub disclosed : Subset S (disclosable pol I)
  pub opens : (T : ℕ) → Subset T H → unlocks pol r (union S T) ≡ true

module _ (pol : Policy) (low : Every Low pol.disclosure) (r H I S : ℕ) (c : LicensedTest pol r H I S) where
  abbrev pub Replies : List (Round Move) → Round Move → Type 0
  Replies past t = t.takes.shows ≡ reply H I past

  reply_held : (past : List (Round Move)) → Subset (reply H I past) H
  unfolding reply
  reply_held [] = c.first
  reply_held (t ∷ past) = λ k m. ((intersection_iff (question_in t.ended).asks H k).0 m).1

  shown_held : (past : List (Round Move)) → Past Replies past → Subset (shown_by past) H
  unfolding Past shown_by
  shown_held [] h = λ k m. absurd (none_in_empty k m)
  shown_held (t ∷ past) h =
      union_least (shown_by past) t.takes.shows H (shown_held past h.0)
      (subst (λ (x : ℕ). Subset x H) (sym h.1) (reply_held past))

  -- it declines only what it lacks
  declined_now : (past : List (Round Move)) (p k : ℕ) → p ≡ reply H I past → Member k (difference (last_question past).asks p) → Member k H → ⊥
  unfolding reply last_question
  declined_now [] p k e m i = none_in_empty k ((difference_iff empty p k).0 m).0
  declined_now (u ∷ past) p k e m i =
      let Q = (question_in u.ended).asks in
      let h = (difference_iff Q p k).0 m in
      h.1 (subst (λ (x : ℕ). Member k x) (sym e) ((intersection_iff Q H k).1 (h.0, i)))

  declined_unheld : (past : List (Round Move)) → Past Replies past → (k : ℕ) → Member k (declined_by past) → Member k H → ⊥
  unfolding Past declined_by
  declined_unheld [] h k m i = none_in_empty k m
  declined_unheld (t ∷ past) h k m i = go (union_cases (declined_by past) now k m) (λ n. declined_unheld past h.0 k n i)
    where
      now : ℕ
      now = difference (last_question past).asks t.takes.shows

      go : Member k (declined_by past) ⊎ Member k now → (Member k (declined_by past) → ⊥) → ⊥
      go (inl n) ih = ih n
      go (inr n) ih = declined_now past t.takes.shows k h.1 n i

  -- I stays shown
  first_shown : (past : List (Round Move)) (t : Round Move) → Past Replies (t ∷ past) → Subset I (shown_by (t ∷ past))
  unfolding Past shown_by reply
  first_shown [] t h k m = union_right empty t.takes.shows k (subst (λ (x : ℕ). Member k x) (sym h.1) m)
  first_shown (u ∷ past) t h k m = union_left (shown_by (u ∷ past)) t.takes.shows k (first_shown past u h.0 k m)

  -- so what is left of S is a way
  left : ℕ → Question
  left P = record { asks = difference S P }

  left_over : (past : List (Round Move)) → Past Replies past → Subset I (shown_by past) → Way pol r (shown_by past) (declined_by past) (left (shown_by past))
  unfolding left
  left_over past h f = record {
    disclosed = λ k m. disclosable_mono pol low I P f k (c.disclosed k ((difference_iff S P k).0 m).0);
    unshown = λ k m. ((difference_iff S P k).0 m).1;
    undeclined = λ k m n. declined_unheld past h k n (c.held k ((difference_iff S P k).0 m).0);
    opens = ap (unlocks pol r) (union_difference P S) ∙ c.opens P (shown_held past h);
  }
    where
      P : ℕ
      P = shown_by past

  pub never_denied : (past : List (Round Move)) (t : Round Move) → Past (Genuine pol low r) (t ∷ past) → Past Replies (t ∷ past) → t.ended ≢ deny
  unfolding Past
  never_denied past t g h e = denied_none pol low r past t g.1 e (left (shown_by (t ∷ past))) (left_over (t ∷ past) h (first_shown past t h))

  -- the askable ones that it lacks
  abbrev lacked : ℕ
  lacked = difference (askable pol) H

  declined_lacking : (past : List (Round Move)) → Past (Genuine pol low r) past → Past Replies past → Subset (declined_by past) lacked
  declined_lacking past g h k m = (difference_iff (askable pol) H k).1 (declined_askable pol low r past g k m, declined_unheld past h k m)

  -- while the service is locked, each round leads to one more that is declined
  pub record Locked (past : List (Round Move)) : Type 0 where
    pub genuine : Past (Genuine pol low r) past
    pub replies : Past Replies past
    pub still : unlocks pol r (shown_by past) ≡ false

  locked_before : (past : List (Round Move)) (u t : Round Move) → Past (Genuine pol low r) (t ∷ u ∷ past) → Past Replies (t ∷ u ∷ past) → Locked (u ∷ past)
  unfolding Past
  locked_before past u t g h = record {
    genuine = g.0;
    replies = h.0;
    still = (asked_before pol low r past u t g.0.1 g.1).locked;
  }

  locked_more : (past : List (Round Move)) (u t : Round Move) → Locked (t ∷ u ∷ past) → size (declined_by (u ∷ past)) < size (declined_by (t ∷ u ∷ past))
  unfolding Past reply shown_by declined_by last_question
  locked_more past u t l = go (ℕ_discrete (difference Q H) empty)
    where
      Q : ℕ
      Q = (question_in u.ended).asks

      p : ℕ
      p = t.takes.shows

      P : ℕ
      P = shown_by (u ∷ past)

      N : ℕ
      N = declined_by (u ∷ past)

      q : FirstWay pol low r P N (question_in u.ended)
      q = asked_before pol low r past u t l.genuine.0.1 l.genuine.1

      go : Dec (difference Q H ≡ empty) → size N < size (union N (difference Q p))
      go (yes z) =
          let shows : t.takes.shows ≡ Q = l.replies.1 ∙ intersection_all Q H z in
          absurd (true≢false (sym q.way.opens ∙ ap (λ (x : ℕ). unlocks pol r (union P x)) (sym shows) ∙ l.still))
      go (no n) =
          let (k, m) = inhabited (difference Q H) n in
          let (i, unheld) = (difference_iff Q H k).0 m in
          let a = q.all k i in
          let lacks : Member k p → ⊥ = λ s. unheld ((intersection_iff Q H k).0 (subst (λ (x : ℕ). Member k x) l.replies.1 s)).1 in
          size_lt N (union N (difference Q p)) k (omega (arith, a.below_16)) (union_left N (difference Q p))
          (union_right N (difference Q p) k ((difference_iff Q p k).1 (i, lacks))) (not_in N k a.not_declined)

  settling : Settling Locked declined_by
  settling = record { before = λ past u t l. locked_before past u t l.genuine l.replies; more = locked_more }

  locked_length : (past : List (Round Move)) (t : Round Move) → Locked (t ∷ past) → length (t ∷ past) ≤ suc (size lacked)
  locked_length past t l = capped Locked declined_by settling lacked past t l (declined_lacking (t ∷ past) l.genuine l.replies)

  -- so round 2 + u, if there is one, ends in grant, and is the last
  pub admitted_last : (past : List (Round Move)) (t : Round Move) → Past (Genuine pol low r) (t ∷ past) → Past Replies (t ∷ past)
      → length (t ∷ past) ≡ 2 + size (difference (askable pol) H) → t.ended ≡ grant
  unfolding Past
  admitted_last past t g h e = go t.ended refl (says pol low r past t g.1)
    where
      go : (a : Ending) → t.ended ≡ a → Says pol low r (shown_by (t ∷ past)) (declined_by (t ∷ past)) a → a ≡ grant
      go grant p s = refl
      go deny p s = absurd (never_denied past t g h p)
      go (ask q) p s = absurd (omega (arith, e, locked_length past t (record { genuine = g; replies = h; still = s.locked })))

  pub admitted_length : (past : List (Round Move)) (t : Round Move) → Past (Genuine pol low r) (t ∷ past) → Past Replies (t ∷ past)
      → length (t ∷ past) ≤ 2 + size (difference (askable pol) H)
  admitted_length [] t g h = omega arith
  admitted_length (u ∷ past) t g h = omega (arith, locked_length past u (locked_before past u t g h))
