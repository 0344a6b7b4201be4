-- Rounds of a list, each with those before it: what the definitions give, nothing is asked twice, what a deny says, and the bound d + 1.
-- Assumes nothing.
use mathlib.Core.Path.{◌≡◌, refl, subst, sym}
use mathlib.Core.Logic.{◌⊎◌, inl, inr}
use mathlib.Core.List.{List, [], ◌∷◌}
use Prim.Native.Nat.{◌<◌, ◌≤◌, suc, ℕ}
use lib.ListN.{length}
use native.Mathlib.Omega.{arith}
use Rattle.lists.specs.Each.{Past}
use Rattle.lists.specs.Lists.{Every}
use Rattle.atoms.specs.Sets.{Member, Subset, bit, difference, empty, intersection, size, union}
use Rattle.atoms.proofs.SetLaws.{bit_intersection, bit_lt, bit_union, difference_iff, in_or_out, intersection_iff, none_in_empty, not_in, union_cases, union_least, union_left, union_right}
use Rattle.atoms.proofs.SizeLaws.{size_lt}
use Rattle.rules.specs.Policy.{Policy}
use Rattle.disclosure.proofs.DisclosureLaws.{Low}
use Rattle.disclosure.specs.Disclosure.{askable}
use Rattle.preference.specs.Question.{Question}
use Rattle.rounds.specs.Moves.{Move}
use Rattle.rounds.specs.Endings.{Ending, ask, deny, ending, grant}
use Rattle.rounds.proofs.AnswerLaws.{FirstWay, Obtainable, Says, Way, ending_says}
use Rattle.demands.specs.Lists.{Asks, Final, Over, Round, SomeRound, declined_by, last_question, question_in, shown_by}
use Rattle.demands.proofs.BoundLaws.{Settling, all_settled, capped}
use Rattle.demands.proofs.ListLaws.{asks_iff}

module _ (pol : Policy) (low : Every Low pol.disclosure) (r : ℕ) where
  -- a round that the definitions give after the past
  pub record Genuine (past : List (Round Move)) (t : Round Move) : Type 0 where
    pub open_before : Over past → ⊥
    pub given : t.ended ≡ ending pol r (shown_by (t ∷ past)) (declined_by (t ∷ past))

  pub says : (past : List (Round Move)) (t : Round Move) (g : Genuine past t) → Says pol low r (shown_by (t ∷ past)) (declined_by (t ∷ past)) t.ended
  says past t g =
      subst (Says pol low r (shown_by (t ∷ past)) (declined_by (t ∷ past))) (sym g.given)
      (ending_says pol low r (shown_by (t ∷ past)) (declined_by (t ∷ past)))

  -- a round before another ended in a question
  pub asked_before : (past : List (Round Move)) (u t : Round Move) (g : Genuine past u) → Genuine (u ∷ past) t
      → FirstWay pol low r (shown_by (u ∷ past)) (declined_by (u ∷ past)) (question_in u.ended)
  asked_before past u t g h = go u.ended refl (says past u g)
    where
      go : (e : Ending) → u.ended ≡ e → Says pol low r (shown_by (u ∷ past)) (declined_by (u ∷ past)) e
          → FirstWay pol low r (shown_by (u ∷ past)) (declined_by (u ∷ past)) (question_in e)
      go grant e s = absurd (h.open_before (inl (inl e)))
      go deny e s = absurd (h.open_before (inl (inr e)))
      go (ask q) e s = s

  -- ---- nothing is asked twice

  -- one of the rounds asked k
  abbrev Asked : ℕ → List (Round Move) → Type 0
  Asked k = SomeRound (λ u. Asks u.ended k)

  -- what was asked is shown or declined by the next round
  settled_asked : (past : List (Round Move)) (t : Round Move) (k : ℕ) → Asked k past → Member k (union (shown_by (t ∷ past)) (declined_by (t ∷ past)))
  unfolding shown_by declined_by last_question
  settled_asked [] t k m = absurd m
  settled_asked (u ∷ past) t k m = go m (in_or_out p k) (settled_asked past u k)
    where
      P : ℕ
      P = shown_by (u ∷ past)

      N : ℕ
      N = declined_by (u ∷ past)

      Q : ℕ
      Q = (question_in u.ended).asks

      p : ℕ
      p = t.takes.shows

      keep : Member k P ⊎ Member k N → Member k (union (union P p) (union N (difference Q p)))
      keep (inl i) = union_left (union P p) (union N (difference Q p)) k (union_left P p k i)
      keep (inr i) = union_right (union P p) (union N (difference Q p)) k (union_left N (difference Q p) k i)

      go : Asks u.ended k ⊎ Asked k past → Member k p ⊎ (bit p k ≡ 0) → (Asked k past → Member k (union P N))
          → Member k (union (union P p) (union N (difference Q p)))
      go (inr i) d ih = keep (union_cases P N k (ih i))
      go (inl i) (inl s) ih = union_left (union P p) (union N (difference Q p)) k (union_right P p k s)
      go (inl i) (inr z) ih =
          union_right (union P p) (union N (difference Q p)) k
          (union_right N (difference Q p) k ((difference_iff Q p k).1 ((asks_iff u.ended k).1 i, λ s. omega arith)))

  pub once : (past : List (Round Move)) (t : Round Move) → Genuine past t → (k : ℕ) → Asked k past → Asks t.ended k → ⊥
  once past t g k m i = go t.ended (says past t g) i
    where
      P : ℕ
      P = shown_by (t ∷ past)

      N : ℕ
      N = declined_by (t ∷ past)

      go : (e : Ending) → Says pol low r P N e → Asks e k → ⊥
      go grant h i = i
      go deny h i = i
      go (ask q) h i = pick (union_cases P N k (settled_asked past t k m))
        where
          pick : Member k P ⊎ Member k N → ⊥
          pick (inl j) = (h.all k i).not_shown j
          pick (inr j) = (h.all k i).not_declined j

  -- ---- the bound d + 1

  abbrev A : ℕ
  A = askable pol

  known : List (Round Move) → ℕ
  known past = union (shown_by past) (declined_by past)

  -- the askable ones that are shown or declined
  pub settled : List (Round Move) → ℕ
  settled past = intersection (union (shown_by past) (declined_by past)) (askable pol)

  settled_grows : (past : List (Round Move)) (t : Round Move) → Subset (settled past) (settled (t ∷ past))
  unfolding settled shown_by declined_by
  settled_grows past t k m = omega (
    arith,
    bit_intersection (union P N) A k,
    bit_intersection (union (union P p) (union N (difference Q p))) A k,
    bit_union (union P p) (union N (difference Q p)) k,
    bit_union P N k,
    bit_union P p k,
    bit_union N (difference Q p) k,
    bit_lt A k,
    bit_lt (union (union P p) (union N (difference Q p))) k,
  )
    where
      P : ℕ
      P = shown_by past

      N : ℕ
      N = declined_by past

      p : ℕ
      p = t.takes.shows

      Q : ℕ
      Q = (last_question past).asks

  -- what may be asked is not among them
  unsettled : (past : List (Round Move)) (k : ℕ) → Obtainable pol low r (shown_by past) (declined_by past) k → Member k (settled past) → ⊥
  unfolding settled known
  unsettled past k a m = go (union_cases (shown_by past) (declined_by past) k ((intersection_iff (known past) A k).0 m).0)
    where
      go : Member k (shown_by past) ⊎ Member k (declined_by past) → ⊥
      go (inl i) = a.not_shown i
      go (inr i) = a.not_declined i

  settled_askable : (past : List (Round Move)) → Subset (settled past) A
  unfolding settled known
  settled_askable past k m = ((intersection_iff (known past) A k).0 m).1

  pub settled_known : (past : List (Round Move)) → Subset (settled past) (union (shown_by past) (declined_by past))
  unfolding settled known
  settled_known past k m = ((intersection_iff (known past) A k).0 m).0

  -- what a round has asked is settled by the next
  pub settling : Settling (Past Genuine) settled
  unfolding Past settled known
  settling = record { before = λ past u t h. h.0; more = more }
    where
      more : (past : List (Round Move)) (u t : Round Move) → Past Genuine (t ∷ u ∷ past) → size (settled (u ∷ past)) < size (settled (t ∷ u ∷ past))
      more past u t h =
          let Q = asked_before past u t h.0.1 h.1 in
          let (k, q) = Q.some_one in
          let a = Q.all k q in
          size_lt (settled (u ∷ past)) (settled (t ∷ u ∷ past)) k (omega (arith, a.below_16)) (settled_grows (u ∷ past) t)
          ((intersection_iff (known (t ∷ u ∷ past)) A k).1 (settled_asked (u ∷ past) t k (inl ((asks_iff u.ended k).0 q)), a.askable_one))
          (not_in (settled (u ∷ past)) k (unsettled (u ∷ past) k a))

  -- rounds are at most d + 1, and round d + 1 asks nothing
  pub bounded_length : (past : List (Round Move)) (t : Round Move) → Past Genuine (t ∷ past) → length (t ∷ past) ≤ suc (size (askable pol))
  bounded_length past t h = capped (Past Genuine) settled settling A past t h (settled_askable (t ∷ past))

  pub bounded_last : (past : List (Round Move)) (t : Round Move) → Past Genuine (t ∷ past) → length (t ∷ past) ≡ suc (size (askable pol))
      → Final t.ended
  unfolding Past
  bounded_last past t h e = go t.ended (says past t h.1)
    where
      go : (a : Ending) → Says pol low r (shown_by (t ∷ past)) (declined_by (t ∷ past)) a → Final a
      go grant s = inl refl
      go deny s = inr refl
      go (ask q) s =
          let (k, m) = s.some_one in
          let a = s.all k m in
          absurd (unsettled (t ∷ past) k a
          (all_settled (Past Genuine) settled settling A past t h (settled_askable (t ∷ past)) e k (omega (arith, a.below_16)) a.askable_one))

  -- only what was asked is declined
  pub declined_askable : (past : List (Round Move)) → Past Genuine past → Subset (declined_by past) (askable pol)
  unfolding Past declined_by last_question
  declined_askable [] g = λ k m. absurd (none_in_empty k m)
  declined_askable (t ∷ past) g =
      union_least (declined_by past) (difference (last_question past).asks t.takes.shows) A (declined_askable past g.0)
      (last past t g.0 g.1)
    where
      last : (past : List (Round Move)) (t : Round Move) → Past Genuine past → Genuine past t → Subset (difference (last_question past).asks t.takes.shows) A
      last [] t g h k m = absurd (none_in_empty k ((difference_iff empty t.takes.shows k).0 m).0)
      last (u ∷ past) t g h k m =
          ((asked_before past u t g.1 h).all k ((difference_iff (question_in u.ended).asks t.takes.shows k).0 m).0).askable_one

  -- ---- deny

  pub denied_none : (past : List (Round Move)) (t : Round Move) → Genuine past t → t.ended ≡ deny
      → (q : Question) → Way pol r (shown_by (t ∷ past)) (declined_by (t ∷ past)) q → ⊥
  denied_none past t g e = (subst (Says pol low r (shown_by (t ∷ past)) (declined_by (t ∷ past))) e (says past t g)).none_left
