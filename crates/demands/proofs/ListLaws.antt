-- What the sets read off a list of rounds hold, and whether the list is over. Assumes nothing.
use mathlib.Core.Path.{refl}
use mathlib.Core.Logic.{◌↔◌, ◌⊎◌, inl, inr}
use mathlib.Core.List.{List, [], ◌∷◌}
use Prim.Native.Nat.{ℕ}
use Rattle.atoms.specs.Sets.{Member, difference, empty, union}
use Rattle.atoms.proofs.SetLaws.{difference_iff, intersection_iff, none_in_empty, union_cases, union_left, union_right}
use Rattle.rounds.specs.Moves.{Move}
use Rattle.rounds.specs.Endings.{Ending, ask, deny, grant}
use Rattle.rounds.proofs.AnswerLaws.{clash}
use Rattle.demands.specs.Lists.{Asks, Final, ListsMean, Over, Round, SomeNext, SomeRound, declined_by, last_question, question_in, reply, shown_by}

-- the asked set, as a set
pub asks_iff : (e : Ending) (k : ℕ) → Member k (question_in e).asks ↔ Asks e k
asks_iff grant k = (none_in_empty k, λ x. absurd x)
asks_iff deny k = (none_in_empty k, λ x. absurd x)
asks_iff (ask q) k = (λ m. m, λ m. m)

-- ---- whether one of the rounds ended in grant or deny

final_dec : (e : Ending) → Dec (Final e)
final_dec grant = yes (inl refl)
final_dec deny = yes (inr refl)
final_dec (ask q) = no apart
  where
    apart : Final (ask q) → ⊥
    apart (inl e) = clash (cc)
    apart (inr e) = clash (cc)

pub over_dec : (rounds : List (Round Move)) → Dec (Over rounds)
over_dec [] = no (λ x. x)
over_dec (t ∷ rounds) = go (final_dec t.ended) (over_dec rounds)
  where
    go : Dec (Final t.ended) → Dec (Over rounds) → Dec (Over (t ∷ rounds))
    go (yes f) d = yes (inl f)
    go (no n) (yes o) = yes (inr o)
    go (no n) (no o) = no neither
      where
        neither : Over (t ∷ rounds) → ⊥
        neither (inl f) = n f
        neither (inr x) = o x

-- ---- shown and declined

shown_iff : (rounds : List (Round Move)) (k : ℕ) → Member k (shown_by rounds) ↔ SomeRound (λ t. Member k t.takes.shows) rounds
unfolding shown_by
shown_iff [] k = (none_in_empty k, λ x. absurd x)
shown_iff (t ∷ past) k = (λ m. forth (union_cases (shown_by past) p k m) (shown_iff past k).0, λ x. back x (shown_iff past k).1)
  where
    p : ℕ
    p = t.takes.shows

    forth : Member k (shown_by past) ⊎ Member k p → (Member k (shown_by past) → SomeRound (λ t. Member k t.takes.shows) past)
        → Member k p ⊎ SomeRound (λ t. Member k t.takes.shows) past
    forth (inl m) ih = inr (ih m)
    forth (inr m) ih = inl m

    back : Member k p ⊎ SomeRound (λ t. Member k t.takes.shows) past → (SomeRound (λ t. Member k t.takes.shows) past → Member k (shown_by past))
        → Member k (union (shown_by past) p)
    back (inl m) ih = union_right (shown_by past) p k m
    back (inr x) ih = union_left (shown_by past) p k (ih x)

-- asked in the earlier of two rounds, and not shown in the later
abbrev Left : ℕ → Round Move → Round Move → Type 0
Left k earlier later = Asks earlier.ended k × (Member k later.takes.shows → ⊥)

declined_iff : (rounds : List (Round Move)) (k : ℕ) → Member k (declined_by rounds) ↔ SomeNext (Left k) rounds
unfolding declined_by last_question
declined_iff [] k = (none_in_empty k, λ x. absurd x)
declined_iff (t ∷ []) k = (λ m. go (union_cases empty (difference empty p) k m), λ x. absurd x)
  where
    p : ℕ
    p = t.takes.shows

    go : Member k empty ⊎ Member k (difference empty p) → ⊥
    go (inl m) = none_in_empty k m
    go (inr m) = none_in_empty k ((difference_iff empty p k).0 m).0
declined_iff (t ∷ u ∷ past) k = (
  λ m. forth (union_cases N (difference Q p) k m) (declined_iff (u ∷ past) k).0,
  λ x. back x (declined_iff (u ∷ past) k).1,
)
  where
    p : ℕ
    p = t.takes.shows

    Q : ℕ
    Q = (question_in u.ended).asks

    N : ℕ
    N = declined_by (u ∷ past)

    forth : Member k N ⊎ Member k (difference Q p) → (Member k N → SomeNext (Left k) (u ∷ past)) → Left k u t ⊎ SomeNext (Left k) (u ∷ past)
    forth (inl m) f = inr (f m)
    forth (inr m) f = let h = (difference_iff Q p k).0 m in inl ((asks_iff u.ended k).0 h.0, h.1)

    back : Left k u t ⊎ SomeNext (Left k) (u ∷ past) → (SomeNext (Left k) (u ∷ past) → Member k N) → Member k (union N (difference Q p))
    back (inl h) f = union_right N (difference Q p) k ((difference_iff Q p k).1 ((asks_iff u.ended k).1 h.0, h.1))
    back (inr x) f = union_left N (difference Q p) k (f x)

pub lists_mean : ListsMean
unfolding reply
lists_mean = record {
  shown = shown_iff;
  declined = declined_iff;
  first_reply = λ H I. refl;
  later_reply = λ H I t past k.
      let i = intersection_iff (question_in t.ended).asks H k in
      let a = asks_iff t.ended k in
      (λ m. (a.0 (i.0 m).0, (i.0 m).1), λ h. i.1 (a.1 h.0, h.1));
}
