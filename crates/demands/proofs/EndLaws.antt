-- What follows for the whole list: with k or more rounds, refused ones counted, it has one that ends as round k has to. Assumes nothing.
use mathlib.Core.Path.{◌≡◌, ap, refl}
use mathlib.Core.Logic.{◌≢◌, inl, inr}
use mathlib.Core.List.{List, [], ◌∷◌}
use Prim.Native.Nat.{◌+◌, ◌<◌, ◌≤◌, suc, ℕ}
use lib.ListN.{length}
use native.Mathlib.Decide.{ℕ_discrete}
use native.Mathlib.Omega.{arith}
use Rattle.lists.specs.Each.{Each}
use Rattle.lists.specs.Runs.{Turn}
use Rattle.lists.proofs.EachLaws.{each_imp}
use Rattle.rules.specs.Policy.{Policy}
use Rattle.rounds.specs.Moves.{Move}
use Rattle.rounds.specs.Endings.{Ending, deny, ending, grant}
use Rattle.rounds.specs.Rounds.{Answer, Outcome, ends, refused}
use Rattle.rounds.proofs.AnswerLaws.{clash}
use Rattle.demands.specs.Demand3.{AllRespond, Responds}
use Rattle.demands.specs.Lists.{ByRound, Final, Over, Round, SomeRound, accepted_of, add_round, declined_next, shown_next}
use Rattle.demands.proofs.ListLaws.{over_dec}

-- while the session is open, every round is accepted
all_accepted : (pol : Policy) (r : ℕ) (before ts : List (Turn Move Outcome))
    → Each (λ before t. Responds pol r (accepted_of before) t.takes t.gives.answer) before ts
    → (Over (accepted_of before) → ⊥) → (Over (accepted_of ts) → ⊥) → length (accepted_of ts) ≡ length ts
unfolding Each accepted_of
all_accepted pol r before [] e o n = refl
all_accepted pol r before (t ∷ ts) e o n = go t.gives.answer (e.0.while_open o) n (all_accepted pol r (t ∷ before) ts e.1)
  where
    E : Ending
    E = ending pol r (shown_next (accepted_of before) t.takes) (declined_next (accepted_of before) t.takes)

    go : (a : Answer) → a ≡ ends E → (Over (add_round t.takes a (accepted_of ts)) → ⊥)
        → ((Over (add_round t.takes a (accepted_of before)) → ⊥) → (Over (accepted_of ts) → ⊥) → length (accepted_of ts) ≡ length ts)
        → length (add_round t.takes a (accepted_of ts)) ≡ suc (length ts)
    go (ends x) p n ih = ap suc (ih still (λ y. n (inr y)))
      where
        still : Over (add_round t.takes (ends x) (accepted_of before)) → ⊥
        still (inl f) = n (inl f)
        still (inr y) = o y
    go (refused f) p n ih = clash (cc)

last_ends : (k : ℕ) (past rs : List (Round Move)) → Each (λ past t. length (t ∷ past) ≡ k → Final t.ended) past rs → length past < k
    → length past + length rs ≡ k → Over rs
unfolding Each
last_ends k past [] e l n = absurd (omega arith)
last_ends k past (t ∷ rs) e l n = go (ℕ_discrete (length (t ∷ past)) k) (λ m. last_ends k (t ∷ past) rs e.1 m (omega arith))
  where
    go : Dec (length (t ∷ past) ≡ k) → (length (t ∷ past) < k → Over rs) → Over (t ∷ rs)
    go (yes q) ih = inl (e.0 q)
    go (no q) ih = inr (ih (omega arith))

pub ends_within : (pol : Policy) (r : ℕ) (ts : List (Turn Move Outcome)) → AllRespond pol r ts → (k : ℕ) (Ends : Ending → Type 0) → ((e : Ending) → Ends e → Final e)
    → 0 < k → ByRound k Ends (accepted_of ts) → k ≤ length ts → Over (accepted_of ts)
unfolding accepted_of
ends_within pol r ts d k Ends f z b l = go (over_dec (accepted_of ts))
  where
    go : Dec (Over (accepted_of ts)) → Over (accepted_of ts)
    go (yes o) = o
    go (no o) =
        last_ends k [] (accepted_of ts) (each_imp _ _ (λ past t h n. f t.ended (h n)) [] (accepted_of ts) b.last) z
        (omega (arith, all_accepted pol r [] ts d (λ x. x) o, b.most))

-- where none is denied, the end is a grant
pub over_granted : (past rs : List (Round Move)) → Each (λ past t. t.ended ≢ deny) past rs → Over rs → SomeRound (λ t. t.ended ≡ grant) rs
unfolding Each
over_granted past [] e o = absurd o
over_granted past (t ∷ rs) e (inl (inl g)) = inl g
over_granted past (t ∷ rs) e (inl (inr d)) = absurd (e.0 d)
over_granted past (t ∷ rs) e (inr o) = inr (over_granted (t ∷ past) rs e.1 o)
