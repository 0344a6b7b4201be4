-- One law of bounds: where each round settles more than those before it, the rounds before the latest are at most as many as what is settled, and a set
-- that holds all that can be settled caps them. Assumes nothing.
use mathlib.Core.Path.{◌≡◌}
use mathlib.Core.Logic.{◌⊎◌, inl, inr}
use mathlib.Core.List.{List, [], ◌∷◌}
use Prim.Native.Nat.{◌<◌, ◌≤◌, suc, ℕ}
use lib.ListN.{length}
use native.Mathlib.Omega.{arith}
use Rattle.atoms.specs.Sets.{Member, Subset, bit, size}
use Rattle.atoms.proofs.SetLaws.{in_or_out}
use Rattle.atoms.proofs.SizeLaws.{size_le, size_lt}
use Rattle.rounds.specs.Moves.{Move}
use Rattle.demands.specs.Lists.{Round}

-- of rounds, the latest first, that are Ok: what they settled, and that each settles more
pub record Settling (Ok : List (Round Move) → Type 0) (settled : List (Round Move) → ℕ) : Type 0 where
  pub before : (past : List (Round Move)) (u t : Round Move) → Ok (t ∷ u ∷ past) → Ok (u ∷ past)
  pub more : (past : List (Round Move)) (u t : Round Move) → Ok (t ∷ u ∷ past) → size (settled (u ∷ past)) < size (settled (t ∷ u ∷ past))

module _ (Ok : List (Round Move) → Type 0) (settled : List (Round Move) → ℕ) (s : Settling Ok settled) where
  pub settled_most : (past : List (Round Move)) (t : Round Move) → Ok (t ∷ past) → length past ≤ size (settled (t ∷ past))
  settled_most [] t h = omega arith
  settled_most (u ∷ past) t h = omega (arith, s.more past u t h, settled_most past u (s.before past u t h))

  module _ (cap : ℕ) (past : List (Round Move)) (t : Round Move) (h : Ok (t ∷ past)) (f : Subset (settled (t ∷ past)) cap) where
    pub capped : length (t ∷ past) ≤ suc (size cap)
    capped = omega (arith, settled_most past t h, size_le (settled (t ∷ past)) cap f)

    -- where there are so many, all of it is settled
    pub all_settled : length (t ∷ past) ≡ suc (size cap) → (k : ℕ) → k < 64 → Member k cap → Member k (settled (t ∷ past))
    all_settled e k l m = go (in_or_out (settled (t ∷ past)) k)
      where
        go : Member k (settled (t ∷ past)) ⊎ (bit (settled (t ∷ past)) k ≡ 0) → Member k (settled (t ∷ past))
        go (inl i) = i
        go (inr z) = absurd (omega (arith, settled_most past t h, size_lt (settled (t ∷ past)) cap k l f m z))
