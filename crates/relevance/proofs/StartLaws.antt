-- Where each level begins among the rules that are left. Assumes nothing.
use mathlib.Core.Path.{◌∙◌, ◌≡◌, ap, sym}
use mathlib.Core.List.{List}
use Prim.Native.Nat.{◌+◌, ◌<◌, ◌≤◌, ℕ}
use lib.ListN.{get_or, length, length-set, set}
use lib.Seq.{get_or-set_other, get_or-set_same}
use native.Mathlib.Decide.{ℕ_discrete}
use native.Mathlib.Numerals.{add-one}
use native.Mathlib.Omega.{arith}
use Rattle.arrays.specs.Arrays.{Ordered}
use Rattle.relevance.specs.Places.{StartsMoved, room_before}

-- the levels below l are moved; what stands at `from` goes to `place`
pub record Moving (levels R : ℕ) (heads starts moved : List ℕ) (from place l : ℕ) : Type 0 where
  pub places : levels < length moved
  pub next : l ≤ levels → from ≤ get_or starts l 0
  pub goes : place ≡ room_before R heads from
  pub begins : (i : ℕ) → i < l → get_or moved i 0 ≡ room_before R heads (get_or starts i 0)

module _ (levels R : ℕ) (heads starts moved : List ℕ) (from place l : ℕ) (s : Moving levels R heads starts moved from place l) where
  pub moving_next : Ordered levels starts → l ≤ levels → (x : ℕ) → x ≡ room_before R heads (get_or starts l 0)
      → Moving levels R heads starts (set moved l x) (get_or starts l 0) x (l + 1)
  moving_next o i x e = record {
    places = simp length-set s.places;
    next = λ j. rw (add-one l) (o.rising l (omega arith));
    goes = e;
    begins = λ k j. go k j (ℕ_discrete k l);
  }
    where
      go : (k : ℕ) → k < l + 1 → Dec (k ≡ l) → get_or (set moved l x) k 0 ≡ room_before R heads (get_or starts k 0)
      go k j (yes f) =
          ap (λ (y : ℕ). get_or (set moved l x) y 0) f ∙ get_or-set_same moved l x 0 (omega (arith, s.places)) ∙ e
          ∙ ap (λ (y : ℕ). room_before R heads (get_or starts y 0)) (sym f)
      go k j (no n) = let below : k < l = omega arith in get_or-set_other moved l k x 0 n ∙ s.begins k below

  pub moving_done : levels < l → StartsMoved levels R heads starts moved
  moving_done i = record { places = s.places; begins = λ k j. s.begins k (omega arith) }
