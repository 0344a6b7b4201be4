-- The record of ten bytes: what is packed is what is unpacked, and nothing else stands for a session. Assumes nothing.
use mathlib.Core.Path.{◌∙◌, ◌≡◌, ap, refl, subst, sym}
use mathlib.Core.Logic.{◌↔◌}
use mathlib.Core.Bool.{Bool, cond, false, true}
use mathlib.Core.List.{List, [], ◌∷◌}
use mathlib.Core.Option.{Option, map, none, some}
use Prim.Native.Nat.{◌*◌, ◌+◌, ◌<◌, ◌^◌, suc, zero, ℕ}
use lib.Dec.{eqb}
use lib.ListN.{get_or, length}
use native.Mathlib.Omega.{arith}
use Rattle.encoding.specs.LittleEndian.{Bytes}
use Rattle.validation.proofs.TestLaws.{eqb_true}
use Rattle.rounds.specs.Sessions.{Phase, Session, closed, denied, fresh, granted, question, waiting}
use Rattle.packing.specs.Packed.{Packable, high, low, number_at, packed, packed_as, phase_in, tag, unpacked, with_phase}
use Rattle.packing.specs.Theorems.{asked_in}

-- ---- a number and its two bytes

halves : (n : ℕ) → low n + 256 * high n ≡ n
halves n = omega arith

low_is : (a b : ℕ) → a < 256 → low (a + 256 * b) ≡ a
low_is a b l = omega (arith, l)

high_is : (a b : ℕ) → a < 256 → high (a + 256 * b) ≡ b
high_is a b l = omega (arith, l)

-- ---- the phase

tagged : (f : Phase) → phase_in (tag f) (low (question f).asks + 256 * high (question f).asks) ≡ some f
tagged fresh = refl
tagged (waiting q) = ap (λ (x : ℕ). some (waiting (record { asks = x }))) (halves q.asks)
tagged (closed granted) = refl
tagged (closed denied) = refl

-- a phase, if there is one, is the one that a tag t and a question q say
abbrev SaidBy : ℕ → ℕ → Option Phase → Type 0
SaidBy t q none = Unit {0}
SaidBy t q (some f) = (t ≡ tag f) × (q ≡ (question f).asks)

-- what holds of x where m is n, and of y anyway, holds of the one that is chosen
either : (P : Option Phase → Type 0) (m n : ℕ) (x y : Option Phase) → (m ≡ n → P x) → P y → P (cond (eqb m n) x y)
either P m n x y same other = go (eqb m n) refl
  where
    go : (b : Bool) → eqb m n ≡ b → P (cond b x y)
    go true is = same (eqb_true m n is)
    go false is = other

said : (t q : ℕ) → SaidBy t q (phase_in t q)
said t q =
    let test = either (SaidBy t q) in
    test t 1 _ _ (λ e. (e, refl))
    (test q 0 _ _ (λ a. test t 0 _ _ (λ e. (e, a)) (test t 2 _ _ (λ e. (e, a)) (test t 3 _ _ (λ e. (e, a)) tt))) tt)

-- ---- packed, then unpacked

pub unpacks_packed : (s : Session) → unpacked (packed s) ≡ some s
unfolding packed unpacked
unpacks_packed s = rw (tagged s.phase, halves s.request, halves s.shown, halves s.declined)

-- what is asked stands in bytes 8 and 9
pub asked_in_lem : (s : Session) → asked_in (packed s) ≡ (question s.phase).asks
unfolding packed
asked_in_lem s = halves (question s.phase).asks

-- a 16-bit number's bytes, before others
halves_fit : (n : ℕ) → n < 2 ^ 16 → (bytes : List ℕ) → Bytes bytes → Bytes (low n ∷ high n ∷ bytes)
halves_fit n l bytes b = (omega arith, (omega (arith, l), b))

tag_lt : (f : Phase) → tag f < 256
tag_lt fresh = omega arith
tag_lt (waiting q) = omega arith
tag_lt (closed granted) = omega arith
tag_lt (closed denied) = omega arith

pub packed_fits : (s : Session) → Packable s → Bytes (packed s) × (length (packed s) ≡ 10)
unfolding packed
packed_fits s h =
    let q = (question s.phase).asks in
    let last = s.count ∷ tag s.phase ∷ low q ∷ high q ∷ [] in
    let last_fit : Bytes last = (h.count, (tag_lt s.phase, halves_fit q h.sets.asks [] tt)) in
    let declined = low s.declined ∷ high s.declined ∷ last in
    let declined-fit : Bytes declined = halves_fit s.declined h.sets.declined last last_fit in
    let shown = low s.shown ∷ high s.shown ∷ declined in
    let shown-fit : Bytes shown = halves_fit s.shown h.sets.shown declined declined-fit in
    (halves_fit s.request h.request shown shown-fit, refl)

-- ---- unpacked, then packed

-- n bytes from the k-th on
abbrev from : List ℕ → ℕ → ℕ → List ℕ
from bytes k zero = []
from bytes k (suc n) = get_or bytes k 0 ∷ from bytes (suc k) n

from_rest : (b : ℕ) (bytes : List ℕ) (k n : ℕ) → from (b ∷ bytes) (suc k) n ≡ from bytes k n
from_rest b bytes k zero = refl
from_rest b bytes k (suc n) = ap (◌∷◌ (get_or bytes k 0)) (from_rest b bytes (suc k) n)

from_first : (bytes : List ℕ) → from bytes 0 (length bytes) ≡ bytes
from_first [] = refl
from_first (b ∷ bytes) = ap (◌∷◌ b) (from_rest b bytes 0 (length bytes) ∙ from_first bytes)

byte_lt : (bytes : List ℕ) → Bytes bytes → (i : ℕ) → get_or bytes i 0 < 256
byte_lt [] b i = omega arith
byte_lt (x ∷ bytes) b zero = b.0
byte_lt (x ∷ bytes) b (suc i) = byte_lt bytes b.1 i

module _ (bytes : List ℕ) (b : Bytes bytes) (ten : length bytes ≡ 10) where
  same : (f : Phase) → packed_as (with_phase bytes f) (get_or bytes 7 0) (number_at bytes 8) ≡ from bytes 0 10
  same f =
      simp (
        low_is (get_or bytes 0 0) (get_or bytes 1 0) (byte_lt bytes b 0),
        high_is (get_or bytes 0 0) (get_or bytes 1 0) (byte_lt bytes b 0),
        low_is (get_or bytes 2 0) (get_or bytes 3 0) (byte_lt bytes b 2),
        high_is (get_or bytes 2 0) (get_or bytes 3 0) (byte_lt bytes b 2),
        low_is (get_or bytes 4 0) (get_or bytes 5 0) (byte_lt bytes b 4),
        high_is (get_or bytes 4 0) (get_or bytes 5 0) (byte_lt bytes b 4),
        low_is (get_or bytes 8 0) (get_or bytes 9 0) (byte_lt bytes b 8),
        high_is (get_or bytes 8 0) (get_or bytes 9 0) (byte_lt bytes b 8),
      )

  packs_phase : (f : Phase) → phase_in (get_or bytes 7 0) (number_at bytes 8) ≡ some f → packed (with_phase bytes f) ≡ bytes
  unfolding packed
  packs_phase f is =
      let says = subst (SaidBy (get_or bytes 7 0) (number_at bytes 8)) is (said (get_or bytes 7 0) (number_at bytes 8)) in
      rw (← says.0, ← says.1) (same f ∙ ap (from bytes 0) (sym ten) ∙ from_first bytes)

  pub stands : (s : Session) → (unpacked bytes ≡ some s) ↔ (packed s ≡ bytes)
  unfolding unpacked
  stands s = (go (phase_in (get_or bytes 7 0) (number_at bytes 8)) refl, λ h. ap unpacked (sym h) ∙ unpacks_packed s)
    where
      go : (o : Option Phase) → phase_in (get_or bytes 7 0) (number_at bytes 8) ≡ o → map (with_phase bytes) o ≡ some s → packed s ≡ bytes
      go none is e = cc
      go (some f) is e = let found : with_phase bytes f ≡ s = cc in ap packed (sym found) ∙ packs_phase f is
