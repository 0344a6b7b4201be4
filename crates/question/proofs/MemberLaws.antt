-- The members of a set, listed one after another. Assumes nothing.
use mathlib.Core.Path.{◌∙◌, ◌≡◌, ap, refl, subst, sym}
use mathlib.Core.Bool.{cond}
use mathlib.Core.List.{List}
use Prim.Native.Nat.{◌%◌, ◌*◌, ◌+◌, ◌-◌, ◌/◌, ◌<◌, ◌^◌, ◌≤◌, suc, zero, ℕ}
use lib.Bits.{or_shifted_r}
use lib.Count.{ones_in}
use lib.Dec.{eqb}
use lib.ListN.{get_or, length, length-set, set}
use lib.Pow.{pow_mono, pow_pos, shr-shr}
use lib.Seq.{get_or-set_other, get_or-set_same}
use native.Mathlib.Decide.{dec_lt}
use native.Mathlib.Nat.{mul-one, mul-zero, one-mul, pow-suc}
use native.Mathlib.Numerals.{add-one}
use native.Mathlib.Omega.{arith}
use Rattle.atoms.specs.Sets.{member, size, union}
use Rattle.atoms.proofs.SetLaws.{bit_lt, single_is}
use Rattle.atoms.proofs.SizeLaws.{size_credentials}
use Rattle.arrays.specs.Arrays.{OneAtom}
use Rattle.arrays.proofs.HeadLaws.{one_single}
use Rattle.preference.specs.Candidates.{taken}
use Rattle.preference.specs.Subsets.{MembersOf, subset_of}
use Rattle.preference.proofs.NumberLaws.{ones_none, ones_size}
use Rattle.question.proofs.TakingLaws.{Taking, taking_all, taking_more, taking_none}

-- ---- credentials below k are passed, and what is left lies above them

pub above_next : (left k : ℕ) → k < 16 → left < 2 ^ (16 - k) → left / 2 < 2 ^ (16 - (k + 1))
above_next left k l h =
    let e : 16 - k ≡ suc (16 - (k + 1)) = omega arith in
    let t : left < 2 ^ suc (16 - (k + 1)) = subst (λ (x : ℕ). left < 2 ^ x) e h in
    omega (arith, pow-suc 2 (16 - (k + 1)))

pub ones_next : (left k : ℕ) → k < 16 → ones_in (16 - k) left ≡ left % 2 + ones_in (16 - (k + 1)) (left / 2)
unfolding ones_in
ones_next left k l = let e : 16 - k ≡ suc (16 - (k + 1)) = omega arith in ap (λ (y : ℕ). ones_in y left) e

-- ---- members

-- the atoms below k are passed: n of them are members
pub record Listing (D : ℕ) (members : List ℕ) (left place n k : ℕ) : Type 0 where
  pub long : length members ≡ 16
  pub few : n ≤ k
  pub most : k ≤ 16
  pub is : place ≡ 2 ^ k
  pub sized : ones_in 16 D ≡ n + ones_in (16 - k) left
  pub each : (j : ℕ) → j < n → (i : ℕ) × ((i < k) × (get_or members j 0 ≡ 2 ^ i))
  pub rising : (i j : ℕ) → i < j → j < n → get_or members i 0 < get_or members j 0
  pub taking : (m : ℕ) → Taking D m k (taken members n m) place left (m / 2 ^ n)

pub listing_none : (D : ℕ) (members : List ℕ) → length members ≡ 16 → Listing D members D 1 0 0
unfolding taken
listing_none D members e = record {
  long = e;
  few = omega arith;
  most = omega arith;
  is = refl;
  sized = omega arith;
  each = λ j l. absurd (omega arith);
  rising = λ i j l h. absurd (omega arith);
  taking = λ m. let one : m ≡ m / 2 ^ 0 = omega arith in subst (λ (y : ℕ). Taking D m 0 0 1 D y) one (taking_none D m);
}

-- what is written behind them is not read
taken_set : (members : List ℕ) (at v c m : ℕ) → c ≤ at → taken (set members at v) c m ≡ taken members c m
unfolding taken
taken_set members at v zero m l = refl
taken_set members at v (suc j) m l =
    let ih = taken_set members at v j m (omega arith) in
    let g = get_or-set_other members at j v 0 (λ e. omega arith) in
    ap (λ (x : ℕ). cond (member j m) (union x (get_or (set members at v) j 0)) x) ih
    ∙ ap (λ (x : ℕ). cond (member j m) (union (taken members j m) x) (taken members j m)) g

module _ (D : ℕ) (members : List ℕ) (left place n k : ℕ) (h : Listing D members left place n k) (l : k < 16) where
  after : List ℕ
  after = set members n place

  same : (j : ℕ) → j < n → get_or after j 0 ≡ get_or members j 0
  unfolding after
  same j i = get_or-set_other members n j place 0 (λ e. omega arith)

  own : get_or after n 0 ≡ place
  unfolding after
  own = get_or-set_same members n place 0 (omega (arith, h.long, h.few))

  below : (j : ℕ) → j < n → get_or members j 0 < place
  below j i =
      let e = h.each j i in
      omega (arith, e.1.1, h.is, pow_mono {i = suc e.0} {j = k} (omega (arith, e.1.0)), pow-suc 2 e.0, pow_pos e.0)

  each : (x : ℕ) → x < 2 → (j : ℕ) → j < n + x → (i : ℕ) × ((i < k + 1) × (get_or after j 0 ≡ 2 ^ i))
  each x s j i = go (dec_lt j n)
    where
      go : Dec (j < n) → (i : ℕ) × ((i < k + 1) × (get_or after j 0 ≡ 2 ^ i))
      go (yes d) = let e = h.each j d in (e.0, (omega (arith, e.1.0), same j d ∙ e.1.1))
      go (no d) = let e : j ≡ n = omega arith in (k, (omega arith, ap (λ (y : ℕ). get_or after y 0) e ∙ own ∙ h.is))

  rising : (x : ℕ) → x < 2 → (i j : ℕ) → i < j → j < n + x → get_or after i 0 < get_or after j 0
  rising x s i j u v = go (dec_lt j n)
    where
      go : Dec (j < n) → get_or after i 0 < get_or after j 0
      go (yes d) = omega (arith, same i (omega arith), same j d, h.rising i j u d)
      go (no d) =
          let e : get_or after j 0 ≡ get_or after n 0 = ap (λ (y : ℕ). get_or after y 0) (omega arith) in
          omega (arith, e, own, same i (omega arith), below i (omega arith))

  -- one member more is put in
  joined : (C : ℕ) → C < place → union C place ≡ C + place
  joined C s =
      let e : place ≡ 1 * 2 ^ k = h.is ∙ sym (one-mul (2 ^ k)) in
      let t : union C (1 * 2 ^ k) ≡ 1 * 2 ^ k + C = or_shifted_r 1 k C (omega (arith, h.is)) in
      ap (λ (y : ℕ). union C y) e ∙ t ∙ omega (arith, e)

  more : (x : ℕ) → x < 2 → (m : ℕ) → taken after (n + x) m ≡ taken members n m + place * (x * (m / 2 ^ n % 2))
  unfolding taken after
  more zero s m =
      let e : n + zero ≡ n = omega arith in
      ap (λ (y : ℕ). taken after y m) e ∙ taken_set members n place n m (omega arith)
      ∙ (let z : place * (zero * (m / 2 ^ n % 2)) ≡ 0 = ap (λ (y : ℕ). place * y) (omega arith) ∙ mul-zero place in omega (arith, z))
  more (suc zero) s m =
      let e : n + suc zero ≡ suc n = omega arith in
      ap (λ (y : ℕ). taken after y m) e
      ∙ ap (λ (y : ℕ). cond (member n m) (union y (get_or after n 0)) y) (taken_set members n place n m (omega arith))
      ∙ ap (λ (y : ℕ). cond (member n m) (union (taken members n m) y) (taken members n m)) own
      ∙ go (m / 2 ^ n % 2) (bit_lt m n)
    where
      C : ℕ
      C = taken members n m

      go : (v : ℕ) → v < 2 → cond (eqb v 1) (union (taken members n m) place) (taken members n m) ≡ taken members n m + place * (suc zero * v)
      go zero i = let z : place * (suc zero * zero) ≡ 0 = ap (λ (y : ℕ). place * y) (omega arith) ∙ mul-zero place in omega (arith, z)
      go (suc zero) i =
          let z : place * (suc zero * suc zero) ≡ place = ap (λ (y : ℕ). place * y) (omega arith) ∙ mul-one place in
          joined (taken members n m) (h.taking m).fits ∙ omega (arith, z)
      go (suc (suc v)) i = absurd (omega arith)
  more (suc (suc x)) s m = absurd (omega arith)

  pub listing_more : Listing D (set members n place) (left / 2) (2 * place) (n + left % 2) (k + 1)
  unfolding after
  listing_more = record {
    long = length-set members n place ∙ h.long;
    few = omega (arith, h.few);
    most = omega arith;
    is = (taking_more D 0 k _ place left _ l (h.taking 0)).is;
    sized = omega (arith, h.sized, ones_next left k l);
    each = each (left % 2) (omega arith);
    rising = rising (left % 2) (omega arith);
    taking = λ m.
        subst (λ (y : ℕ). Taking D m (k + 1) y (2 * place) (left / 2) (m / 2 ^ (n + left % 2))) (sym (more (left % 2) (omega arith) m))
        (subst (λ (y : ℕ). Taking D m (k + 1) (taken members n m + place * (left % 2 * (m / 2 ^ n % 2))) (2 * place) (left / 2) y)
        (shr-shr m n (left % 2)) (taking_more D m k (taken members n m) place left (m / 2 ^ n) l (h.taking m)));
  }

-- what the loop knows: the credentials below k are passed, and what is left lies above them
pub record Listed (D : ℕ) (members : List ℕ) (left n k : ℕ) : Type 0 where
  pub listing : Listing D members left (2 ^ k) n k
  pub above : left < 2 ^ (16 - k)

pub listed_none : (D : ℕ) (members : List ℕ) → D < 2 ^ 16 → length members ≡ 16 → Listed D members D 0 0
listed_none D members l e = record { listing = listing_none D members e; above = l }

module _ (D : ℕ) (members : List ℕ) (left n k : ℕ) (h : Listed D members left n k) where
  pub listed_more : (v o : ℕ) → k < 16 → v ≡ 1 * 2 ^ k % 65536 → o ≡ left % 2 → Listed D (set members n v) (left / 2) (n + o) (k + 1)
  listed_more v o l e f =
      let small : v ≡ 2 ^ k = omega (arith, pow_mono {i = k} {j = 15} (omega arith)) in
      let two : 2 * 2 ^ k ≡ 2 ^ (k + 1) = omega (arith, pow-suc 2 k, ap (λ (x : ℕ). 2 ^ x) (add-one k)) in
      rw (small, f) (record {
        listing = subst (λ (x : ℕ). Listing D (set members n (2 ^ k)) (left / 2) x (n + left % 2) (k + 1)) two (listing_more D members left (2 ^ k) n k h.listing l);
        above = above_next left k l h.above;
      })

  pub listed_all : D < 2 ^ 16 → left ≡ 0 → MembersOf D members
  listed_all l z = record {
    each = (size_credentials D l, λ j i. one j (omega (arith, all)));
    different = λ i j u v e. absurd (omega (arith, h.listing.rising i j u (omega (arith, all)), e));
    subset = λ m. subst (λ (y : ℕ). taken members y m ≡ subset_of D m) all
        (taking_all D m k (taken members n m) (2 ^ k) (m / 2 ^ n)
        (subst (λ (y : ℕ). Taking D m k (taken members n m) (2 ^ k) y (m / 2 ^ n)) z (h.listing.taking m)));
  }
    where
      all : n ≡ size D
      all = omega (arith, h.listing.sized, ones_size D l, ap (ones_in (16 - k)) z, ones_none (16 - k))

      one : (j : ℕ) → j < n → OneAtom (get_or members j 0)
      one j i =
          let e = h.listing.each j i in
          let low : e.0 ≤ 63 = omega (arith, e.1.0, h.listing.most) in
          subst OneAtom (single_is e.0 low ∙ sym e.1.1) (one_single e.0 low)

-- all sixteen are passed
pub none_left : (left k : ℕ) → 16 ≤ k → left < 2 ^ (16 - k) → left ≡ 0
none_left left k l h =
    let z : 16 - k ≡ 0 = omega arith in
    let o : left < 2 ^ 0 = subst (λ (x : ℕ). left < 2 ^ x) z h in
    omega arith
