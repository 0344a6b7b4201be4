-- The digits of a number say it, and no others do. Assumes nothing.
use mathlib.Core.Path.{◌∙◌, ◌≡◌, ap, refl, subst, sym}
use mathlib.Core.Logic.{◌↔◌, ◌≢◌}
use mathlib.Core.Bool.{Bool, false, true}
use mathlib.Core.List.{List, [], ◌∷◌, map}
use Prim.Native.Nat.{◌%◌, ◌*◌, ◌+◌, ◌/◌, ◌<◌, ◌^◌, ◌≤◌, suc, zero, ℕ}
use lib.Dec.{ltb}
use lib.ListN.{get_or, length}
use borrow.Author.Tests.{ltb-false, ltb-true}
use native.Mathlib.Nat.{mul-le-mul, pow-le-pow_right}
use native.Mathlib.Omega.{arith}
use Rattle.lists.specs.Lists.{Every}
use Rattle.transcript.specs.Numerals.{Decimal, Hexadecimal, ascii, decimal, decimal_in, digit, hexadecimal, value_of}
use Rattle.transcript.specs.NumeralTheorems.{NumeralTheorems}
use Rattle.transcript.proofs.NumeralLaws.{decimal_one, decimal_three, decimal_two, digit_letter, digit_ten}

-- ---- digits

-- the bytes of n digits, from k on
abbrev digits_from : ℕ → ℕ → List ℕ
digits_from zero k = []
digits_from (suc n) k = digit k ∷ digits_from n (suc k)

digits_from-at : (n k d : ℕ) → d < n → get_or (digits_from n k) d 0 ≡ digit (k + d)
digits_from-at zero k d l = absurd (omega arith)
digits_from-at (suc n) k zero l = let e : k + 0 ≡ k = omega arith in rw e refl
digits_from-at (suc n) k (suc d) l = let e : k + suc d ≡ suc k + d = omega arith in rw e (digits_from-at n (suc k) d (omega arith))

all_digits : digits_from 16 0 ≡ ascii "0123456789abcdef"
unfolding digit
all_digits = refl

digits : (d : ℕ) → d < 16 → digit d ≡ get_or (ascii "0123456789abcdef") d 0
digits d l =
    let e : 0 + d ≡ d = omega arith in
    sym (ap digit e) ∙ sym (digits_from-at 16 0 d l) ∙ ap (λ (xs : List ℕ). get_or xs d 0) all_digits

one_to_one : (a b : ℕ) → a < 16 → b < 16 → digit a ≡ digit b → a ≡ b
one_to_one a b l m e = go (ltb a 10) (ltb b 10) refl refl
  where
    go : (x y : Bool) → ltb a 10 ≡ x → ltb b 10 ≡ y → a ≡ b
    go true true p q = omega (arith, digit_ten a (ltb-true a 10 p), digit_ten b (ltb-true b 10 q))
    go true false p q = omega (arith, ltb-true a 10 p, digit_ten a (ltb-true a 10 p), digit_letter b (ltb-false b 10 q))
    go false true p q = omega (arith, ltb-true b 10 q, digit_letter a (ltb-false a 10 p), digit_ten b (ltb-true b 10 q))
    go false false p q = omega (arith, digit_letter a (ltb-false a 10 p), digit_letter b (ltb-false b 10 q))

-- ---- four hexadecimal digits

four : (n a b c d : ℕ) → n < 2 ^ 16 → a ≡ n / 4096 → b ≡ n / 256 % 16 → c ≡ n / 16 % 16 → d ≡ n % 16 → value_of 16 (a ∷ b ∷ c ∷ d ∷ []) ≡ n
unfolding value_of
four n a b c d l p q r s = omega arith

hexadecimal_is : (n : ℕ) → n < 2 ^ 16 → (xs : List ℕ) → xs ≡ hexadecimal n → Hexadecimal n xs
unfolding hexadecimal
hexadecimal_is n l xs e = record {
  says = record {
    digits = n / 4096 ∷ n / 256 % 16 ∷ n / 16 % 16 ∷ n % 16 ∷ [];
    below = (omega arith, (omega arith, (omega arith, (omega arith, tt))));
    value = four n (n / 4096) (n / 256 % 16) (n / 16 % 16) (n % 16) l refl refl refl refl;
    text = e;
  };
  four = ap length e;
}

hexadecimal_of : (n : ℕ) (ds : List ℕ) → Every (λ d. d < 16) ds → value_of 16 ds ≡ n → length (map digit ds) ≡ 4 → map digit ds ≡ hexadecimal n
unfolding value_of hexadecimal
hexadecimal_of n [] u v w = absurd (omega arith)
hexadecimal_of n (a ∷ []) u v w = absurd (omega arith)
hexadecimal_of n (a ∷ b ∷ []) u v w = absurd (omega arith)
hexadecimal_of n (a ∷ b ∷ c ∷ []) u v w = absurd (omega arith)
hexadecimal_of n (a ∷ b ∷ c ∷ d ∷ []) (i, (j, (k, (l, _)))) v w =
    let p : n / 4096 ≡ a = omega arith in
    let q : n / 256 % 16 ≡ b = omega arith in
    let r : n / 16 % 16 ≡ c = omega arith in
    let s : n % 16 ≡ d = omega arith in
    rw (p, q, r, s) refl
hexadecimal_of n (a ∷ b ∷ c ∷ d ∷ e ∷ ds) u v w = absurd (omega arith)

hexadecimal_means : (n : ℕ) → n < 2 ^ 16 → (xs : List ℕ) → (xs ≡ hexadecimal n) ↔ Hexadecimal n xs
hexadecimal_means n l xs = (hexadecimal_is n l xs, back)
  where
    back : Hexadecimal n xs → xs ≡ hexadecimal n
    back h =
        let s = h.says in
        s.text ∙ hexadecimal_of n s.digits s.below s.value (sym (ap length s.text) ∙ h.four)

-- ---- decimal digits

-- a first digit other than 0, and three more or more after it
large : (a k : ℕ) → 1 ≤ a → 3 ≤ k → 1000 ≤ a * 10 ^ k
large a k l m = omega (arith, mul-le-mul l (pow-le-pow_right {n = 10} (omega arith) m))

one_is : (n : ℕ) → n < 10 → Decimal n (digit n ∷ [])
unfolding value_of
one_is n l = record {
  says = record { digits = n ∷ []; below = (l, tt); value = omega arith; text = refl };
  some = λ e. let z : ◌≡◌ {A = ℕ} 0 1 = cc in omega arith;
  no_zero = λ ys e. cc;
}

-- the first digit's byte is that of 0 for 0 alone
first : (a : ℕ) → 1 ≤ a → a < 10 → digit a ≡ digit 0 → ⊥
first a l m e = omega (arith, one_to_one a 0 (omega arith) (omega arith) e)

two_is : (n : ℕ) → 10 ≤ n → n < 100 → Decimal n (digit (n / 10) ∷ digit (n % 10) ∷ [])
unfolding value_of
two_is n l m = record {
  says = record { digits = n / 10 ∷ n % 10 ∷ []; below = (omega arith, (omega arith, tt)); value = omega arith; text = refl };
  some = λ e. let z : ◌≡◌ {A = ℕ} 0 1 = cc in omega arith;
  no_zero = λ ys e. absurd (first (n / 10) (omega arith) (omega arith) (cc));
}

three_is : (n : ℕ) → 100 ≤ n → n < 1000 → Decimal n (digit (n / 100) ∷ digit (n / 10 % 10) ∷ digit (n % 10) ∷ [])
unfolding value_of
three_is n l m = record {
  says = record {
    digits = n / 100 ∷ n / 10 % 10 ∷ n % 10 ∷ [];
    below = (omega arith, (omega arith, (omega arith, tt)));
    value = omega arith;
    text = refl;
  };
  some = λ e. let z : ◌≡◌ {A = ℕ} 0 1 = cc in omega arith;
  no_zero = λ ys e. absurd (first (n / 100) (omega arith) (omega arith) (cc));
}

decimal_is : (n : ℕ) → n < 1000 → Decimal n (decimal n)
decimal_is n l = go (ltb n 10) (ltb n 100) refl refl
  where
    go : (a b : Bool) → ltb n 10 ≡ a → ltb n 100 ≡ b → Decimal n (decimal n)
    go true b e f = rw (decimal_one n (ltb-true n 10 e)) (one_is n (ltb-true n 10 e))
    go false true e f = rw (decimal_two n (ltb-false n 10 e) (ltb-true n 100 f)) (two_is n (ltb-false n 10 e) (ltb-true n 100 f))
    go false false e f = rw (decimal_three n (ltb-false n 100 f) l) (three_is n (ltb-false n 100 f) l)

-- a digit with others after it is not 0
not_zero : (a b : ℕ) (ds : List ℕ) → ((ys : List ℕ) → map digit (a ∷ b ∷ ds) ≡ digit 0 ∷ ys → ys ≡ []) → 1 ≤ a
not_zero zero b ds h =
    let e = h (map digit (b ∷ ds)) refl in
    let z : ◌≡◌ {A = ℕ} 0 1 = cc in
    absurd (omega arith)
not_zero (suc a) b ds h = omega arith

decimal_of : (n : ℕ) (ds : List ℕ) → n < 1000 → Every (λ d. d < 10) ds → value_of 10 ds ≡ n → map digit ds ≢ []
    → ((ys : List ℕ) → map digit ds ≡ digit 0 ∷ ys → ys ≡ []) → map digit ds ≡ decimal n
unfolding value_of
decimal_of n [] l u v s h = absurd (s refl)
decimal_of n (a ∷ []) l (i, _) v s h =
    let e : n ≡ a = omega arith in
    sym (decimal_one n (omega arith) ∙ rw e refl)
decimal_of n (a ∷ b ∷ []) l (i, (j, _)) v s h =
    let o : 1 ≤ a = not_zero a b [] h in
    let p : n / 10 ≡ a = omega arith in
    let q : n % 10 ≡ b = omega arith in
    sym (decimal_two n (omega arith) (omega arith) ∙ rw (p, q) refl)
decimal_of n (a ∷ b ∷ c ∷ []) l (i, (j, (k, _))) v s h =
    let o : 1 ≤ a = not_zero a b (c ∷ []) h in
    let p : n / 100 ≡ a = omega arith in
    let q : n / 10 % 10 ≡ b = omega arith in
    let r : n % 10 ≡ c = omega arith in
    sym (decimal_three n (omega arith) l ∙ rw (p, q, r) refl)
decimal_of n (a ∷ b ∷ c ∷ d ∷ ds) l u v s h =
    let o : 1 ≤ a = not_zero a b (c ∷ d ∷ ds) h in
    absurd (omega (arith, large a (length (b ∷ c ∷ d ∷ ds)) o (omega arith)))

decimal_means : (n : ℕ) → n < 1000 → (xs : List ℕ) → (xs ≡ decimal n) ↔ Decimal n xs
decimal_means n l xs = (λ e. subst (Decimal n) (sym e) (decimal_is n l), back)
  where
    back : Decimal n xs → xs ≡ decimal n
    back h =
        let s = h.says in
        let t = s.text in
        t ∙ decimal_of n s.digits l s.below s.value (λ e. h.some (t ∙ e)) (λ ys e. h.no_zero ys (t ∙ e))

-- ---- examples

one_digit : (decimal 0 ≡ ascii "0") × (decimal 9 ≡ ascii "9")
unfolding decimal_in digit
one_digit = (refl, refl)

two_digits : (decimal 10 ≡ ascii "10") × ((decimal 17 ≡ ascii "17") × (decimal 99 ≡ ascii "99"))
unfolding decimal_in digit
two_digits = (refl, (refl, refl))

three_digits : (decimal 100 ≡ ascii "100") × ((decimal 128 ≡ ascii "128") × (decimal 255 ≡ ascii "255"))
unfolding decimal_in digit
three_digits = (refl, (refl, refl))

zeros : (hexadecimal 0 ≡ ascii "0000") × ((hexadecimal 4 ≡ ascii "0004") × (hexadecimal 0x00ab ≡ ascii "00ab"))
unfolding hexadecimal digit
zeros = (refl, (refl, refl))

letters : (hexadecimal 0xbeef ≡ ascii "beef") × (hexadecimal 65535 ≡ ascii "ffff")
unfolding hexadecimal digit
letters = (refl, refl)

pub theorems : NumeralTheorems
theorems = record {
  spelled = λ c s. refl;
  text_bytes = refl;
  digits = digits;
  one_to_one = one_to_one;
  hexadecimal_means = hexadecimal_means;
  decimal_means = decimal_means;
  one_digit = one_digit;
  two_digits = two_digits;
  three_digits = three_digits;
  zeros = zeros;
  letters = letters;
}
