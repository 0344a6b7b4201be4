-- Numbers as text, as the program writes them. Assumes nothing.
use mathlib.Core.Path.{◌≡◌, refl}
use mathlib.Core.Bool.{Bool, false, true}
use mathlib.Core.List.{[], ◌∷◌}
use Prim.Native.Nat.{◌%◌, ◌+◌, ◌/◌, ◌<◌, ◌≤◌, ℕ}
use lib.Dec.{ltb}
use lib.ListN.{length}
use borrow.Author.Tests.{le-ltb, lt-ltb, ltb-false, ltb-true}
use native.Mathlib.Omega.{arith}
use Rattle.transcript.specs.Numerals.{decimal, decimal_in, digit, hexadecimal}

pub digit_ten : (d : ℕ) → d < 10 → digit d ≡ 48 + d
unfolding digit
digit_ten d l = rw (lt-ltb d 10 l) refl

pub digit_letter : (d : ℕ) → 10 ≤ d → digit d ≡ 87 + d
unfolding digit
digit_letter d l = rw (le-ltb d 10 l) refl

pub decimal_one : (n : ℕ) → n < 10 → decimal n ≡ digit n ∷ []
unfolding decimal_in
decimal_one n l = rw (lt-ltb n 10 l) refl

pub decimal_two : (n : ℕ) → 10 ≤ n → n < 100 → decimal n ≡ digit (n / 10) ∷ digit (n % 10) ∷ []
unfolding decimal_in
decimal_two n m l =
    let a : n / 10 < 10 = omega arith in
    rw (le-ltb n 10 m, lt-ltb (n / 10) 10 a) refl

pub decimal_three : (n : ℕ) → 100 ≤ n → n < 1000 → decimal n ≡ digit (n / 100) ∷ digit (n / 10 % 10) ∷ digit (n % 10) ∷ []
unfolding decimal_in
decimal_three n m l =
    let a : 10 ≤ n = omega arith in
    let b : 10 ≤ n / 10 = omega arith in
    let e : n / 10 / 10 ≡ n / 100 = omega arith in
    let d : n / 100 < 10 = omega arith in
    rw (le-ltb n 10 a, le-ltb (n / 10) 10 b, e, lt-ltb (n / 100) 10 d) refl

-- ---- how long they are

pub decimal_most : (n : ℕ) → n < 1000 → length (decimal n) ≤ 3
decimal_most n l = go (ltb n 10) (ltb n 100) refl refl
  where
    go : (a b : Bool) → ltb n 10 ≡ a → ltb n 100 ≡ b → length (decimal n) ≤ 3
    go true b e f = rw (decimal_one n (ltb-true n 10 e)) (omega arith)
    go false true e f = rw (decimal_two n (ltb-false n 10 e) (ltb-true n 100 f)) (omega arith)
    go false false e f = rw (decimal_three n (ltb-false n 100 f) l) (omega arith)

pub hexadecimal_length : (n : ℕ) → length (hexadecimal n) ≡ 4
unfolding hexadecimal
hexadecimal_length n = refl
