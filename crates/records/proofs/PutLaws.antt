-- A record written in its place. Assumes nothing.
use mathlib.Core.Path.{◌∙◌, ◌≡◌, ap, refl, sym}
use mathlib.Core.Logic.{◌≢◌}
use mathlib.Core.List.{List, ◌++◌, append_assoc}
use Prim.Native.Nat.{◌*◌, ◌+◌, ◌-◌, ◌<◌, ◌≤◌, ℕ}
use lib.ListN.{drop, length, length-append, length-drop, length-take, take, take-append-drop}
use lib.Seq.{drop-append-add, drop-append-le, drop_at, drop-drop, take-append-le}
use native.Mathlib.Decide.{dec_lt}
use native.Mathlib.Omega.{arith}
use Rattle.encoding.specs.LittleEndian.{bytes_of}
use Rattle.records.specs.Records.{Record, read_record, record_at}
use Rattle.records.specs.Theorems.{Sized}
use Rattle.records.specs.Writing.{with_record, write_record}
use Rattle.records.proofs.WritingLaws.{read_written}

written_length : (d : Record) → length (write_record d) ≡ 18
unfolding write_record bytes_of
written_length d = refl

-- record j lies within the first part, whatever follows that
front_same : (front xs ys : List ℕ) (j : ℕ) → 18 * j + 18 ≤ length front → record_at (front ++ xs) j ≡ record_at (front ++ ys) j
front_same front xs ys j l = ap read_record (inside xs ∙ sym (inside ys))
  where
    inside : (zs : List ℕ) → take 18 (drop (18 * j) (front ++ zs)) ≡ take 18 (drop (18 * j) front)
    inside zs =
        ap (take 18) (drop-append-le (18 * j) front zs (omega arith))
        ∙ take-append-le 18 (drop (18 * j) front) zs (simp (length-drop {A = ℕ}) (omega arith))

module _ (bytes : List ℕ) (k : ℕ) (l : 18 * k + 18 ≤ length bytes) (d : Record) where
  before : List ℕ
  before = take (18 * k) bytes

  after : List ℕ
  after = drop (18 * k + 18) bytes

  before_length : length before ≡ 18 * k
  unfolding before
  before_length = simp (length-take {A = ℕ}) (omega arith)

  pub written_there : Sized d → record_at (with_record bytes k d) k ≡ d
  unfolding with_record before after
  written_there h =
      ap (λ (x : List ℕ). read_record (take 18 x)) (drop_at before (write_record d ++ after) (18 * k) before_length) ∙ read_written d h after

  pub as_long : length (with_record bytes k d) ≡ length bytes
  unfolding with_record before after
  as_long =
      simp (length-append {A = ℕ}) (omega (arith, before_length, written_length d, length-drop {A = ℕ} (18 * k + 18) bytes))

  earlier : (j : ℕ) → j < k → record_at (with_record bytes k d) j ≡ record_at bytes j
  unfolding with_record before
  earlier j i =
      front_same before (write_record d ++ drop (18 * k + 18) bytes) (drop (18 * k) bytes) j (omega (arith, before_length))
      ∙ ap (λ (x : List ℕ). record_at x j) (take-append-drop (18 * k) bytes)

  later : (j : ℕ) → k < j → record_at (with_record bytes k d) j ≡ record_at bytes j
  unfolding with_record before after
  later j i = ap (λ (x : List ℕ). read_record (take 18 x)) (past ∙ drop-drop (18 * j - (18 * k + 18)) (18 * k + 18) bytes ∙ ap (λ (n : ℕ). drop n bytes) place)
    where
      place : 18 * k + 18 + (18 * j - (18 * k + 18)) ≡ 18 * j
      place = omega arith

      whole : length (take (18 * k) bytes ++ write_record d) ≡ 18 * k + 18
      whole = simp (length-append {A = ℕ}) (omega (arith, before_length, written_length d))

      past : drop (18 * j) (take (18 * k) bytes ++ (write_record d ++ drop (18 * k + 18) bytes)) ≡ drop (18 * j - (18 * k + 18)) (drop (18 * k + 18) bytes)
      past =
          let there : 18 * j ≡ length (take (18 * k) bytes ++ write_record d) + (18 * j - (18 * k + 18)) = omega (arith, whole) in
          ap (λ (x : List ℕ). drop (18 * j) x) (sym (append_assoc (take (18 * k) bytes) (write_record d) (drop (18 * k + 18) bytes)))
          ∙ ap (λ (n : ℕ). drop n ((take (18 * k) bytes ++ write_record d) ++ drop (18 * k + 18) bytes)) there
          ∙ drop-append-add (take (18 * k) bytes ++ write_record d) (drop (18 * k + 18) bytes) (18 * j - (18 * k + 18))

  pub others : (j : ℕ) → j ≢ k → record_at (with_record bytes k d) j ≡ record_at bytes j
  others j n = go (dec_lt j k) (dec_lt k j)
    where
      go : Dec (j < k) → Dec (k < j) → record_at (with_record bytes k d) j ≡ record_at bytes j
      go (yes i) _ = earlier j i
      go (no _) (yes i) = later j i
      go (no i) (no h) = absurd (n (omega arith))
