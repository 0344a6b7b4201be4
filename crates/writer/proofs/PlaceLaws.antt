-- A record put in its place. Assumes nothing.
use mathlib.Core.Path.{◌∙◌, ◌≡◌, ap, ap₂}
use mathlib.Core.List.{List, ◌++◌}
use Prim.Native.Nat.{◌*◌, ◌+◌, ◌-◌, ℕ}
use lib.ListN.{drop, take}
use lib.Seq.{drop-drop}
use native.Mathlib.Omega.{arith}
use borrow.Rule.Slice.PartMut.{put_mid}
use Rattle.records.specs.Records.{Record}
use Rattle.records.specs.Writing.{with_record, write_record}

-- the part of record k, with the bytes of d in its place
pub put_record : (bytes : List ℕ) (k : ℕ) (d : Record) (ys : List ℕ) → ys ≡ write_record d
    → put_mid (18 * k) (18 * k + 18 - 18 * k) bytes ys ≡ with_record bytes k d
unfolding with_record
put_record bytes k d ys e =
    let whole : 18 * k + 18 - 18 * k ≡ 18 = omega arith in
    ap₂ (λ (x : List ℕ) (n : ℕ). take (18 * k) bytes ++ (x ++ drop n (drop (18 * k) bytes))) e whole
    ∙ ap (λ (x : List ℕ). take (18 * k) bytes ++ (write_record d ++ x)) (drop-drop 18 (18 * k) bytes)
