-- What is written is what is read. Assumes nothing.
use mathlib.Core.Path.{◌∙◌, ◌≡◌, ap, ap₂, refl}
use mathlib.Core.List.{List, [], ◌++◌, ◌∷◌}
use Prim.Native.Nat.{◌*◌, ◌+◌, suc, zero, ℕ}
use lib.ListN.{drop, length, length-append, take}
use lib.Seq.{drop-append-add}
use native.Mathlib.Omega.{arith}
use Rattle.encoding.specs.LittleEndian.{bytes_of}
use Rattle.encoding.proofs.ByteLaws.{read_back}
use Rattle.lists.specs.Lists.{Every}
use Rattle.records.specs.Records.{Record, read_record, record_at, records_from, records_of, whole_records}
use Rattle.records.specs.Theorems.{Sized}
use Rattle.records.specs.Writing.{write_record, write_records}

-- one record, whatever follows it
pub read_written : (d : Record) → Sized d → (bs : List ℕ) → record_at (write_record d ++ bs) 0 ≡ d
unfolding read_record write_record bytes_of
read_written d h bs = rw (read_back 8 d.rule.positive h.positive, read_back 8 d.rule.negated h.negated)

-- a record before makes each the next one
record_next : (d : Record) (bs : List ℕ) (k : ℕ) → record_at (write_record d ++ bs) (suc k) ≡ record_at bs k
unfolding write_record bytes_of
record_next d bs k =
    let e : 18 * suc k ≡ 18 + 18 * k = omega arith in
    ap (λ (n : ℕ). read_record (take 18 (drop n (write_record d ++ bs)))) e
    ∙ ap (λ (l : List ℕ). read_record (take 18 l)) (drop-append-add (write_record d) bs (18 * k))

records_next : (d : Record) (bs : List ℕ) (k n : ℕ) → records_from (write_record d ++ bs) (suc k) n ≡ records_from bs k n
unfolding records_from
records_next d bs k zero = refl
records_next d bs k (suc n) = ap₂ ◌∷◌ (record_next d bs k) (records_next d bs (suc k) n)

whole_next : (d : Record) (bs : List ℕ) → whole_records (write_record d ++ bs) ≡ suc (whole_records bs)
unfolding write_record bytes_of
whole_next d bs = let e : length (write_record d ++ bs) ≡ 18 + length bs = length-append (write_record d) bs in omega (arith, e)

pub written : (ds : List Record) → Every Sized ds → records_of (write_records ds) ≡ ds
unfolding records_of records_from write_records
written [] h = refl
written (d ∷ ds) h =
    ap (records_from (write_record d ++ write_records ds) 0) (whole_next d (write_records ds))
    ∙ ap₂ ◌∷◌ (read_written d h.0 (write_records ds)) (records_next d (write_records ds) 0 (whole_records (write_records ds)) ∙ written ds h.1)
