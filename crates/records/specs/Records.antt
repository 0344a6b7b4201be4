-- Document 01, "Atoms and records", and document 02, R-2: what a policy's bytes say. Assumes nothing.
use Rattle.std.specs.Prelude.{cond, List, [], ◌∷◌, ◌*◌, ◌/◌, suc, zero, ℕ, eqb, leb, drop, get_or, length, take}
use Rattle.encoding.specs.LittleEndian.{little_endian}
use Rattle.atoms.specs.Sets.{empty}
use Rattle.rules.specs.Rules.{Rule}

-- "Byte 0 is the kind: 1 access, 2 disclosure."
abbrev pub access_kind : ℕ
access_kind = 1

abbrev pub disclosure_kind : ℕ
disclosure_kind = 2

-- "A record of kind 3 gives a credential (head) a weight"
abbrev pub weight_kind : ℕ
weight_kind = 3

-- "records of 18 bytes": what one of them says
pub record Record : Type 0 where
  pub kind : ℕ
  pub rule : Rule

-- "Byte 0 is the kind". "Byte 1 is the head atom. Bytes 2 to 9 are the set of atoms that must hold, bytes 10 to 17 the set that must not, both
-- little-endian."
unfoldable pub read_record : List ℕ → Record
read_record bytes = record {
  kind = get_or bytes 0 0;
  rule = record {
    head = get_or bytes 1 0;
    positive = little_endian (take 8 (drop 2 bytes));
    negated = little_endian (take 8 (drop 10 bytes));
  };
}

-- fewer than 18 bytes say no record: a blank one, of no kind
abbrev pub blank : Record
blank = record { kind = 0; rule = record { head = 0; positive = empty; negated = empty } }

-- what the record reader gives of a part of a policy
abbrev pub read_part : List ℕ → Record
read_part bytes = cond (leb 18 (length bytes)) (read_record bytes) blank

-- "record k is the part that begins at byte 18 times k"
abbrev pub record_at : List ℕ → ℕ → Record
record_at bytes k = read_record (take 18 (drop (18 * k) bytes))

-- how many whole records there are
abbrev pub whole_records : List ℕ → ℕ
whole_records bytes = length bytes / 18

-- record k and those after it, n in all
unfoldable pub records_from : List ℕ → ℕ → ℕ → List Record
records_from bytes k zero = []
records_from bytes k (suc n) = record_at bytes k ∷ records_from bytes (suc k) n

-- the records before record k, in order
abbrev pub records_before : List ℕ → ℕ → List Record
records_before bytes k = records_from bytes 0 k

-- all whole records, in order
unfoldable pub records_of : List ℕ → List Record
records_of bytes = records_from bytes 0 (whole_records bytes)

-- the rules of the records of one kind, in order
unfoldable pub of_kind : ℕ → List Record → List Rule
of_kind k [] = []
of_kind k (d ∷ ds) = cond (eqb d.kind k) (d.rule ∷ of_kind k ds) (of_kind k ds)

-- a policy's rules of one kind: `rules_of access_kind` are its access rules
unfoldable pub rules_of : ℕ → List ℕ → List Rule
rules_of k bytes = of_kind k (records_of bytes)
