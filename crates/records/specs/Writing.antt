-- Document 01, "Atoms and records", and document 02, R-2: records as their writer writes them. Assumes nothing.
use Rattle.std.specs.Prelude.{List, [], ◌++◌, ◌∷◌, ◌*◌, ◌+◌, ℕ, drop, take}
use Rattle.encoding.specs.LittleEndian.{bytes_of}
use Rattle.atoms.specs.Sets.{empty, set_of}
use Rattle.records.specs.Records.{Record, access_kind, disclosure_kind, weight_kind}

unfoldable pub write_record : Record → List ℕ
write_record d = d.kind ∷ d.rule.head ∷ (bytes_of 8 d.rule.positive ++ bytes_of 8 d.rule.negated)

-- "record k is the part that begins at byte 18 times k": the same bytes, with this record there
unfoldable pub with_record : List ℕ → ℕ → Record → List ℕ
with_record bytes k d = take (18 * k) bytes ++ (write_record d ++ drop (18 * k + 18) bytes)

-- a policy is its records, "no header"
unfoldable pub write_records : List Record → List ℕ
write_records [] = []
write_records (d ∷ ds) = write_record d ++ write_records ds

-- ---- atoms by number

-- an access record: "16 if 2 and not 3" is `16 if 2 ∷ [] not (3 ∷ [])`
infix 10 ◌if◌not◌
unfoldable pub ◌if◌not◌ : ℕ → List ℕ → List ℕ → List ℕ
h if positive not negated =
    write_record (record { kind = access_kind; rule = record { head = h; positive = set_of positive; negated = set_of negated } })

-- a disclosure record: of "disclosure 0 always; 1 if 0" the first is `disclose 0 if []`, the second `disclose 1 if (0 ∷ [])`
infix 10 disclose◌if◌
unfoldable pub disclose◌if◌ : ℕ → List ℕ → List ℕ
disclose h if positive =
    write_record (record { kind = disclosure_kind; rule = record { head = h; positive = set_of positive; negated = empty } })

-- a record of kind 3 that "gives a credential (head) a weight 0 to 15 in its positive set's number": `credential 2 weighing 3` gives credential 2 the weight 3
infix 10 credential◌weighing◌
unfoldable pub credential◌weighing◌ : ℕ → ℕ → List ℕ
credential h weighing w = write_record (record { kind = weight_kind; rule = record { head = h; positive = w; negated = empty } })
