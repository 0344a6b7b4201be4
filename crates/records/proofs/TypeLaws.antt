-- What the program's record means is one-to-one: the map has a way back. Assumes nothing.
use mathlib.Core.Path.{◌≡◌, refl}
use Rattle.atoms.proofs.MapLaws.{one_to_one}
use Rattle.records.specs.Records as R
use Rattle.records.specs.Types.{record_of}
use Rattle.records.specs.declared.Record.{Record}

record_back : R.Record → Record
record_back d = record {
  kind = d.kind;
  head = d.rule.head;
  positive = record { bits = d.rule.positive };
  negated = record { bits = d.rule.negated };
}

record_back_lem : (x : Record) → record_back (record_of x) ≡ x
unfolding record_back
record_back_lem x = refl

pub record_one : (x y : Record) → record_of x ≡ record_of y → x ≡ y
record_one = one_to_one record_of record_back record_back_lem
