-- What the program's record and kinds mean. Assumes nothing.
use Rattle.std.specs.Prelude.{◌≡◌, ◌≢◌, ℕ, Result, MatchResult}
use Rattle.records.specs.Records as R
use Rattle.records.specs.declared.Record.{Record}
use Rattle.records.specs.declared.kind.Kind.{Kind}
use Rattle.records.specs.declared.kind.Kind.TheVariants.{Access, Disclosure, Weight}
use Rattle.records.specs.declared.kind.UnknownKind.{UnknownKind}

abbrev pub record_of : Record → R.Record
record_of d = record {
  kind = d.kind;
  rule = record { head = d.head; positive = d.positive.bits; negated = d.negated.bits };
}

abbrev pub kind_of : Kind → ℕ
kind_of Access = R.access_kind
kind_of Disclosure = R.disclosure_kind
kind_of Weight = R.weight_kind

-- the kind of this number, or that it is the number of none
abbrev pub Kinds : ℕ → Result Kind UnknownKind → Type 0
Kinds n r = MatchResult r (λ k. kind_of k ≡ n) (λ e. (e.0 ≡ n) × ((n ≢ R.access_kind) × ((n ≢ R.disclosure_kind) × (n ≢ R.weight_kind))))
