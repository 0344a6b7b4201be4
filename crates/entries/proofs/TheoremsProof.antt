-- The theorem of specs/Theorems: the map has a way back. Assumes nothing.
use mathlib.Core.Path.{◌≡◌, refl}
use Rattle.atoms.proofs.MapLaws.{one_to_one}
use Rattle.logs.specs.Entries as E
use Rattle.entries.specs.Theorems.{Theorems}
use Rattle.entries.specs.Types.{entry_of}
use Rattle.entries.specs.declared.Entry.{Entry}

entry_back : E.Entry → Entry
entry_back x = record { shown = x.shown; answer = x.answer; asked = x.asked; count = x.count; pad = x.pad }

entry_back_lem : (x : Entry) → entry_back (entry_of x) ≡ x
unfolding entry_back
entry_back_lem x = refl

pub theorems : Theorems
theorems = record { one_to_one = one_to_one entry_of entry_back entry_back_lem }
