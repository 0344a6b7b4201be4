-- `station_table::count_at` meets its contract: past the slots, and at one of them. Assumes nothing.
use mathlib.Core.Path.{◌∙◌, ap, sym}
use lib.ListN.{get_or-map}
use Rattle.slots.specs.Slots.{Slot}
use Rattle.operations.specs.AtSlot.{session_in}
use Rattle.slot_steps.specs.Types.{slot_of}
use Rattle.occupancy.specs.Types.{empty_slot}
use Rattle.station_table.proofs.count_at.Goals as goal

pub returns : goal.returns
returns c = c.count_of.ensures ∙ ap (λ (x : Slot). (session_in x).count) (sym (get_or-map slot_of c.args.slots c.args.slot empty_slot))
