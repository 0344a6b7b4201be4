-- What the program's types give: the sets of a slot's session are 16-bit numbers. Assumes nothing.
use Rattle.std.specs.Prelude.{None, Option, Some}
use mathlib.Core.List.{List}
use mir.Val.{Val}
use denote.Laws.{Is}
use Rattle.slots.specs.Theorems.{Fits}
use Rattle.session.proofs.FitLaws.{session_fits}
use Rattle.slot_steps.specs.Types.{holding_of, slot_of}
use Rattle.slot_steps.specs.declared.Holding.{Holding}
use Rattle.slot_steps.specs.declared.Slot.{Slot}
use Rattle.slot_steps.specs.contracts.Holding as holding
use Rattle.std.specs.contracts.option.Option.{the_row as option_row}
use Rattle.slot_steps.specs.contracts.Slot as slot

holding_fits : (h : Option Holding) (vs : List Val) → Is (option_row holding.the_row) h vs → Fits (holding_of h)
holding_fits None vs is = tt
holding_fits (Some h) vs is = session_fits h.session _ is.1.1.1.1.0.1.1.1.0

pub slot_fits : (x : Slot) (vs : List Val) → Is slot.the_row x vs → Fits (slot_of x)
slot_fits x vs is = holding_fits x.holding _ is.1.1.0
