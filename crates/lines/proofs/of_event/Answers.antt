-- No event prints nothing. Assumes nothing.
use mathlib.Core.List.{flat_map}
use Rattle.std.proofs.Common.{rules}
use Rattle.transcript.specs.Output.{printed}
use Rattle.lines.proofs.of_event.Goals as goal

pub returns-in-Nothing : goal.returns-in-Nothing
unfolding printed flat_map
returns-in-Nothing c = record { says = rw c.in-Nothing.is c.empty.ensures; fits = search rules }
