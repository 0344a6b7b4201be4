-- Calls of gate_open_at and gate_round_at one after another on one table. Assumes nothing.
use Rattle.std.specs.Prelude.{List, map, ℕ}
use Rattle.lists.specs.Runs.{Turn, run}
use Rattle.operations.specs.Operations.{Operation, opens, plays}
use Rattle.packing.specs.Exports.{Call}
use Rattle.slot_packing.specs.Calls.{open_at_call, round_at_call}

-- one of them
abbrev pub operation_call : List ℕ → Operation → Call
operation_call bytes (opens i o r) = open_at_call bytes i o r
operation_call bytes (plays policy i m) = round_at_call policy bytes i m.shows

-- each gets the bytes that the one before left
unfoldable pub table_calls : List ℕ → List Operation → List Call
table_calls bytes ops = map (λ (t : Turn Operation Call). t.gives) (run operation_call (λ (c : Call). c.leaves) bytes ops)
