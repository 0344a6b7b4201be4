-- The theorems of lists of calls on a lent list of slots. Assumes nothing.
use Rattle.table_calls.specs.Calls.{CallsMean, ProgramMeets}

pub record Theorems : Type 0 where
  -- which lists are lists of calls, and what holds of them
  pub calls : CallsMean
  pub program : ProgramMeets
