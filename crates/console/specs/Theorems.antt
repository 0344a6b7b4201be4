-- The theorems of the bench program's steps. Assumes nothing.
use Rattle.std.specs.Prelude.{◌≡◌}
use Rattle.console.specs.Calls.{CallsMean, ProgramPrints, ProgramStops, ProgramTells}
use Rattle.console.specs.Steps.{reader_of}
use Rattle.console.specs.declared.reader.Reader.{Reader}

pub record Theorems : Type 0 where
  -- every list of calls tells and prints what is defined, and which lists these are
  pub tells : ProgramTells
  pub program : ProgramPrints
  pub stops : ProgramStops
  pub calls : CallsMean
  -- what a reader means is one-to-one
  pub reader_one : (x y : Reader) → reader_of x ≡ reader_of y → x ≡ y
