-- The theorem of the program's log record. Assumes nothing.
use Rattle.std.specs.Prelude.{◌≡◌}
use Rattle.entries.specs.Types.{entry_of}
use Rattle.entries.specs.declared.Entry.{Entry}

pub record Theorems : Type 0 where
  -- what the program's record means is one-to-one, so that a contract through this map fixes it
  pub one_to_one : (x y : Entry) → entry_of x ≡ entry_of y → x ≡ y
