-- The examples of specs/Examples, computed. Assumes nothing.
use mathlib.Core.Path.{refl}
use Rattle.encoding.specs.LittleEndian.{little_endian}
use Rattle.validation.specs.Tests.{first_failed}
use Rattle.logs.specs.Agreement.{agree}
use Rattle.logs.specs.Comparison.{compared, divergence}
use Rattle.logs.specs.Entries.{entries_from, entries_of, read_entry}
use Rattle.logs.specs.Examples.{AllFaults, Examples, faults}
use Rattle.logs.specs.LogForm.{all_sound, comparison_tests, is_sound_entry}

all_faulty : AllFaults faults
unfolding compared first_failed comparison_tests all_sound is_sound_entry divergence agree entries_of entries_from read_entry little_endian
all_faulty = (
  record { alone = refl; after_parting = refl; too_long = refl; first_first = refl; second_next = refl },
  (
    record { alone = refl; after_parting = refl; too_long = refl; first_first = refl; second_next = refl },
    (
      record { alone = refl; after_parting = refl; too_long = refl; first_first = refl; second_next = refl },
      (
        record { alone = refl; after_parting = refl; too_long = refl; first_first = refl; second_next = refl },
        (
          record { alone = refl; after_parting = refl; too_long = refl; first_first = refl; second_next = refl },
          (
            record { alone = refl; after_parting = refl; too_long = refl; first_first = refl; second_next = refl },
            (
              record { alone = refl; after_parting = refl; too_long = refl; first_first = refl; second_next = refl },
              (record { alone = refl; after_parting = refl; too_long = refl; first_first = refl; second_next = refl }, tt),
            ),
          ),
        ),
      ),
    ),
  ),
)

pub examples : Examples
unfolding compared first_failed comparison_tests all_sound is_sound_entry divergence agree entries_of entries_from read_entry little_endian
examples = record {
  nothing = refl;
  agree = refl;
  at_0 = refl;
  at_1 = refl;
  at_2 = refl;
  first_ends = refl;
  second_ends = refl;
  no_first = refl;
  no_second = refl;
  short = refl;
  half = refl;
  long = refl;
  faulty = all_faulty;
}
