-- A record by its first byte. Assumes nothing.
use mathlib.Core.Path.{◌≡◌, refl}
use mathlib.Core.List.{List, [], ◌∷◌}
use mathlib.Core.Logic.{◌≢◌}
use Prim.Native.Nat.{ℕ}
use lib.ListN.{get_or}
use borrow.Author.Tests.{ne_eqb}
use Rattle.encoding.specs.LittleEndian.{little_endian}
use Rattle.rounds.specs.Moves.{showing}
use Rattle.slots.specs.Openings.{open_at}
use Rattle.slots.specs.RoundsAt.{round_at}
use Rattle.slots.specs.Slots.{Slot}
use Rattle.previews.specs.Previews.{preview_at}
use Rattle.station_lines.specs.Steps.{opening_step, preview_step, record_step, round_step}

-- the number of a record
abbrev number_of : List ℕ → ℕ
number_of bytes = little_endian (get_or bytes 3 0 ∷ get_or bytes 4 0 ∷ [])

pub step_opens : (policy : List ℕ) (xs : List Slot) (bytes : List ℕ) → get_or bytes 0 0 ≡ 1
    → record_step policy xs bytes ≡ opening_step (get_or bytes 1 0) (open_at xs (get_or bytes 1 0) (get_or bytes 2 0) (number_of bytes))
unfolding record_step
step_opens policy xs bytes e = rw e refl

pub step_plays : (policy : List ℕ) (xs : List Slot) (bytes : List ℕ) → get_or bytes 0 0 ≡ 2
    → record_step policy xs bytes ≡ round_step (get_or bytes 1 0) (showing (number_of bytes)) (round_at policy xs (get_or bytes 1 0) (showing (number_of bytes)))
unfolding record_step
step_plays policy xs bytes e = rw e refl

pub step_previews : (policy : List ℕ) (xs : List Slot) (bytes : List ℕ) → get_or bytes 0 0 ≡ 3
    → record_step policy xs bytes ≡ preview_step (get_or bytes 1 0) (showing (number_of bytes)) (preview_at policy xs (get_or bytes 1 0) (showing (number_of bytes))) xs
unfolding record_step
step_previews policy xs bytes e = rw e refl

pub step_passes : (policy : List ℕ) (xs : List Slot) (bytes : List ℕ) → get_or bytes 0 0 ≢ 1 → get_or bytes 0 0 ≢ 2 → get_or bytes 0 0 ≢ 3
    → record_step policy xs bytes ≡ record { prints = []; table = xs }
unfolding record_step
step_passes policy xs bytes h k l = rw (ne_eqb (get_or bytes 0 0) 1 h, ne_eqb (get_or bytes 0 0) 2 k, ne_eqb (get_or bytes 0 0) 3 l) refl
