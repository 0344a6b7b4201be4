-- A log's records as its chunks of eight bytes: their test, and where those of two logs part. Assumes nothing.
use mathlib.Core.Path.{◌∙◌, ◌≡◌, ap, ap₂, refl, sym}
use mathlib.Core.Bool.{Bool, ◌&&◌, cond, false, not, true}
use mathlib.Core.List.{List, [], ◌∷◌, map}
use mathlib.Core.Option
use mathlib.Core.Option.{Option, none, some}
use Prim.Native.Nat.{◌*◌, ◌+◌, ◌/◌, ◌%◌, min, suc, zero, ℕ}
use lib.Dec.{eqb, eqb-suc-suc, eqb-suc-zero, eqb-zero-suc}
use lib.ListN.{drop, length}
use native.Mathlib.Omega.{arith}
use Rattle.std.specs.Simd.{first_chunks}
use Rattle.std.specs.List.{list_all, position, position_from, zip}
use Rattle.std.specs.Bool.{then_some}
use Rattle.std.specs.Option.{option_or}
use Rattle.std.specs.Prelude.{None, Some}
use Rattle.std.specs.Prelude as P
use Rattle.std.proofs.lemmas.Iterator.Adapters.{position_from-zero}
use Rattle.std.proofs.lemmas.List.{drop-drop}
use Rattle.validation.specs.Tests.{first_failed}
use Rattle.logs.specs.Agreement.{agree}
use Rattle.logs.specs.Comparison.{divergence}
use Rattle.logs.specs.Entries.{entries_from, entries_of, entry_at, read_entry}
use Rattle.logs.specs.LogForm.{all_sound, is_sound_entry, log_tests}
use Rattle.log_comparison.specs.Types.{parted_of}

-- ---- the records

abbrev chunks_of : List ℕ → List (List ℕ)
chunks_of log = first_chunks 8 (length log / 8) log

from_chunks : (log : List ℕ) (k n : ℕ) → entries_from log k n ≡ map read_entry (first_chunks 8 n (drop (8 * k) log))
unfolding entries_from
from_chunks log k zero = refl
from_chunks log k (suc n) =
    let next : 8 * k + 8 ≡ 8 * suc k = omega arith in
    let rest : drop 8 (drop (8 * k) log) ≡ drop (8 * suc k) log = drop-drop 8 (8 * k) log ∙ ap (λ (m : ℕ). drop m log) next in
    ap (◌∷◌ (entry_at log k)) (from_chunks log (suc k) n ∙ ap (λ (bytes : List ℕ). map read_entry (first_chunks 8 n bytes)) (sym rest))

chunks : (log : List ℕ) → entries_of log ≡ map read_entry (chunks_of log)
unfolding entries_of
chunks log = from_chunks log 0 (length log / 8)

-- ---- their test

abbrev is_sound_at : List ℕ → Bool
is_sound_at bytes = is_sound_entry (read_entry bytes)

all_sound_at : (cs : List (List ℕ)) → all_sound (map read_entry cs) ≡ list_all is_sound_at cs
unfolding all_sound
all_sound_at [] = refl
all_sound_at (c ∷ cs) = ap (◌&&◌ (is_sound_at c)) (all_sound_at cs)

pub tests_as : (log : List ℕ) → first_failed (log_tests log)
    ≡ cond (eqb (length log % 8) 0) (cond (list_all is_sound_at (chunks_of log)) none (some 11)) (some 10)
unfolding first_failed
tests_as log =
    let sound : all_sound (entries_of log) ≡ list_all is_sound_at (chunks_of log) = ap all_sound (chunks log) ∙ all_sound_at (chunks_of log) in
    rw sound

-- ---- where two logs part

abbrev differ_at : List ℕ × List ℕ → Bool
differ_at p = not (agree (read_entry p.0) (read_entry p.1))

-- the end of the shorter list, if one is shorter
abbrev ends_from : ℕ → List (List ℕ) → List (List ℕ) → P.Option ℕ
ends_from i cs ds = then_some (not (eqb (length cs) (length ds))) (i + min (length cs) (length ds))

ends_next : (i : ℕ) (c d : List ℕ) (cs ds : List (List ℕ)) → ends_from i (c ∷ cs) (d ∷ ds) ≡ ends_from (i + 1) cs ds
ends_next i c d cs ds =
    let e : i + min (suc (length cs)) (suc (length ds)) ≡ i + 1 + min (length cs) (length ds) = omega arith in
    ap₂ (λ (t : Bool) (k : ℕ). then_some (not t) k) (eqb-suc-suc (length cs) (length ds)) e

later : (i : ℕ) (o : Option ℕ) → Option.map (λ (k : ℕ). i + 1 + k) o ≡ Option.map (λ (k : ℕ). i + k) (Option.map suc o)
later i none = refl
later i (some k) = ap some (omega arith)

parted_from : (i : ℕ) (cs ds : List (List ℕ)) → parted_of (option_or (position_from differ_at i (zip cs ds)) (ends_from i cs ds))
    ≡ Option.map (λ (k : ℕ). i + k) (divergence (map read_entry cs) (map read_entry ds))
unfolding divergence
parted_from i [] [] = refl
parted_from i [] (d ∷ ds) = rw (eqb-zero-suc (length ds)) (ap some (omega arith))
parted_from i (c ∷ cs) [] = rw (eqb-suc-zero (length cs)) (ap some (omega arith))
parted_from i (c ∷ cs) (d ∷ ds) = go (agree (read_entry c) (read_entry d)) (parted_from (i + 1) cs ds)
  where
    rest : P.Option ℕ
    rest = position_from differ_at (i + 1) (zip cs ds)

    after : Option ℕ
    after = divergence (map read_entry cs) (map read_entry ds)

    go : (b : Bool) → parted_of (option_or rest (ends_from (i + 1) cs ds)) ≡ Option.map (λ (k : ℕ). i + 1 + k) after
        → parted_of (option_or (cond (not b) (Some i) rest) (ends_from i (c ∷ cs) (d ∷ ds)))
        ≡ Option.map (λ (k : ℕ). i + k) (cond b (Option.map suc after) (some 0))
    go true e = ap (λ (o : P.Option ℕ). parted_of (option_or rest o)) (ends_next i c d cs ds) ∙ e ∙ later i after
    go false e = ap some (omega arith)

same_map : (o : Option ℕ) → Option.map (λ (k : ℕ). 0 + k) o ≡ o
same_map none = refl
same_map (some k) = ap some (omega arith)

pub parted : (first second : List ℕ) → (let cs = chunks_of first in let ds = chunks_of second in
    parted_of (option_or (position differ_at (zip cs ds)) (then_some (not (eqb (length cs) (length ds))) (min (length cs) (length ds))))
    ≡ divergence (entries_of first) (entries_of second))
parted first second =
    let cs = chunks_of first in
    let ds = chunks_of second in
    let pairs = zip cs ds in
    let shorter : min (length cs) (length ds) ≡ 0 + min (length cs) (length ds) = omega arith in
    ap₂ (λ (r : P.Option ℕ) (k : ℕ). parted_of (option_or r (then_some (not (eqb (length cs) (length ds))) k))) (position_from-zero differ_at pairs) shorter
    ∙ parted_from 0 cs ds ∙ same_map (divergence (map read_entry cs) (map read_entry ds)) ∙ ap₂ divergence (sym (chunks first)) (sym (chunks second))
