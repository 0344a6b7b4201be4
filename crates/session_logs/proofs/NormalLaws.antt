-- The records of a log as they are read. Assumes nothing.
use mathlib.Core.Path.{◌∙◌, ◌≡◌, ap, refl}
use mathlib.Core.List.{List, [], ◌∷◌, map}
use Prim.Native.Nat.{suc, zero, ℕ}
use lib.ListN.{take}
use Rattle.lists.specs.Runs.{Turn}
use Rattle.rounds.specs.Moves.{Move}
use Rattle.rounds.specs.Rounds.{Outcome}
use Rattle.logs.specs.Entries.{Entry, entries_of, read_entry, write_entry}
use Rattle.logs.proofs.EntryLaws.{entries_written}
use Rattle.session_logs.specs.Implementations.{Said, said_of}
use Rattle.session_logs.specs.SessionLogs.{log_of}
use Rattle.session_logs.proofs.SaidLaws.{log_said, said_entry}

-- a record as it is read
unfoldable pub normal : Said → Entry
normal x = read_entry (write_entry (said_entry x))

pub take_map : {A B : Type 0} (f : A → B) (n : ℕ) (xs : List A) → take n (map f xs) ≡ map f (take n xs)
take_map f zero xs = refl
take_map f (suc n) [] = refl
take_map f (suc n) (x ∷ xs) = ap (◌∷◌ (f x)) (take_map f n xs)

map_map : {A B C : Type 0} (f : A → B) (g : B → C) (xs : List A) → map g (map f xs) ≡ map (λ x. g (f x)) xs
map_map f g [] = refl
map_map f g (x ∷ xs) = ap (◌∷◌ (g (f x))) (map_map f g xs)

pub log_entries : (ts : List (Turn Move Outcome)) → entries_of (log_of ts) ≡ map normal (said_of ts)
unfolding normal
log_entries ts =
    ap entries_of (log_said ts)
    ∙ entries_written (map said_entry (said_of ts))
    ∙ map_map said_entry (λ (x : Entry). read_entry (write_entry x)) (said_of ts)
