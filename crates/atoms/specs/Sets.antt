-- Document 01, "Atoms and records": sets of atoms as numbers. specs/Meaning says what each operation means, atom by atom. Assumes nothing.
use Rattle.std.specs.Prelude.{◌≡◌, Bool, cond, List, [], ◌∷◌, ◌%◌, ◌-◌, ◌/◌, ◌^◌, ℕ, eqb, filter, leb}
use Rattle.std.specs.List.{range_with_len}
use Rattle.std.specs.Int.Bits.{bit_and, bit_or}
use Rattle.std.specs.Int.Count.{ones_in}
use Rattle.atoms.specs.Atoms.{violation}

-- "A set of atoms is a 64-bit number, bit k standing for atom k; a set of credentials is a 16-bit number, the low 16 bits of one."
abbrev pub bit : ℕ → ℕ → ℕ
bit s k = s / 2 ^ k % 2

abbrev pub Member : ℕ → ℕ → Type 0
Member k s = bit s k ≡ 1

abbrev pub Subset : ℕ → ℕ → Type 0
Subset a b = (k : ℕ) → Member k a → Member k b

-- the operations are those of the machine
abbrev pub union : ℕ → ℕ → ℕ
union a b = bit_or a b

abbrev pub intersection : ℕ → ℕ → ℕ
intersection a b = bit_and a b

-- those of a that are not in b: a less what the two share
abbrev pub difference : ℕ → ℕ → ℕ
difference a b = a - intersection a b

-- Member and Subset as tests, and the test for two sets that share nothing
abbrev pub member : ℕ → ℕ → Bool
member k s = eqb (bit s k) 1

abbrev pub subset : ℕ → ℕ → Bool
subset a b = eqb (intersection a b) a

abbrev pub disjoint : ℕ → ℕ → Bool
disjoint a b = eqb (intersection a b) 0

-- "the empty set and the set of one atom": "for a number above 63 the set of one atom is empty"
abbrev pub empty : ℕ
empty = 0

abbrev pub single : ℕ → ℕ
single k = cond (leb k violation) (2 ^ k) empty

-- "counted as one bits"
unfoldable pub size : ℕ → ℕ
unfolding ones_in
size s = ones_in 64 s

-- the set of the atoms of a list
unfoldable pub set_of : List ℕ → ℕ
set_of [] = empty
set_of (k ∷ ks) = union (single k) (set_of ks)

-- the atoms of a set, rising
unfoldable pub atoms_of : ℕ → List ℕ
atoms_of s = filter (λ k. member k s) (range_with_len 0 64)
