-- What each operation on sets means, atom by atom, so that nothing about the operations is left to belief. Assumes nothing.
use Rattle.std.specs.Prelude.{◌≡◌, ◌↔◌, ◌⊎◌, true, List, ◌<◌, ◌^◌, ◌≤◌, ℕ, length}
use Rattle.std.specs.List.Sorted.{IsStrictlyIncreasing}
use Rattle.std.specs.Int.Count.{ones as count_ones}
use Rattle.encoding.specs.LittleEndian.{Bytes, little_endian}
use Rattle.lists.specs.Lists.{Every, OneOf}
use Rattle.atoms.specs.Atoms.{last_credential, violation}
use Rattle.atoms.specs.Sets.{Member, Subset, atoms_of, difference, disjoint, empty, intersection, member, set_of, single, size, subset, union}

pub record Meaning : Type 0 where
  -- "A set of atoms is a 64-bit number": it is what it holds of the atoms 0 to 63
  pub same : (a b : ℕ) → a < 2 ^ 64 → b < 2 ^ 64 → ((k : ℕ) → k ≤ violation → Member k a ↔ Member k b) → a ≡ b
  pub atoms : (s k : ℕ) → s < 2 ^ 64 → Member k s → k ≤ violation
  -- "a set of credentials is a 16-bit number"
  pub credentials : (s : ℕ) → (s < 2 ^ 16) ↔ ((k : ℕ) → Member k s → k ≤ last_credential)
  pub nothing : (k : ℕ) → Member k empty → ⊥
  pub singles : (h k : ℕ) → Member k (single h) ↔ ((k ≡ h) × (h ≤ violation))
  pub lists : (ks : List ℕ) → Every (λ h. h ≤ violation) ks → (k : ℕ) → Member k (set_of ks) ↔ OneOf k ks
  pub unions : (a b k : ℕ) → Member k (union a b) ↔ (Member k a ⊎ Member k b)
  pub intersections : (a b k : ℕ) → Member k (intersection a b) ↔ (Member k a × Member k b)
  pub differences : (a b k : ℕ) → Member k (difference a b) ↔ (Member k a × (Member k b → ⊥))
  pub members : (k s : ℕ) → (member k s ≡ true) ↔ Member k s
  pub subsets : (a b : ℕ) → (subset a b ≡ true) ↔ Subset a b
  pub disjoints : (a b : ℕ) → (disjoint a b ≡ true) ↔ ((k : ℕ) → Member k a → Member k b → ⊥)
  -- the list of a set's atoms has each of them and no other, and it rises
  pub listed : (s k : ℕ) → s < 2 ^ 64 → OneOf k (atoms_of s) ↔ Member k s
  pub rising : (s : ℕ) → IsStrictlyIncreasing (atoms_of s)
  -- "counted as one bits": the library's count of ones, which is the machine's; it grows with the set, and only a larger set has more
  pub sizes : (s : ℕ) → s < 2 ^ 64 → size s ≡ count_ones s
  pub grows : (a b : ℕ) → Subset a b → size a ≤ size b
  pub equals : (a b : ℕ) → b < 2 ^ 64 → Subset a b → size b ≤ size a → a ≡ b
  -- eight bytes are a set of atoms
  pub bytes : (bs : List ℕ) → Bytes bs → length bs ≤ 8 → little_endian bs < 2 ^ 64
