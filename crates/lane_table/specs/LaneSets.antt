-- Sets of lanes: lane (t, i) is bit i of word t, of four words of 64 bits. Assumes nothing.
use Rattle.std.specs.Prelude.{◌≡◌, ◌≢◌, Bool, false, true, ◌-◌, ◌<◌, ◌^◌, suc, zero, ℕ}
use Rattle.std.specs.Int.Bits.{bit_and, bit_or, bit_xor}
use Rattle.lane_table.specs.declared.lane_set.LaneSet.{LaneSet}

-- word t
abbrev pub word : LaneSet → ℕ → ℕ
word q zero = q.a
word q (suc zero) = q.b
word q (suc (suc zero)) = q.c
word q (suc (suc (suc t))) = q.d

-- P holds of each lane
abbrev pub EachLane : (ℕ → ℕ → Type 0) → Type 0
EachLane P = (t i : ℕ) → t < 4 → i < 64 → P t i

-- x four times
pub record Splat (x : ℕ) (r : LaneSet) : Type 0 where
  pub each : (t : ℕ) → word r t ≡ x

-- r has the lanes of both; of one or the other; of just one; those that q has not, its words being of 64 bits
pub record Both (p q r : LaneSet) : Type 0 where
  pub each : (t : ℕ) → word r t ≡ bit_and (word p t) (word q t)

pub record Either (p q r : LaneSet) : Type 0 where
  pub each : (t : ℕ) → word r t ≡ bit_or (word p t) (word q t)

pub record JustOne (p q r : LaneSet) : Type 0 where
  pub each : (t : ℕ) → word r t ≡ bit_xor (word p t) (word q t)

pub record Complement (q r : LaneSet) : Type 0 where
  pub each : (t : ℕ) → word r t ≡ 0xffffffffffffffff - word q t
  pub small : (t : ℕ) → word q t < 2 ^ 64

-- r says whether q has no lane
pub record Empty (q : LaneSet) (r : Bool) : Type 0 where
  pub none : r ≡ true → (t : ℕ) → word q t ≡ 0
  pub some : r ≡ false → (t : ℕ) × ((t < 4) × (word q t ≢ 0))
