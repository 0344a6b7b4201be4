-- One rule looked at or passed over, for all lanes at once. Assumes nothing.
use mathlib.Core.Path.{◌≡◌, refl, subst, sym}
use mathlib.Core.Logic.{◌≢◌, inl, inr}
use mathlib.Core.Bool.{◌&&◌, Bool, cond, false, true}
use mathlib.Core.List.{List}
use Prim.Native.Nat.{◌+◌, ◌-◌, ◌<◌, ◌^◌, ℕ}
use lib.Bits.{bit_and, bit_or}
use native.Mathlib.Omega.{arith}
use Rattle.atoms.specs.Sets.{Member, Subset, member, subset, union}
use Rattle.atoms.proofs.SetLaws.{inhabited, intersection_iff, member_low, subset_antisym, subset_true, union_least, union_left, union_right}
use Rattle.lane_table.specs.Tables.{Same, cell, lane}
use Rattle.lane_table.proofs.BitLaws.{bit_others, full_bit}
use Rattle.lane_table.proofs.LaneLaws.{lane_low}
use Rattle.lane_fixpoint.specs.Firing.{Fired, FiredIn}
use Rattle.lane_fixpoint.specs.Passes.{Covers, Satisfied, Stepped}
use Rattle.lane_fixpoint.specs.declared.passes.Progress.{Progress}

-- what covers the lanes still covers them
pub covers_same : (possible : ℕ) (before after : List ℕ) → Same before after → Covers possible before → Covers possible after
covers_same possible before after same c = record { each = λ t i l n. subst (λ (S : ℕ). Subset S possible) (sym (same t i l n)) (c.each t i l n) }

-- no lane has an atom outside all 64 of them
pub covers_all : (table : List ℕ) → Covers 0xffffffffffffffff table
covers_all table = record { each = λ t i l n k m. full_bit k (lane_low table t i k m) }

-- rule k and a table
module _ (k head positive : ℕ) where
  -- an atom of its body is in no lane
  pub lacking_satisfied : (possible : ℕ) (table : List ℕ) → possible < 2 ^ 64 → Covers possible table
      → bit_and positive (0xffffffffffffffff - possible) ≢ 0 → Satisfied k head positive table
  lacking_satisfied possible table small c ne = record { each = λ t i l n m sub. absurd (no t i l n sub) }
    where
      no : (t i : ℕ) → t < 4 → i < 64 → subset positive (lane table t i) ≡ true → ⊥
      no t i l n sub =
          let s = inhabited _ ne in
          let j = s.0 in
          let both = (intersection_iff positive (0xffffffffffffffff - possible) j).0 s.1 in
          let low : j < 64 = member_low (0xffffffffffffffff - possible) 64 j (omega arith) both.1 in
          let has : Member j possible = c.each t i l n j (subset_true positive (lane table t i) sub j both.0) in
          omega (arith, both.1, bit_others possible j small low)

  -- where it adds nothing it may be passed over
  satisfied_each : (table : List ℕ) → Satisfied k head positive table → FiredIn k head positive table table
  satisfied_each table h t i l n = go (member i (cell table t (64 + k))) (subset positive (lane table t i)) refl refl
    where
      S : ℕ
      S = lane table t i

      go : (x y : Bool) → member i (cell table t (64 + k)) ≡ x → subset positive S ≡ y → S ≡ cond (x && y) (union S head) S
      go true true e f = subset_antisym (union_left S head) (union_least S head S (λ j m. m) (h.each t i l n e f))
      go true false e f = refl
      go false y e f = refl

  pub passed_over : (s : Progress) (table : List ℕ) → Covers s.possible table → Satisfied k head positive table
      → Stepped k head positive s s table table
  passed_over s table c h = record {
    kept = λ t j l. refl;
    covers = c;
    grows = λ j m. m;
    moved = inl (λ t i l n. refl, refl);
    each = satisfied_each table h;
  }

  -- looked at, and nothing is new
  pub fired_some : (s : Progress) (before after : List ℕ) (b : Bool) → Covers s.possible before → Fired k head positive before after b → b ≡ true
      → Stepped k head positive s (record { possible = bit_or s.possible head; added = bit_or s.added head }) before after
  fired_some s before after b c f e = record {
    kept = f.kept;
    covers = record {
      each = λ t i l n.
          subst (λ (S : ℕ). Subset S (bit_or s.possible head)) (sym (f.each t i l n))
          (go t i l n (member i (cell before t (64 + k)) && subset positive (lane before t i)));
    };
    grows = union_left s.added head;
    moved = inr (f.adds e, union_right s.added head);
    each = f.each;
  }
    where
      old : (t i : ℕ) → t < 4 → i < 64 → Subset (lane before t i) (bit_or s.possible head)
      old t i l n j m = union_left s.possible head j (c.each t i l n j m)

      go : (t i : ℕ) → t < 4 → i < 64 → (b : Bool) → Subset (cond b (union (lane before t i) head) (lane before t i)) (bit_or s.possible head)
      go t i l n true = union_least (lane before t i) head (bit_or s.possible head) (old t i l n) (union_right s.possible head)
      go t i l n false = old t i l n
