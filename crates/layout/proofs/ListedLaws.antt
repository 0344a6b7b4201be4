-- What the loop that reads a policy's rules of one kind needs: those in the arrays and those of the records that are left are all of them. Assumes nothing.
use mathlib.Core.Path.{◌∙◌, ◌≡◌, ap, subst, sym}
use mathlib.Core.Bool.{cond}
use mathlib.Core.List.{List, [], ◌++◌, ◌∷◌, append_assoc, append-nil}
use Prim.Native.Nat.{◌+◌, ◌-◌, ◌<◌, ◌≤◌, suc, ℕ}
use lib.Dec.{eqb}
use lib.ListN.{set}
use borrow.Author.Tests.{eq-eqb, ne_eqb}
use native.Mathlib.Numerals.{add-one, unary_clauses}
use native.Mathlib.Omega.{arith}
use Rattle.atoms.specs.Atoms.{violation}
use Rattle.atoms.specs.Sets.{single}
use Rattle.atoms.proofs.SizeLaws.{size_below}
use Rattle.rules.specs.Rules.{Rule}
use Rattle.records.specs.Records.{Record, of_kind, record_at, records_from, records_of, rules_of, whole_records}
use Rattle.form.specs.WrittenForm.{WellFormed}
use Rattle.form.proofs.PolicyLaws.{head_atom, most_records}
use Rattle.arrays.specs.Arrays.{InOrder, Room, atom_of, rules_in}
use Rattle.arrays.proofs.ArrayLaws.{put_next, put_in}
use Rattle.arrays.proofs.HeadLaws.{room_put}

-- the set of a record's head is a set of one atom: of the head
own_head : (bytes : List ℕ) → WellFormed bytes → (k : ℕ) → k < whole_records bytes → (d : Record) → d ≡ record_at bytes k
    → atom_of (single d.rule.head) ≡ d.rule.head
own_head bytes w k l d e = size_below d.rule.head (subst (λ (r : Record). r.rule.head ≤ violation) (sym e) (head_atom bytes w k l))

-- the rules of the kind of record k and those after it
pub left : List ℕ → ℕ → ℕ → List Rule
left bytes kind k = of_kind kind (records_from bytes k (whole_records bytes - k))

module _ (bytes : List ℕ) (kind k : ℕ) where
  left_next : k < whole_records bytes
      → left bytes kind k ≡ cond (eqb (record_at bytes k).kind kind) ((record_at bytes k).rule ∷ left bytes kind (k + 1)) (left bytes kind (k + 1))
  unfolding left records_from of_kind
  left_next l =
      let e : whole_records bytes - k ≡ suc (whole_records bytes - (k + 1)) = omega arith in
      ap (λ (m : ℕ). of_kind kind (records_from bytes k m)) e ∙ rw (add-one k)

  left_done : whole_records bytes ≤ k → left bytes kind k ≡ []
  unfolding left records_from of_kind
  left_done l = let e : whole_records bytes - k ≡ 0 = omega arith in ap (λ (m : ℕ). of_kind kind (records_from bytes k m)) e

  module _ (l : k < whole_records bytes) (d : Record) (e : d ≡ record_at bytes k) where
    -- record k, which says d, is of another kind
    left_passed : (d.kind ≡ kind → ⊥) → left bytes kind (k + 1) ≡ left bytes kind k
    left_passed n = sym (left_next l ∙ rw (← e) (rw (ne_eqb d.kind kind n)))

    -- it is of the kind: with the head of set s it is put after those that were there
    left_taken : d.kind ≡ kind → (h p m : List ℕ) (count : ℕ) (room : Room h p m) (few : count < 128) (s : ℕ) → atom_of s ≡ d.rule.head
        → put_in h p m count s d.rule.positive d.rule.negated 0 (count + 1) ++ left bytes kind (k + 1) ≡ rules_in h p m 0 count ++ left bytes kind k
    left_taken same h p m count room few s own =
        let rest : List Rule = left bytes kind (k + 1) in
        let next : left bytes kind k ≡ d.rule ∷ rest = left_next l ∙ rw (← e) (rw (eq-eqb d.kind kind same)) in
        let rule : record { head = atom_of s; positive = d.rule.positive; negated = d.rule.negated } ≡ d.rule
        = λ j. record { head = own j; positive = d.rule.positive; negated = d.rule.negated } in
        ap (λ (i : ℕ). put_in h p m count s d.rule.positive d.rule.negated 0 i ++ rest) (add-one count)
        ∙ ap (λ (rs : List Rule). rs ++ rest)
        (put_next h p m count s d.rule.positive d.rule.negated (omega (arith, room.head_places)) (omega (arith, room.positive_places))
        (omega (arith, room.negated_places)) 0 count (omega arith))
        ∙ ap (λ (r : Rule). (rules_in h p m 0 count ++ (r ∷ [])) ++ rest) rule
        ∙ append_assoc (rules_in h p m 0 count) (d.rule ∷ []) rest
        ∙ sym (ap (λ (rs : List Rule). rules_in h p m 0 count ++ rs) next)

-- ---- the loop: the records before k are read

pub record Reading (bytes : List ℕ) (kind k : ℕ) (h p m : List ℕ) (count : ℕ) : Type 0 where
  pub most : whole_records bytes ≤ 128
  pub low : k ≤ whole_records bytes
  pub few : count ≤ k
  pub room : Room h p m
  pub rules : rules_in h p m 0 count ++ left bytes kind k ≡ rules_of kind bytes

pub reading_start : (bytes : List ℕ) → WellFormed bytes → (kind : ℕ) → (h p m : List ℕ) → Room h p m → Reading bytes kind 0 h p m 0
unfolding rules_in left rules_of records_of
reading_start bytes w kind h p m room = record { most = most_records bytes w; low = omega arith; few = omega arith; room = room; rules = simp unary_clauses }

module _ (bytes : List ℕ) (w : WellFormed bytes) (kind k : ℕ) (h p m : List ℕ) (count : ℕ) (reading : Reading bytes kind k h p m count) where
  -- record k says d, which is of another kind
  pub reading_passed : k < whole_records bytes → (d : Record) → d ≡ record_at bytes k → (d.kind ≡ kind → ⊥) → Reading bytes kind (k + 1) h p m count
  reading_passed l d e n = record {
    most = reading.most;
    low = omega arith;
    few = omega (arith, reading.few);
    room = reading.room;
    rules = ap (λ (rs : List Rule). rules_in h p m 0 count ++ rs) (left_passed bytes kind k l d e n) ∙ reading.rules;
  }

  -- it is of the kind, and s is the set of its head
  pub reading_taken : k < whole_records bytes → (d : Record) → d ≡ record_at bytes k → d.kind ≡ kind → (s : ℕ) → s ≡ single d.rule.head
      → Reading bytes kind (k + 1) (set h count s) (set p count d.rule.positive) (set m count d.rule.negated) (count + 1)
  reading_taken l d e same s x = record {
    most = reading.most;
    low = omega arith;
    few = omega (arith, reading.few);
    room = room_put h p m count s d.rule.positive d.rule.negated fits (ap single own ∙ sym x) reading.room;
    rules = left_taken bytes kind k l d e same h p m count reading.room fits s own ∙ reading.rules;
  }
    where
      fits : count < 128
      fits = omega (arith, reading.few, reading.most)

      own : atom_of s ≡ d.rule.head
      own = ap atom_of x ∙ own_head bytes w k l d e

  pub reading_done : whole_records bytes ≤ k → InOrder (rules_of kind bytes) h p m count
  reading_done l = record {
    places = record { ordered = omega arith; fits = omega (arith, reading.few, reading.low, reading.most); singles = reading.room.singles };
    rules =
        sym (append-nil (rules_in h p m 0 count))
        ∙ sym (ap (λ (rs : List Rule). rules_in h p m 0 count ++ rs) (left_done bytes kind k l))
        ∙ reading.rules;
  }
