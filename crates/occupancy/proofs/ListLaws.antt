-- A list of the program's slots: one of them, how many can be named, and how many count. Assumes nothing.
use Rattle.std.proofs.Common.{◌∙◌, ◌≡◌, ap, refl, subst, sym, ◌⊎◌, inl, inr, Bool, false, true, List, [], ◌∷◌, ◌+◌, ◌<◌, ◌≤◌, suc, zero, ℕ, get_or, length, set, take, arith, add-one}
use Rattle.std.proofs.Math.Nat.{le_refl, min-eq_left, min-eq_right}
use Rattle.std.proofs.lemmas.Bool.{cases_lt}
use Rattle.std.proofs.lemmas.List.{get_or-take, length-take-le}
use lib.ListN.{get_or-map, length-map}
use Rattle.slots.specs.Slots as S
use Rattle.slots.specs.Slots.{InTable, in_table, slot_at, slot_limit, unfinished, unfinished_of}
use Rattle.slots.proofs.CountLaws.{unfinished_all, unfinished_most, unfinished_next, unfinished_none}
use Rattle.slots.proofs.FreeLaws.{decides_in_table}
use Rattle.slot_steps.specs.Types.{slot_of}
use Rattle.slot_steps.specs.declared.Slot.{Slot}
use Rattle.occupancy.specs.Types.{empty_slot, slots_in, table_of}

-- ---- one slot of the list

pub map_set : (ys : List Slot) (i : ℕ) (v : Slot) → table_of (set ys i v) ≡ set (table_of ys) i (slot_of v)
map_set [] i v = refl
map_set (x ∷ xs) zero v = refl
map_set (x ∷ xs) (suc i) v = ap (λ (l : List S.Slot). slot_of x ∷ l) (map_set xs i v)

pub at_slot : (ys : List Slot) (i : ℕ) → slot_at (table_of ys) i ≡ slot_of (get_or ys i empty_slot)
at_slot ys i = get_or-map slot_of ys i empty_slot

-- the count of one slot more
pub one_more : (ys : List Slot) (o k : ℕ)
    → unfinished o (table_of ys) (k + 1) ≡ unfinished o (table_of ys) k + unfinished_of o (slot_of (get_or ys k empty_slot))
one_more ys o k = unfinished_next o (table_of ys) k ∙ ap (λ (x : S.Slot). unfinished o (table_of ys) k + unfinished_of o x) (at_slot ys k)

-- the first r slots count as they do in the whole list
count_front : (ys : List Slot) (o r k : ℕ) → k ≤ r → unfinished o (table_of (take r ys)) k ≡ unfinished o (table_of ys) k
count_front ys o r zero l = unfinished_none o (table_of (take r ys)) ∙ sym (unfinished_none o (table_of ys))
count_front ys o r (suc k) l =
    rw (← add-one k)
    (one_more (take r ys) o k
    ∙ ap (λ (n : ℕ). n + unfinished_of o (slot_of (get_or (take r ys) k empty_slot))) (count_front ys o r k (omega arith))
    ∙ ap (λ (x : Slot). unfinished o (table_of ys) k + unfinished_of o (slot_of x)) (get_or-take r ys k empty_slot (omega arith))
    ∙ sym (one_more ys o k))

pub counted_front : (ys : List Slot) (o r : ℕ) → r ≤ length ys
    → unfinished o (table_of (take r ys)) (length (take r ys)) ≡ unfinished o (table_of ys) r
counted_front ys o r l = ap (unfinished o (table_of (take r ys))) (length-take-le r ys l) ∙ count_front ys o r r (le_refl r)

-- what is counted of the first r slots is below 255, and after all of them it is the whole list's count of r
pub few_counted : (ys : List Slot) (o r k : ℕ) → r ≤ length ys → r ≤ slot_limit → k < length (take r ys) → unfinished o (table_of (take r ys)) k < 255
few_counted ys o r k l m n = omega (arith, unfinished_most o (table_of (take r ys)) k, length-take-le r ys l)

pub all_of_front : (ys : List Slot) (o r k : ℕ) → r ≤ length ys → k ≤ length (take r ys) → length (take r ys) ≤ k
    → unfinished o (table_of (take r ys)) k ≡ unfinished o (table_of ys) r
all_of_front ys o r k l m n =
    let e : k ≡ length (take r ys) = omega arith in
    ap (unfinished o (table_of (take r ys))) e ∙ counted_front ys o r l

-- ---- how many slots can be named

below : (ys : List Slot) (i : ℕ) → i < slots_in (length ys) → InTable (table_of ys) i
below ys i l = (
  subst (λ (n : ℕ). i < n) (sym (length-map ys slot_of)) (omega arith),
  omega arith,
)

pub beyond : (ys : List Slot) (i : ℕ) → slots_in (length ys) ≤ i → InTable (table_of ys) i → ⊥
beyond ys i l (x, y) = let z : i < length ys = subst (λ (n : ℕ). i < n) (length-map ys slot_of) x in omega arith

pub inside_true : (ys : List Slot) (i : ℕ) → i < slots_in (length ys) → in_table (table_of ys) i ≡ true
inside_true ys i l = (decides_in_table (table_of ys) i).1 (below ys i l)

pub beyond_false : (ys : List Slot) (i : ℕ) → slots_in (length ys) ≤ i → in_table (table_of ys) i ≡ false
beyond_false ys i l = go (in_table (table_of ys) i) refl
  where
    go : (b : Bool) → in_table (table_of ys) i ≡ b → b ≡ false
    go true e = absurd (beyond ys i l ((decides_in_table (table_of ys) i).0 e))
    go false e = refl

-- those that can be named are all that count
pub all_counted : (ys : List Slot) (o : ℕ) → unfinished o (table_of ys) (slots_in (length ys)) ≡ unfinished o (table_of ys) slot_limit
all_counted ys o = go (cases_lt (length ys) slot_limit)
  where
    go : (length ys < slot_limit) ⊎ (slot_limit ≤ length ys) → unfinished o (table_of ys) (slots_in (length ys)) ≡ unfinished o (table_of ys) slot_limit
    go (inl l) =
        ap (unfinished o (table_of ys)) (min-eq_left (omega arith) ∙ sym (length-map ys slot_of))
        ∙ sym (unfinished_all o (table_of ys) slot_limit (subst (λ (n : ℕ). n ≤ slot_limit) (sym (length-map ys slot_of)) (omega arith)))
    go (inr l) = ap (unfinished o (table_of ys)) (min-eq_right l)
