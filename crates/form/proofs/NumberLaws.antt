-- When each number is given. Assumes nothing.
use mathlib.Core.Path.{◌≡◌, ap, refl, subst, sym}
use mathlib.Core.Logic.{◌↔◌, ◌⊎◌, ◌≢◌, inl, inr}
use mathlib.Core.List.{List}
use mathlib.Core.Option.{Option, some}
use Prim.Native.Nat.{◌+◌, ◌<◌, ◌≤◌, ℕ}
use lib.ListN.{length}
use native.Mathlib.Decide.{dec_lt}
use native.Mathlib.Nat.{lt_of_not-le}
use native.Mathlib.Omega.{arith}
use Rattle.validation.specs.Statements.{AllHold, FirstBroken}
use Rattle.validation.proofs.NumberLaws.{BrokenAt, Rising, broken_at, broken_every, number_least, number_at}
use Rattle.atoms.specs.Atoms.{last_credential}
use Rattle.atoms.specs.Sets.{Member, empty}
use Rattle.atoms.proofs.SetLaws.{none_in_empty, none_is_empty}
use Rattle.rules.specs.Rules.{Rule}
use Rattle.records.specs.Records.{Record, record_at, records_from, weight_kind, whole_records}
use Rattle.form.specs.Theorems.{Faulty, Numbers, Ragged, RecordAllowed, SecondWeight, Tested, Unlevelled}
use Rattle.form.specs.WrittenForm.{Lengths, PolicyNumber, PolicyRefused, RecordForm, RecordForms, Refusal, WeightBody, WholeForm, at}
use Rattle.form.proofs.FormLaws.{AfterLengths, FormAt, form_iff, number_is, place_is, refused_iff}
use Rattle.form.proofs.WeightLaws.{second_iff}
use Rattle.form.proofs.WrittenLaws.{from_hold}

rising : (before : List Record) (d : Record) → Rising 3 (RecordForm before d)
rising before d = (omega arith, (omega arith, (omega arith, (omega arith, (omega arith, tt)))))

-- a record gives 3 to 5, 12 and 13
record_number_lem : (before : List Record) (d : Record) (n : ℕ) → FirstBroken (RecordForm before d) n → (3 ≤ n) × PolicyNumber n
record_number_lem before d = broken_every (λ n. (3 ≤ n) × PolicyNumber n) (RecordForm before d) (
  low (omega arith),
  (low (omega arith), (low (omega arith), ((omega arith, inr (inl refl)), ((omega arith, inr (inr refl)), tt)))),
)
  where
    low : {n : ℕ} → (3 ≤ n) × (n ≤ 5) → (3 ≤ n) × PolicyNumber n
    low (l, m) = (l, inl (omega arith, omega arith))

-- it does not give 6
record_other : (before : List Record) (d : Record) → FirstBroken (RecordForm before d) 6 → ⊥
record_other before d x =
    broken_every (λ n. n ≢ 6) (RecordForm before d)
    (λ e. omega arith, (λ e. omega arith, (λ e. omega arith, (λ e. omega arith, (λ e. omega arith, tt))))) 6 x refl

-- where 12 is the first number that a record breaks, by its form and spelled out
weight_broken : (before : List Record) (d : Record) → BrokenAt (RecordForm before d) 3
    ↔ ((d.kind ≡ weight_kind) × ((d.rule.head ≤ last_credential) × ((15 < d.rule.positive) ⊎ (d.rule.negated ≢ empty))))
weight_broken before d = (forth, back)
  where
    r : Rule
    r = d.rule

    over : (WeightBody r → ⊥) → Dec (15 < r.positive) → (15 < r.positive) ⊎ (r.negated ≢ empty)
    over n (yes l) = inl l
    over n (no l) = inr (λ e. n (omega arith, λ k m. none_in_empty k (subst (λ (s : ℕ). Member k s) e m)))

    forth : BrokenAt (RecordForm before d) 3 → (d.kind ≡ weight_kind) × ((r.head ≤ last_credential) × ((15 < r.positive) ⊎ (r.negated ≢ empty)))
    forth (inl e, (_, (_, n))) = absurd (n (λ w. absurd (omega arith)))
    forth (inr (inl e), (_, (_, n))) = absurd (n (λ w. absurd (omega arith)))
    forth (inr (inr e), (h, (_, n))) = (e, (h.1.1 e, over (λ b. n (λ _. b)) (dec_lt 15 r.positive)))

    under : (15 < r.positive) ⊎ (r.negated ≢ empty) → WeightBody r → ⊥
    under (inl l) b = omega (arith, b.0)
    under (inr n) b = n (none_is_empty r.negated b.1)

    back : (d.kind ≡ weight_kind) × ((r.head ≤ last_credential) × ((15 < r.positive) ⊎ (r.negated ≢ empty))) → BrokenAt (RecordForm before d) 3
    back (e, (h, o)) = (
      inr (inr e),
      (
        (λ a. absurd (omega arith), (λ b. absurd (omega arith), λ _. h)),
        ((λ a. absurd (omega arith), λ b. absurd (omega arith)), λ w. under o (w e)),
      ),
    )

module _ (bytes : List ℕ) where
  -- a length gives 1 and 2
  length_number : (n k : ℕ) → FirstBroken (Lengths bytes) (at n k) → (1 ≤ n) × (n ≤ 2)
  length_number n k = broken_every Low (Lengths bytes) ((omega arith, omega arith), ((omega arith, omega arith), tt)) (at n k)
    where
      Low : Refusal → Type 0
      Low (at n k) = (1 ≤ n) × (n ≤ 2)

  -- the policy as a whole gives 6, with the count of records
  whole_number : (n k : ℕ) → FirstBroken (WholeForm bytes) (at n k) → (n ≡ 6) × (k ≡ whole_records bytes)
  whole_number n k (inl (_, e)) = (number_is e, place_is e)
  whole_number n k (inr (_, x)) = absurd x

  -- what is refused, by a length, by a record or by the policy as a whole
  abbrev Given : ℕ → ℕ → Type 0
  Given n k = FirstBroken (Lengths bytes) (at n k) ⊎ (AllHold (Lengths bytes) × AfterLengths bytes n k)

  one_given : (k : ℕ) → PolicyRefused bytes (at 1 k) ↔ ((2304 < length bytes) × (k ≡ 128))
  one_given k = (λ x. forth ((refused_iff bytes 1 k).0 x), λ h. (refused_iff bytes 1 k).1 (inl (inl (λ l. omega (arith, h.0), ap (at 1) h.1))))
    where
      forth : Given 1 k → (2304 < length bytes) × (k ≡ 128)
      forth (inl (inl (h, e))) = (lt_of_not-le h, place_is e)
      forth (inl (inr (_, inl (_, e)))) = absurd (omega (arith, number_is e))
      forth (inl (inr (_, inr (_, x)))) = absurd x
      forth (inr (_, inl x)) = absurd (omega (arith, (record_number_lem (records_from bytes 0 k) (record_at bytes k) 1 x.broken).0))
      forth (inr (_, inr (_, x))) = absurd (omega (arith, (whole_number 1 k x).0))

  two_given : (k : ℕ) → PolicyRefused bytes (at 2 k) ↔ Ragged bytes k
  two_given k = (λ x. forth ((refused_iff bytes 2 k).0 x), λ x. (refused_iff bytes 2 k).1 (inl (inr (x.longest, inl (x.ragged, ap (at 2) (place x))))))
    where
      place : Ragged bytes k → k ≡ whole_records bytes
      place x = omega (arith, x.whole_ones, x.no_more)

      forth : Given 2 k → Ragged bytes k
      forth (inl (inl (_, e))) = absurd (omega (arith, number_is e))
      forth (inl (inr (l, inl (h, e)))) =
          let p = place_is e in
          record { longest = l; ragged = h; whole_ones = omega (arith, p); no_more = omega (arith, p) }
      forth (inl (inr (_, inr (_, x)))) = absurd x
      forth (inr (_, inl x)) = absurd (omega (arith, (record_number_lem (records_from bytes 0 k) (record_at bytes k) 2 x.broken).0))
      forth (inr (_, inr (_, x))) = absurd (omega (arith, (whole_number 2 k x).0))

  -- the number of the statement at place i of a record's form, where Broken says that this is the first that does not hold
  record_given : (i : ℕ) → i < 5 → (n : ℕ) → n ≢ 6 → ((before : List Record) (d : Record) → number_at (RecordForm before d) i ≡ n) → (k : ℕ)
      → (Broken : Record → Type 0) → BrokenAt (FormAt bytes k) i ↔ Broken (record_at bytes k) → PolicyRefused bytes (at n k) ↔ Faulty bytes k Broken
  record_given i l n other e k Broken says =
      (λ x. forth ((refused_iff bytes n k).0 x), λ x. (refused_iff bytes n k).1 (inr (back x)))
    where
      before : List Record
      before = records_from bytes 0 k

      d : Record
      d = record_at bytes k

      given : FirstBroken (FormAt bytes k) (number_at (FormAt bytes k) i) ↔ BrokenAt (FormAt bytes k) i
      given = broken_at 3 (FormAt bytes k) (rising before d) i l

      forth : Given n k → Faulty bytes k Broken
      forth (inl x) = absurd (omega (arith, length_number n k x, e before d, number_least 3 (FormAt bytes k) (rising before d) i l))
      forth (inr (_, inr (_, x))) = absurd (other (whole_number n k x).0)
      forth (inr (h, inl x)) = record {
        longest = h.0;
        whole = h.1.0;
        inside = omega (arith, x.inside);
        before = λ j l. ((form_iff bytes j).0 (x.before j (omega arith) l)).0;
        weighed_once = λ i j h l. ((form_iff bytes j).0 (x.before j (omega arith) l)).1 i h;
        broken = says.0 (given.0 (subst (FirstBroken (FormAt bytes k)) (sym (e before d)) x.broken));
      }

      back : Faulty bytes k Broken → AllHold (Lengths bytes) × AfterLengths bytes n k
      back x = (
        (x.longest, (x.whole, tt)),
        inl (record {
          from = omega arith;
          inside = omega (arith, x.inside);
          before = λ j _ l. (form_iff bytes j).1 (x.before j l, λ i h. x.weighed_once i j h l);
          broken = subst (FirstBroken (FormAt bytes k)) (e before d) (given.1 (says.1 x.broken));
        }),
      )

  -- the records are in order, each by itself and beside the others
  abbrev all : Type 0
  all = AllHold (RecordForms bytes 0 (whole_records bytes))

  six_given : (k : ℕ) → PolicyRefused bytes (at 6 k) ↔ Unlevelled bytes k
  six_given k = (λ x. forth ((refused_iff bytes 6 k).0 x), λ x. (refused_iff bytes 6 k).1 (inr (back x)))
    where
      each : all ↔ ((j : ℕ) → 0 ≤ j → j < 0 + whole_records bytes → AllHold (FormAt bytes j))
      each = from_hold bytes 0 (whole_records bytes)

      forth : Given 6 k → Unlevelled bytes k
      forth (inl x) = absurd (omega (arith, (length_number 6 k x).1))
      forth (inr (_, inl x)) = absurd (record_other (records_from bytes 0 k) (record_at bytes k) x.broken)
      forth (inr (_, inr (_, inr (_, x)))) = absurd x
      forth (inr (l, inr (h, inl (n, e)))) =
          let p = place_is e in
          let f : (j : ℕ) → j < k → AllHold (FormAt bytes j) = λ j i. each.0 h j (omega arith) (omega arith) in
          record {
            longest = l.0;
            count = omega (arith, l.1.0, p);
            records = λ j i. ((form_iff bytes j).0 (f j i)).0;
            weighed_once = λ i j m g. ((form_iff bytes j).0 (f j g)).1 i m;
            no_levels = λ lev g. n (record { lev = lev; levels = g });
          }

      back : Unlevelled bytes k → AllHold (Lengths bytes) × AfterLengths bytes 6 k
      back x =
          let c = x.count in
          let p : k ≡ whole_records bytes = omega arith in (
            (x.longest, (omega (arith, c), tt)),
            inr (
              each.1 (λ j _ l. (form_iff bytes j).1 (x.records j (omega arith), λ i m. x.weighed_once i j m (omega arith))),
              inl (λ g. x.no_levels g.lev g.levels, ap (at 6) p),
            ),
          )

  -- where 13 is the first number that record k breaks
  second_broken : (k : ℕ) → BrokenAt (FormAt bytes k) 4 ↔ (RecordAllowed (record_at bytes k) × ((j : ℕ) × (j < k) × SecondWeight bytes j k))
  second_broken k =
      let i = second_iff bytes k in (
        λ (a, (h, (b, (w, n)))). (record { kind = a; head = h; body = b; weight = w }, i.0 n),
        λ (r, s). (r.kind, (r.head, (r.body, (r.weight, i.1 s)))),
      )

  only_given : (n k : ℕ) → Given n k → PolicyNumber n
  only_given n k (inl x) = let l = length_number n k x in inl (l.0, omega (arith, l.1))
  only_given n k (inr (_, inl x)) = (record_number_lem (records_from bytes 0 k) (record_at bytes k) n x.broken).1
  only_given n k (inr (_, inr (_, x))) = let e = (whole_number n k x).0 in inl (omega arith, omega arith)

  -- a refusal's number is a byte, and not 0
  pub small_number : (n k : ℕ) → PolicyRefused bytes (at n k) → (1 ≤ n) × (n ≤ 13)
  small_number n k x = go (only_given n k ((refused_iff bytes n k).0 x))
    where
      go : PolicyNumber n → (1 ≤ n) × (n ≤ 13)
      go (inl h) = (h.0, omega (arith, h.1))
      go (inr (inl e)) = omega arith
      go (inr (inr e)) = omega arith

  -- a record number is a byte
  pub small_place : (n k : ℕ) → PolicyRefused bytes (at n k) → k < 256
  small_place n k x = go ((refused_iff bytes n k).0 x)
    where
      go : Given n k → k < 256
      go (inl (inl (_, e))) = omega (arith, place_is e)
      go (inl (inr (l, inl (_, e)))) = omega (arith, l, place_is e)
      go (inl (inr (_, inr (_, y)))) = absurd y
      go (inr (h, inl y)) = omega (arith, h.0, y.inside)
      go (inr (h, inr (_, y))) = omega (arith, h.0, (whole_number n k y).1)

  pub numbers : (o : Option Refusal) → Tested bytes o → Numbers bytes o
  numbers o t = record {
    one = λ k. through (at 1 k) (one_given k);
    two = λ k. through (at 2 k) (two_given k);
    three = λ k. through (at 3 k) (record_given 0 (omega arith) 3 (λ e. omega arith) (λ before d. refl) k _ same);
    four = λ k. through (at 4 k) (record_given 1 (omega arith) 4 (λ e. omega arith) (λ before d. refl) k _ same);
    five = λ k. through (at 5 k) (record_given 2 (omega arith) 5 (λ e. omega arith) (λ before d. refl) k _ same);
    six = λ k. through (at 6 k) (six_given k);
    twelve = λ k. through (at 12 k)
        (record_given 3 (omega arith) 12 (λ e. omega arith) (λ before d. refl) k _ (weight_broken (records_from bytes 0 k) (record_at bytes k)));
    thirteen = λ k. through (at 13 k) (record_given 4 (omega arith) 13 (λ e. omega arith) (λ before d. refl) k _ (second_broken k));
    only = λ n k e. only_given n k ((refused_iff bytes n k).0 ((t.refuses (at n k)).0 e));
  }
    where
      same : {K : Type 0} → K ↔ K
      same = (λ h. h, λ h. h)

      through : {K : Type 0} (f : Refusal) → PolicyRefused bytes f ↔ K → (o ≡ some f) ↔ K
      through f i = (λ e. i.0 ((t.refuses f).0 e), λ h. (t.refuses f).1 (i.1 h))
