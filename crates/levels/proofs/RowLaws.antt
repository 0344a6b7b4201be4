-- What the loop needs that gathers rules by head. Assumes nothing.
use mathlib.Core.Path.{◌≡◌, subst, sym}
use mathlib.Core.Logic.{◌⊎◌, inl, inr}
use mathlib.Core.List.{List}
use Prim.Native.Nat.{◌*◌, ◌+◌, ◌<◌, ◌≤◌, ℕ}
use lib.ListN.{get_or, length, replicate, set}
use lib.Seq.{get_or-set_other, get_or-set_same}
use native.Mathlib.Decide.{ℕ_discrete}
use native.Mathlib.Nat.{eq-or-lt_of_le, not-suc-le-zero}
use native.Mathlib.Omega.{arith}
use Rattle.atoms.specs.Atoms.{violation}
use Rattle.atoms.specs.Sets.{Member, single, union}
use Rattle.atoms.proofs.SetLaws.{single_own, union_cases, union_left, union_right}
use Rattle.rules.specs.Rules.{InBody}
use Rattle.records.specs.Records.{Record, access_kind, record_at}
use Rattle.levels.specs.Levels.{AccessHeads}
use Rattle.levels.specs.Rows.{Access, Gathered}
use Rattle.levels.proofs.LayerLaws.{no_zeros}

-- a set joins row h
module _ (xs : List ℕ) (h p : ℕ) (fits : h < length xs) where
  put : List ℕ
  put = set xs h (union (get_or xs h 0) p)

  put_old : (i j : ℕ) → Member i (get_or xs j 0) → Member i (get_or (set xs h (union (get_or xs h 0) p)) j 0)
  unfolding put
  put_old i j m = go (ℕ_discrete j h)
    where
      go : Dec (j ≡ h) → Member i (get_or put j 0)
      go (no n) = subst (Member i) (sym (get_or-set_other xs h j _ 0 n)) m
      go (yes e) =
          subst (λ (x : ℕ). Member i (get_or put x 0)) (sym e)
          (subst (Member i) (sym (get_or-set_same xs h _ 0 fits)) (union_left (get_or xs h 0) p i (subst (λ (x : ℕ). Member i (get_or xs x 0)) e m)))

  put_new : (i : ℕ) → Member i p → Member i (get_or (set xs h (union (get_or xs h 0) p)) h 0)
  put_new i m = subst (Member i) (sym (get_or-set_same xs h _ 0 fits)) (union_right (get_or xs h 0) p i m)

  put_cases : (i j : ℕ) → Member i (get_or (set xs h (union (get_or xs h 0) p)) j 0) → Member i (get_or xs j 0) ⊎ ((j ≡ h) × Member i p)
  unfolding put
  put_cases i j m = go (ℕ_discrete j h)
    where
      go : Dec (j ≡ h) → Member i (get_or xs j 0) ⊎ ((j ≡ h) × Member i p)
      go (no n) = inl (subst (Member i) (get_or-set_other xs h j _ 0 n) m)
      go (yes e) = pick (union_cases (get_or xs h 0) p i (subst (Member i) (get_or-set_same xs h _ 0 fits) (subst (λ (x : ℕ). Member i (get_or put x 0)) e m)))
        where
          pick : Member i (get_or xs h 0) ⊎ Member i p → Member i (get_or xs j 0) ⊎ ((j ≡ h) × Member i p)
          pick (inl a) = inl (subst (λ (x : ℕ). Member i (get_or xs x 0)) (sym e) a)
          pick (inr a) = inr (e, a)

pub gathered_none : (bytes : List ℕ) → Gathered bytes 0 (replicate 64 0) (replicate 64 0) 0
gathered_none bytes = record {
  head = λ j a. absurd (not-suc-le-zero a.before);
  body = λ j a. absurd (not-suc-le-zero a.before);
  nots = λ j a. absurd (not-suc-le-zero a.before);
  only = λ h k m. absurd (no_zeros 64 h k m);
  only_nots = λ h k m. absurd (no_zeros 64 h k m);
}

-- the head of an access record is an atom
pub access_low : (bytes : List ℕ) → AccessHeads bytes → (n : ℕ) → 18 * n + 18 ≤ length bytes → (r : Record) → r ≡ record_at bytes n → r.kind ≡ access_kind
    → r.rule.head ≤ violation
access_low bytes f n l r e = subst (λ (x : Record). x.kind ≡ access_kind → x.rule.head ≤ violation) (sym e) (f n l)

-- ---- one record more

module _ (bytes : List ℕ) (n : ℕ) (rows negated : List ℕ) (heads : ℕ) (g : Gathered bytes n rows negated heads) (wr : length rows ≡ 64)
    (wn : length negated ≡ 64) where
  d : Record
  d = record_at bytes n

  more : (j : ℕ) → Access bytes n j → Access bytes (n + 1) j
  more j a = record { before = omega (arith, a.before); kind = a.kind }

  last : (j : ℕ) → Access bytes (n + 1) j → (j ≡ n) ⊎ Access bytes n j
  last j a = go (eq-or-lt_of_le low)
    where
      low : j ≤ n
      low = omega (arith, a.before)

      go : (j ≡ n) ⊎ (j < n) → (j ≡ n) ⊎ Access bytes n j
      go (inl e) = inl e
      go (inr l) = inr (record { before = l; kind = a.kind })

  -- a record of another kind adds nothing
  other : (d.kind ≡ access_kind → ⊥) → Gathered bytes (n + 1) rows negated heads
  unfolding d
  other not-access = record {
    head = λ j a. g.head j (earlier j a);
    body = λ j a. g.body j (earlier j a);
    nots = λ j a. g.nots j (earlier j a);
    only = λ h k m. let o = g.only h k m in (o.0, more o.0 o.1, o.2, o.3);
    only_nots = λ h k m. let o = g.only_nots h k m in (o.0, more o.0 o.1, o.2, o.3);
  }
    where
      earlier : (j : ℕ) → Access bytes (n + 1) j → Access bytes n j
      earlier j a = go (last j a)
        where
          go : (j ≡ n) ⊎ Access bytes n j → Access bytes n j
          go (inl e) = absurd (not-access (subst (λ (x : ℕ). (record_at bytes x).kind ≡ access_kind) e a.kind))
          go (inr b) = b

  -- an access record adds its body to the row of its head
  module _ (access : d.kind ≡ access_kind) (low : d.rule.head ≤ violation) where
    H : ℕ
    H = d.rule.head

    all : ℕ
    all = union d.rule.positive d.rule.negated

    fits_rows : H < length rows
    unfolding H
    fits_rows = omega (arith, wr, low)

    fits_nots : H < length negated
    unfolding H
    fits_nots = omega (arith, wn, low)

    own : Access bytes (n + 1) n
    unfolding d
    own = record { before = omega arith; kind = access }

    joined : Gathered bytes (n + 1) (set rows d.rule.head (union (get_or rows d.rule.head 0) (union d.rule.positive d.rule.negated)))
        (set negated d.rule.head (union (get_or negated d.rule.head 0) d.rule.negated)) (union heads (single d.rule.head))
    unfolding d H all
    joined = record {
      head = λ j a. head j (last j a);
      body = λ j a k m. body j k m (last j a);
      nots = λ j a k m. nots j k m (last j a);
      only = λ h k m. only h k (put_cases rows H all fits_rows k h m);
      only_nots = λ h k m. only_nots h k (put_cases negated H d.rule.negated fits_nots k h m);
    }
      where
        head : (j : ℕ) → (j ≡ n) ⊎ Access bytes n j → Member (record_at bytes j).rule.head (union heads (single H))
        head j (inl e) = subst (λ (x : ℕ). Member (record_at bytes x).rule.head (union heads (single H))) (sym e) (union_right heads (single H) H (single_own H low))
        head j (inr a) = union_left heads (single H) _ (g.head j a)

        has : (k : ℕ) → InBody k d.rule → Member k all
        has k (inl m) = union_left d.rule.positive d.rule.negated k m
        has k (inr m) = union_right d.rule.positive d.rule.negated k m

        body : (j k : ℕ) → InBody k (record_at bytes j).rule → (j ≡ n) ⊎ Access bytes n j
            → Member k (get_or (set rows H (union (get_or rows H 0) all)) (record_at bytes j).rule.head 0)
        body j k m (inl e) =
            subst (λ (x : ℕ). InBody k (record_at bytes x).rule → Member k (get_or (set rows H (union (get_or rows H 0) all)) (record_at bytes x).rule.head 0)) (sym e)
            (λ i. put_new rows H all fits_rows k (has k i)) m
        body j k m (inr a) = put_old rows H all fits_rows k _ (g.body j a k m)

        nots : (j k : ℕ) → Member k (record_at bytes j).rule.negated → (j ≡ n) ⊎ Access bytes n j
            → Member k (get_or (set negated H (union (get_or negated H 0) d.rule.negated)) (record_at bytes j).rule.head 0)
        nots j k m (inl e) =
            subst
            (λ (x : ℕ). Member k (record_at bytes x).rule.negated
            → Member k (get_or (set negated H (union (get_or negated H 0) d.rule.negated)) (record_at bytes x).rule.head 0)) (sym e)
            (λ i. put_new negated H d.rule.negated fits_nots k i) m
        nots j k m (inr a) = put_old negated H d.rule.negated fits_nots k _ (g.nots j a k m)

        only : (h k : ℕ) → Member k (get_or rows h 0) ⊎ ((h ≡ H) × Member k all)
            → (j : ℕ) × Access bytes (n + 1) j × ((record_at bytes j).rule.head ≡ h) × InBody k (record_at bytes j).rule
        only h k (inl m) = let o = g.only h k m in (o.0, more o.0 o.1, o.2, o.3)
        only h k (inr e) = (n, own, sym e.0, union_cases d.rule.positive d.rule.negated k e.1)

        only_nots : (h k : ℕ) → Member k (get_or negated h 0) ⊎ ((h ≡ H) × Member k d.rule.negated)
            → (j : ℕ) × Access bytes (n + 1) j × ((record_at bytes j).rule.head ≡ h) × Member k (record_at bytes j).rule.negated
        only_nots h k (inl m) = let o = g.only_nots h k m in (o.0, more o.0 o.1, o.2, o.3)
        only_nots h k (inr e) = (n, own, sym e.0, e.1)

  pub gathered_other : (r : Record) → r ≡ record_at bytes n → (r.kind ≡ access_kind → ⊥) → Gathered bytes (n + 1) rows negated heads
  unfolding d
  gathered_other r e f = other (subst (λ (x : Record). x.kind ≡ access_kind → ⊥) e f)

  -- what an access record writes
  abbrev Next : Record → Type 0
  Next r = r.kind ≡ access_kind → r.rule.head ≤ violation
      → Gathered bytes (n + 1) (set rows r.rule.head (union (get_or rows r.rule.head 0) (union r.rule.positive r.rule.negated)))
      (set negated r.rule.head (union (get_or negated r.rule.head 0) r.rule.negated)) (union heads (single r.rule.head))

  next : (r : Record) → r ≡ record_at bytes n → Next r
  unfolding d
  next r e = subst Next (sym e) joined

  pub gathered_put : (r : Record) → r ≡ record_at bytes n → r.kind ≡ access_kind → r.rule.head ≤ violation → (h : ℕ) → h ≡ r.rule.head → (own all x y z : ℕ)
      → own ≡ single r.rule.head → all ≡ union r.rule.positive r.rule.negated → x ≡ union (get_or rows h 0) all → y ≡ union (get_or negated h 0) r.rule.negated
      → z ≡ union heads own → Gathered bytes (n + 1) (set rows h x) (set negated h y) z
  gathered_put r e k l h q own all x y z o a b c f = let g = next r e k l in rw (f, b, c, o, a, q) g
