-- Where two lists of log records part. Assumes nothing.
use mathlib.Core.Path.{◌≡◌, ap, refl, subst}
use mathlib.Core.Logic.{◌⊎◌, inl, inr}
use mathlib.Core.Bool.{Bool, cond, false, true}
use mathlib.Core.List.{List, [], ◌∷◌}
use mathlib.Core.Option.{Option, map, none, some}
use Prim.Native.Nat.{◌<◌, ◌≤◌, suc, zero, ℕ}
use lib.ListN.{get_or, length, take}
use native.Mathlib.Nat.{le_of_suc-le-suc, not-suc-le-zero}
use native.Mathlib.Omega.{arith}
use Rattle.logs.specs.Agreement.{Agree, agree}
use Rattle.logs.specs.Comparison.{divergence}
use Rattle.logs.specs.Entries.{Entry}
use Rattle.logs.proofs.AgreeLaws.{agree_not, agree_same, tested}

pub none≢some : (n : ℕ) → none ≡ some n → ⊥
none≢some n e = let z : ◌≡◌ {A = ℕ} 0 1 = cc in omega arith

pub divergence_same : (xs : List Entry) → divergence xs xs ≡ none
unfolding divergence
divergence_same [] = refl
divergence_same (x ∷ xs) = rw (agree_same x, divergence_same xs)

-- where two lists part, so do their beginnings
pub divergence_taken : (xs ys : List Entry) (k : ℕ) → divergence xs ys ≡ some k → divergence (take (suc k) xs) (take (suc k) ys) ≡ some k
unfolding divergence
divergence_taken [] [] k e = e
divergence_taken [] (y ∷ ys) k e = e
divergence_taken (x ∷ xs) [] k e = e
divergence_taken (x ∷ xs) (y ∷ ys) k e = go (agree x y) (divergence xs ys) k e (divergence_taken xs ys)
  where
    go : (b : Bool) (o : Option ℕ) (k : ℕ) → cond b (map suc o) (some 0) ≡ some k
        → ((j : ℕ) → o ≡ some j → divergence (take (suc j) xs) (take (suc j) ys) ≡ some j)
        → cond b (map suc (divergence (take k xs) (take k ys))) (some 0) ≡ some k
    go true none k e later = absurd (none≢some k e)
    go true (some j) k e later =
        let next : suc j ≡ k = cc in
        subst (λ (n : ℕ). map suc (divergence (take n xs) (take n ys)) ≡ some n) next (ap (map suc) (later j refl))
    go false o k e later = e

-- ---- what each answer says, by places; d stands for a record past the end

-- both have record k, and there they agree
abbrev pub AgreeThere : Entry → List Entry → List Entry → ℕ → Type 0
AgreeThere d xs ys k = (k < length xs) × ((k < length ys) × Agree (get_or xs k d) (get_or ys k d))

-- both have record k and do not agree there, or one has it alone
abbrev pub PartThere : Entry → List Entry → List Entry → ℕ → Type 0
PartThere d xs ys k =
    ((k < length xs) × ((k < length ys) × (Agree (get_or xs k d) (get_or ys k d) → ⊥)))
    ⊎ (((k < length xs) × (length ys ≤ k)) ⊎ ((length xs ≤ k) × (k < length ys)))

-- what an answer says
abbrev pub Says : Entry → List Entry → List Entry → Option ℕ → Type 0
Says d xs ys none = (length xs ≡ length ys) × ((k : ℕ) → k < length xs → AgreeThere d xs ys k)
Says d xs ys (some k) = ((j : ℕ) → j < k → AgreeThere d xs ys j) × PartThere d xs ys k

module _ (d x y : Entry) (xs ys : List Entry) where
  there_next : (k : ℕ) → AgreeThere d xs ys k → AgreeThere d (x ∷ xs) (y ∷ ys) (suc k)
  there_next k (l, (m, h)) = (omega arith, (omega arith, h))

  part_next : (k : ℕ) → PartThere d xs ys k → PartThere d (x ∷ xs) (y ∷ ys) (suc k)
  part_next k (inl (l, (m, h))) = inl (omega arith, (omega arith, h))
  part_next k (inr (inl (l, m))) = inr (inl (omega arith, omega arith))
  part_next k (inr (inr (l, m))) = inr (inr (omega arith, omega arith))

  -- they agree at the first record
  says_next : Agree x y → (o : Option ℕ) → Says d xs ys o → Says d (x ∷ xs) (y ∷ ys) (map suc o)
  says_next a none (e, h) = (ap suc e, each)
    where
      each : (k : ℕ) → k < suc (length xs) → AgreeThere d (x ∷ xs) (y ∷ ys) k
      each zero l = (omega arith, (omega arith, a))
      each (suc k) l = there_next k (h k (le_of_suc-le-suc l))
  says_next a (some n) (h, p) = (each, part_next n p)
    where
      each : (k : ℕ) → k < suc n → AgreeThere d (x ∷ xs) (y ∷ ys) k
      each zero l = (omega arith, (omega arith, a))
      each (suc k) l = there_next k (h k (le_of_suc-le-suc l))

-- one of them has a record, the other has none
first_ends : (d y : Entry) (ys : List Entry) → Says d [] (y ∷ ys) (some 0)
first_ends d y ys = (λ j l. absurd (not-suc-le-zero l), inr (inr (omega arith, omega arith)))

second_ends : (d x : Entry) (xs : List Entry) → Says d (x ∷ xs) [] (some 0)
second_ends d x xs = (λ j l. absurd (not-suc-le-zero l), inr (inl (omega arith, omega arith)))

pub divergence_says : (d : Entry) (xs ys : List Entry) → Says d xs ys (divergence xs ys)
unfolding divergence
divergence_says d [] [] = (refl, λ k l. absurd (not-suc-le-zero l))
divergence_says d [] (y ∷ ys) = first_ends d y ys
divergence_says d (x ∷ xs) [] = second_ends d x xs
divergence_says d (x ∷ xs) (y ∷ ys) = go (agree x y) refl (divergence xs ys) (divergence_says d xs ys)
  where
    go : (b : Bool) → agree x y ≡ b → (o : Option ℕ) → Says d xs ys o → Says d (x ∷ xs) (y ∷ ys) (cond b (map suc o) (some 0))
    go true i o h = says_next d x y xs ys ((tested x y).0 i) o h
    go false i o h = (λ j l. absurd (not-suc-le-zero l), inl (omega arith, (omega arith, agree_not x y i)))

-- ---- and no two answers say both

module _ (d : Entry) (xs ys : List Entry) where
  not_both : (k : ℕ) → AgreeThere d xs ys k → PartThere d xs ys k → ⊥
  not_both k (l, (m, h)) (inl (_, (_, n))) = n h
  not_both k (l, (m, h)) (inr (inl (_, n))) = omega arith
  not_both k (l, (m, h)) (inr (inr (n, _))) = omega arith

  not_all : Says d xs ys none → (k : ℕ) → PartThere d xs ys k → ⊥
  not_all (e, h) k (inl (l, (m, n))) = n (h k l).1.1
  not_all (e, h) k (inr (inl (l, m))) = omega arith
  not_all (e, h) k (inr (inr (l, m))) = omega arith

  pub says_one : (o p : Option ℕ) → Says d xs ys o → Says d xs ys p → o ≡ p
  says_one none none h i = refl
  says_one none (some k) h i = absurd (not_all h k i.1)
  says_one (some j) none h i = absurd (not_all i j h.1)
  says_one (some j) (some k) h i =
      let not_before : j < k → ⊥ = λ l. not_both j (i.0 j l) h.1 in
      let not_after : k < j → ⊥ = λ l. not_both k (h.0 k l) i.1 in
      let same : j ≡ k = omega arith in
      ap some same

  -- so an answer is the one that says so
  pub says_divergence : (o : Option ℕ) → Says d xs ys o → divergence xs ys ≡ o
  says_divergence o h = says_one (divergence xs ys) o (divergence_says d xs ys) h
