-- The least number of an idle pass: it is computed, and what it says of each set. Assumes nothing.
use mathlib.Core.Path.{◌∙◌, ◌≡◌, ap, refl, subst, sym}
use mathlib.Core.Logic.{◌≢◌, ◌↔◌}
use mathlib.Core.Bool.{Bool, cond, false, true, true≢false}
use Prim.Native.Nat.{◌+◌, ◌<◌, ◌^◌, ◌≤◌, suc, zero, ℕ}
use lib.Dec.{eqb}
use native.Mathlib.Decide.{ℕ_discrete}
use native.Mathlib.Nat.{lt_of_not-le, not-suc-le-zero}
use native.Mathlib.Omega.{arith}
use Rattle.lists.proofs.SumLaws.{sum_same}
use Rattle.validation.proofs.TestLaws.{and_true, both_true, eqb_true, true_eqb}
use Rattle.atoms.specs.Sets.{difference, size}
use Rattle.atoms.proofs.SizeLaws.{size_most}
use Rattle.rules.specs.Model.{times}
use Rattle.iteration.specs.Counting.{at_rest, count_from, pass_count}
use Rattle.iteration.specs.IdlePasses.{ClosedIn, Idle, LeastIdle, LeastIdleOf, after_passes, atoms_added}
use Rattle.iteration.proofs.AddingLaws.{Adding}
use Rattle.iteration.proofs.IdleLaws.{busy_few, busy_some, idle_is, idle_stay, is_idle, none_idle}

-- ---- computed

rest_all : (m : ℕ) (pass : ℕ → ℕ → ℕ) (S : ℕ → ℕ) → at_rest m pass S ≡ true → (j : ℕ) → j < m → pass j (S j) ≡ S j
unfolding at_rest
rest_all zero pass S e j l = absurd (not-suc-le-zero l)
rest_all (suc m) pass S e j l = go (ℕ_discrete j m) (λ k. rest_all m pass S both.1 j k)
  where
    both : (eqb (pass m (S m)) (S m) ≡ true) × (at_rest m pass S ≡ true)
    both = and_true (eqb (pass m (S m)) (S m)) (at_rest m pass S) e

    go : Dec (j ≡ m) → (j < m → pass j (S j) ≡ S j) → pass j (S j) ≡ S j
    go (yes q) ih = subst (λ (x : ℕ). pass x (S x) ≡ S x) (sym q) (eqb_true (pass m (S m)) (S m) both.0)
    go (no q) ih = ih (omega (arith, l, q))

all_rest : (m : ℕ) (pass : ℕ → ℕ → ℕ) (S : ℕ → ℕ) → ((j : ℕ) → j < m → pass j (S j) ≡ S j) → at_rest m pass S ≡ true
unfolding at_rest
all_rest zero pass S h = refl
all_rest (suc m) pass S h = both_true (true_eqb (h m (omega arith))) (all_rest m pass S (λ j l. h j (omega arith)))

-- the first pass is idle where the sets are at rest
rest_idle : (m : ℕ) (pass : ℕ → ℕ → ℕ) (S : ℕ → ℕ) → at_rest m pass S ≡ true → Idle m pass S 1
unfolding Idle times
rest_idle m pass S e j l = rest_all m pass S e j l

idle_rest : (m : ℕ) (pass : ℕ → ℕ → ℕ) (S : ℕ → ℕ) → Idle m pass S 1 → at_rest m pass S ≡ true
unfolding Idle times
idle_rest m pass S h = all_rest m pass S h

-- a pass more, from the sets before the first or from those after it
idle_in : (m : ℕ) (pass : ℕ → ℕ → ℕ) (S : ℕ → ℕ) (n : ℕ) → Idle m pass S (suc (suc n)) → Idle m pass (λ j. pass j (S j)) (suc n)
unfolding Idle times
idle_in m pass S n h = h

idle_out : (m : ℕ) (pass : ℕ → ℕ → ℕ) (S : ℕ → ℕ) (n : ℕ) → Idle m pass (λ j. pass j (S j)) n → Idle m pass S (suc n)
unfolding Idle times
idle_out m pass S zero h = absurd h
idle_out m pass S (suc n) h = h

first_least : (m : ℕ) (pass : ℕ → ℕ → ℕ) (S : ℕ → ℕ) → Idle m pass S 1 → LeastIdle m pass S 1
first_least m pass S h = record { idle = h; least = λ k i. go k i }
  where
    go : (k : ℕ) → Idle m pass S k → 1 ≤ k
    go zero i = absurd (none_idle m pass S i)
    go (suc k) i = omega arith

count_least : (most m : ℕ) (pass : ℕ → ℕ → ℕ) (S : ℕ → ℕ) → Idle m pass S (suc most) → LeastIdle m pass S (count_from most m pass S)
unfolding count_from
count_least zero m pass S h = first_least m pass S h
count_least (suc most) m pass S h =
    go (at_rest m pass S) refl (count_least most m pass (λ j. pass j (S j)) (idle_in m pass S most h))
  where
    go : (b : Bool) → at_rest m pass S ≡ b → LeastIdle m pass (λ j. pass j (S j)) (count_from most m pass (λ j. pass j (S j)))
        → LeastIdle m pass S (cond b 1 (suc (count_from most m pass (λ j. pass j (S j)))))
    go true e ih = first_least m pass S (rest_idle m pass S e)
    go false e ih = record { idle = idle_out m pass S _ ih.idle; least = λ k i. least k i }
      where
        least : (k : ℕ) → Idle m pass S k → suc (count_from most m pass (λ j. pass j (S j))) ≤ k
        least zero i = absurd (none_idle m pass S i)
        least (suc zero) i = absurd (true≢false (sym (idle_rest m pass S i) ∙ e))
        least (suc (suc k)) i = omega (arith, ih.least (suc k) (idle_in m pass S k i))

-- ---- the least number

module _ (m : ℕ) (pass : ℕ → ℕ → ℕ) (S : ℕ → ℕ) where
  pub least_one : (n k : ℕ) → LeastIdle m pass S n → LeastIdle m pass S k → n ≡ k
  least_one n k a b = omega (arith, a.least k b.idle, b.least n a.idle)

  before_busy : (n : ℕ) → LeastIdle m pass S (suc n) → Idle m pass S n → ⊥
  before_busy n a i = omega (arith, a.least n i)

  pub least_stay : (n : ℕ) → LeastIdle m pass S n → (k j : ℕ) → j < m → after_passes pass S (n + k) j ≡ after_passes pass S n j
  least_stay zero a k j l = absurd (none_idle m pass S a.idle)
  least_stay (suc n) a k j l =
      let e = idle_is m pass S n a.idle j l in
      idle_stay (pass j) (S j) n (suc n + k) (omega arith) e ∙ sym e

  -- of one of the sets
  one_idle : (n j : ℕ) → j < m → Idle m pass S n → Idle 1 (λ _. pass j) (λ _. S j) n
  one_idle zero j l i = absurd (none_idle m pass S i)
  one_idle (suc n) j l i = is_idle 1 (λ _. pass j) (λ _. S j) n (λ _ _. idle_is m pass S n i j l)

  pub least_each : (n : ℕ) → LeastIdle m pass S n → (j k : ℕ) → j < m → LeastIdleOf (pass j) (S j) k → k ≤ n
  least_each n a j k l b = b.least n (one_idle n j l a.idle)

  pub least_some : (n : ℕ) → LeastIdle m pass S n → 0 < m → (j : ℕ) × ((j < m) × LeastIdleOf (pass j) (S j) n)
  least_some zero a some = absurd (none_idle m pass S a.idle)
  least_some (suc zero) a some = (0, (some, first_least 1 (λ _. pass 0) (λ _. S 0) (one_idle 1 0 some a.idle)))
  least_some (suc (suc n)) a some =
      let r = busy_some m pass S n (before_busy (suc n) a) in
      (r.0, (r.1.0, record { idle = one_idle (suc (suc n)) r.0 r.1.0 a.idle; least = λ k i. go r.0 r.1.1 k i }))
    where
      go : (j : ℕ) → ((k : ℕ) → k < suc n → after_passes pass S (suc k) j ≢ after_passes pass S k j)
          → (k : ℕ) → Idle 1 (λ _. pass j) (λ _. S j) k → suc (suc n) ≤ k
      go j busy zero i = absurd (none_idle 1 (λ _. pass j) (λ _. S j) i)
      go j busy (suc k) i =
          lt_of_not-le (λ l. busy k (omega (arith, l)) (idle_is 1 (λ _. pass j) (λ _. S j) k i 0 (omega arith)))

  module _ (H : ℕ) (atoms : H < 2 ^ 64) (adding : (j : ℕ) → j < m → Adding H (pass j)) where
    -- the pass after the 64th is idle at the latest
    late_idle : Idle m pass S 65
    late_idle = is_idle m pass S 64 (λ j l. go j l (ℕ_discrete (after_passes pass S 65 j) (after_passes pass S 64 j)))
      where
        go : (j : ℕ) → j < m → Dec (after_passes pass S 65 j ≡ after_passes pass S 64 j) → after_passes pass S 65 j ≡ after_passes pass S 64 j
        go j l (yes e) = e
        go j l (no ne) =
            absurd (omega (arith, (busy_few m pass S H atoms adding 65 (λ i. ne (idle_is m pass S 64 i j l))).1, size_most H))

    pub count_is : LeastIdle m pass S (pass_count m pass S)
    unfolding pass_count
    count_is = count_least 64 m pass S late_idle

    pub least_few : (n : ℕ) → LeastIdle m pass S n → (n ≤ suc (atoms_added m S (after_passes pass S n))) × (n ≤ suc (size H))
    least_few zero a = absurd (none_idle m pass S a.idle)
    least_few (suc n) a =
        let few = busy_few m pass S H atoms adding n (before_busy n a) in
        let same : atoms_added m S (after_passes pass S (suc n)) ≡ atoms_added m S (after_passes pass S n)
        = sum_same _ _ m (λ j l. ap (λ (x : ℕ). size (difference x (S j))) (idle_is m pass S n a.idle j l)) in
        (omega (arith, few.0, same), omega (arith, few.1))

    pub closed_least : (R : ℕ → ℕ) (n : ℕ) → ClosedIn m pass S H R n
        ↔ (LeastIdle m pass S n × ((j : ℕ) → j < m → R j ≡ after_passes pass S n j))
    closed_least R n = (
      λ c. (record { idle = c.idle; least = λ k i. omega (arith, lt_of_not-le {n = suc k} {m = n} (λ l. c.earlier k l i)) }, c.made),
      λ p. record {
        made = p.1;
        idle = p.0.idle;
        earlier = λ k l i. omega (arith, l, p.0.least k i);
        few = let same = sum_same (λ j. size (difference (R j) (S j))) _ m (λ j l. ap (λ (x : ℕ). size (difference x (S j))) (p.1 j l)) in
            omega (arith, (least_few n p.0).0, same);
        few_heads = (least_few n p.0).1;
      },
    )

    -- so a loop's count is the computed one
    pub closed_count : (R : ℕ → ℕ) (n : ℕ) → ClosedIn m pass S H R n → n ≡ pass_count m pass S
    closed_count R n c = least_one n (pass_count m pass S) ((closed_least R n).0 c).0 count_is
