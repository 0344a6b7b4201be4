-- The first idle pass over sets side by side: how soon it comes, and what comes after it. Assumes nothing.
use mathlib.Core.Path.{◌∙◌, ◌≡◌, ap, refl, subst, sym}
use mathlib.Core.Logic.{◌≢◌}
use Prim.Native.Nat.{◌+◌, ◌<◌, ◌^◌, ◌≤◌, suc, zero, ℕ}
use native.Mathlib.Decide.{ℕ_discrete}
use native.Mathlib.Nat.{not-suc-le-zero}
use native.Mathlib.Omega.{arith}
use Rattle.lists.specs.Sums.{sum}
use Rattle.lists.proofs.SumLaws.{sum_has}
use Rattle.atoms.specs.Sets.{difference, size}
use Rattle.rules.specs.Model.{times}
use Rattle.rules.proofs.ClosureLaws.{times_out}
use Rattle.iteration.specs.IdlePasses.{Idle, after_passes, atoms_added}
use Rattle.iteration.proofs.AddingLaws.{Adding, busy_gains, gained_few}

-- ---- one set: once a pass is idle, each later one is

idle_next : (f : ℕ → ℕ) (x n : ℕ) → times (suc n) f x ≡ times n f x → times (suc (suc n)) f x ≡ times (suc n) f x
idle_next f x n e = times_out (suc n) f x ∙ ap f e ∙ sym (times_out n f x)

idle_from : (f : ℕ → ℕ) (x n k : ℕ) → n ≤ k → times (suc n) f x ≡ times n f x → times (suc k) f x ≡ times k f x
idle_from f x n zero l e = subst (λ (i : ℕ). times (suc i) f x ≡ times i f x) (omega (arith, l)) e
idle_from f x n (suc k) l e = go (ℕ_discrete n (suc k)) (λ (h : n ≤ k). idle_from f x n k h e)
  where
    go : Dec (n ≡ suc k) → (n ≤ k → times (suc k) f x ≡ times k f x) → times (suc (suc k)) f x ≡ times (suc k) f x
    go (yes q) ih = subst (λ (i : ℕ). times (suc i) f x ≡ times i f x) q e
    go (no q) ih = idle_next f x k (ih (omega (arith, l, q)))

pub idle_stay : (f : ℕ → ℕ) (x n k : ℕ) → n ≤ k → times (suc n) f x ≡ times n f x → times k f x ≡ times n f x
idle_stay f x n zero l e = ap (λ (i : ℕ). times i f x) (omega (arith, l))
idle_stay f x n (suc k) l e = go (ℕ_discrete n (suc k)) (λ (h : n ≤ k). idle_stay f x n k h e)
  where
    go : Dec (n ≡ suc k) → (n ≤ k → times k f x ≡ times n f x) → times (suc k) f x ≡ times n f x
    go (yes q) ih = ap (λ (i : ℕ). times i f x) (sym q)
    go (no q) ih =
        let low : n ≤ k = omega (arith, l, q) in
        idle_from f x n k low e ∙ ih low

-- ---- sets side by side

pub added_none : (S R : ℕ → ℕ) → atoms_added 0 S R ≡ 0
unfolding sum
added_none S R = refl

pub added_more : (m : ℕ) (S R : ℕ → ℕ) → atoms_added (suc m) S R ≡ size (difference (R m) (S m)) + atoms_added m S R
unfolding sum
added_more m S R = omega arith

-- of numbers that are not all the same, two differ
some_differ : (m : ℕ) (f g : ℕ → ℕ) → (((j : ℕ) → j < m → f j ≡ g j) → ⊥) → (j : ℕ) × ((j < m) × (f j ≢ g j))
some_differ zero f g no_all = absurd (no_all (λ j l. absurd (not-suc-le-zero l)))
some_differ (suc m) f g no_all = go (ℕ_discrete (f m) (g m)) (λ h. some_differ m f g h)
  where
    last : f m ≡ g m → ((j : ℕ) → j < m → f j ≡ g j) → (j : ℕ) → j < suc m → f j ≡ g j
    last e h j l = pick (ℕ_discrete j m)
      where
        pick : Dec (j ≡ m) → f j ≡ g j
        pick (yes q) = subst (λ (x : ℕ). f x ≡ g x) (sym q) e
        pick (no q) = h j (omega (arith, l, q))

    go : Dec (f m ≡ g m) → ((((j : ℕ) → j < m → f j ≡ g j) → ⊥) → (j : ℕ) × ((j < m) × (f j ≢ g j)))
        → (j : ℕ) × ((j < suc m) × (f j ≢ g j))
    go (yes e) ih = let r = ih (λ h. no_all (last e h)) in (r.0, (omega (arith, r.1.0), r.1.1))
    go (no ne) ih = (m, (omega arith, ne))

module _ (m : ℕ) (pass : ℕ → ℕ → ℕ) (S : ℕ → ℕ) where
  pub idle_is : (n : ℕ) → Idle m pass S (suc n) → (j : ℕ) → j < m → after_passes pass S (suc n) j ≡ after_passes pass S n j
  unfolding Idle
  idle_is n h = h

  pub is_idle : (n : ℕ) → ((j : ℕ) → j < m → after_passes pass S (suc n) j ≡ after_passes pass S n j) → Idle m pass S (suc n)
  unfolding Idle
  is_idle n h = h

  pub none_idle : Idle m pass S 0 → ⊥
  unfolding Idle
  none_idle h = h

  -- where a pass is not idle, some set has gained in it, and in each pass before
  pub busy_some : (n : ℕ) → (Idle m pass S (suc n) → ⊥) → (j : ℕ) × ((j < m) × ((k : ℕ) → k < suc n → after_passes pass S (suc k) j ≢ after_passes pass S k j))
  busy_some n busy =
      let r = some_differ m (after_passes pass S (suc n)) (after_passes pass S n) (λ h. busy (is_idle n h)) in
      (r.0, (r.1.0, λ k l e. r.1.1 (idle_from (pass r.0) (S r.0) k n (omega (arith, l)) e)))

  module _ (H : ℕ) (atoms : H < 2 ^ 64) (adding : (j : ℕ) → j < m → Adding H (pass j)) where
    -- n passes, the last of which is not idle, have added n atoms, and all of them are of H
    pub busy_few : (n : ℕ) → (Idle m pass S n → ⊥) → (n ≤ atoms_added m S (after_passes pass S n)) × (n ≤ size H)
    busy_few zero busy = (omega arith, omega arith)
    busy_few (suc n) busy =
        let r = busy_some n busy in
        let j = r.0 in
        let gains = busy_gains H atoms (pass j) (adding j r.1.0) (suc n) (S j) r.1.1 in
        let most = gained_few H atoms (pass j) (adding j r.1.0) (suc n) (S j) in
        let all = sum_has (λ j. size (difference (after_passes pass S (suc n) j) (S j))) m j r.1.0 in
        (omega (arith, gains, all), omega (arith, gains, most))
