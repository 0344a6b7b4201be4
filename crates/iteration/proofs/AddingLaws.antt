-- A pass that only adds: how many atoms are added while no pass is idle. Assumes nothing.
use mathlib.Core.Path.{◌∙◌, ◌≡◌, refl, subst, sym}
use mathlib.Core.Logic.{◌≢◌, ◌⊎◌, inl, inr}
use Prim.Native.Nat.{◌<◌, ◌^◌, ◌≤◌, suc, zero, ℕ}
use native.Mathlib.Decide.{ℕ_discrete}
use native.Mathlib.Omega.{arith}
use Rattle.atoms.specs.Sets.{Member, Subset, bit, difference, size, union}
use Rattle.atoms.proofs.SetLaws.{difference_iff, in_or_out, inhabited, member_low, none_in_empty, not_in, subset_antisym, union_cases, union_least, union_left, union_right}
use Rattle.atoms.proofs.SizeLaws.{size_le, size_lt}
use Rattle.rules.specs.Model.{times}
use Rattle.rules.proofs.ClosureLaws.{times_out}

-- a pass that only adds, and only atoms of H
pub record Adding (H : ℕ) (pass : ℕ → ℕ) : Type 0 where
  pub grows : (S : ℕ) → Subset S (pass S)
  pub within : (S : ℕ) → Subset (pass S) (union S H)

pub times_none : (f : ℕ → ℕ) (x : ℕ) → times 0 f x ≡ x
unfolding times
times_none f x = refl

-- what one set gains over another grows with the first
gain_grows : (S A B : ℕ) → Subset A B → Subset (difference A S) (difference B S)
gain_grows S A B g k m =
    let d = (difference_iff A S k).0 m in
    (difference_iff B S k).1 (g k d.0, d.1)

module _ (H : ℕ) (atoms : H < 2 ^ 64) (pass : ℕ → ℕ) (a : Adding H pass) where
  times_grows : (n S : ℕ) → Subset S (times n pass S)
  unfolding times
  times_grows zero S k m = m
  times_grows (suc n) S k m = times_grows n (pass S) k (a.grows S k m)

  times_within : (n S : ℕ) → Subset (times n pass S) (union S H)
  times_within zero S = subst (λ (x : ℕ). Subset x (union S H)) (sym (times_none pass S)) (union_left S H)
  times_within (suc n) S =
      rw (times_out n pass S)
      (λ k m. union_least (times n pass S) H (union S H) (times_within n S) (union_right S H) k (a.within (times n pass S) k m))

  -- all that is gained is of H
  gained_within : (n S : ℕ) → Subset (difference (times n pass S) S) H
  gained_within n S k m =
      let d = (difference_iff (times n pass S) S k).0 m in
      go d (union_cases S H k (times_within n S k d.0))
    where
      go : Member k (times n pass S) × (Member k S → ⊥) → Member k S ⊎ Member k H → Member k H
      go d (inl i) = absurd (d.1 i)
      go d (inr i) = i

  -- a pass that is not idle adds an atom that was not there
  pass_gains : (S T : ℕ) → Subset S T → pass T ≢ T → size (difference T S) < size (difference (pass T) S)
  pass_gains S T g ne = go (ℕ_discrete (difference (pass T) T) 0)
    where
      same : difference (pass T) T ≡ 0 → pass T ≡ T
      same e = subset_antisym (λ k m. pick k m (in_or_out T k)) (a.grows T)
        where
          pick : (k : ℕ) → Member k (pass T) → Member k T ⊎ (bit T k ≡ 0) → Member k T
          pick k m (inl i) = i
          pick k m (inr z) = absurd (none_in_empty k (subst (Member k) e ((difference_iff (pass T) T k).1 (m, λ i. omega (arith, i, z)))))

      more : (k : ℕ) → Member k (difference (pass T) T) → size (difference T S) < size (difference (pass T) S)
      more k m =
          let d = (difference_iff (pass T) T k).0 m in
          let low : k < 64 = member_low H 64 k atoms (new k d (union_cases T H k (a.within T k d.0))) in
          size_lt (difference T S) (difference (pass T) S) k low (gain_grows S T (pass T) (a.grows T))
          ((difference_iff (pass T) S k).1 (d.0, λ i. d.1 (g k i)))
          (not_in (difference T S) k (λ i. d.1 ((difference_iff T S k).0 i).0))
        where
          new : (k : ℕ) → Member k (pass T) × (Member k T → ⊥) → Member k T ⊎ Member k H → Member k H
          new k d (inl i) = absurd (d.1 i)
          new k d (inr i) = i

      go : Dec (difference (pass T) T ≡ 0) → size (difference T S) < size (difference (pass T) S)
      go (yes e) = absurd (ne (same e))
      go (no n) = let i = inhabited (difference (pass T) T) n in more i.0 i.1

  -- while no pass is idle, each has added an atom
  pub busy_gains : (n S : ℕ) → ((k : ℕ) → k < n → times (suc k) pass S ≢ times k pass S) → n ≤ size (difference (times n pass S) S)
  busy_gains zero S busy = omega arith
  busy_gains (suc n) S busy =
      let ih = busy_gains n S (λ k l. busy k (omega arith)) in
      let out : times (suc n) pass S ≡ pass (times n pass S) = times_out n pass S in
      let step = pass_gains S (times n pass S) (times_grows n S) (λ e. busy n (omega arith) (out ∙ e)) in
      rw out (omega (arith, ih, step))

  pub gained_few : (n S : ℕ) → size (difference (times n pass S) S) ≤ size H
  gained_few n S = size_le (difference (times n pass S) S) H (gained_within n S)
