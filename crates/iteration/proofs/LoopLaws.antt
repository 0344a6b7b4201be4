-- What a loop needs that makes passes until one is idle, whatever the pass and however many the sets. Assumes nothing.
use mathlib.Core.Path.{◌∙◌, ◌≡◌, ap, subst, sym}
use Prim.Native.Nat.{◌+◌, ◌<◌, ◌^◌, ◌≤◌, suc, ℕ}
use native.Mathlib.Decide.{ℕ_discrete}
use native.Mathlib.Omega.{arith}
use Rattle.lists.proofs.SumLaws.{sum_same}
use Rattle.atoms.specs.Sets.{difference, size}
use Rattle.atoms.proofs.SizeLaws.{size_most}
use Rattle.rules.proofs.ClosureLaws.{times_out}
use Rattle.iteration.specs.IdlePasses.{ClosedIn, Idle, after_passes, atoms_added}
use Rattle.iteration.proofs.AddingLaws.{Adding, times_none}
use Rattle.iteration.proofs.IdleLaws.{busy_few, idle_is, is_idle, none_idle}

module _ (m : ℕ) (pass : ℕ → ℕ → ℕ) (S : ℕ → ℕ) where
  -- the loop's invariant: n passes have made R of S, and none was idle
  pub record Running (R : ℕ → ℕ) (n : ℕ) : Type 0 where
    pub made : (j : ℕ) → j < m → R j ≡ after_passes pass S n j
    pub busy : (k : ℕ) → k ≤ n → Idle m pass S k → ⊥

  pub running_first : Running S 0
  running_first = record {
    made = λ j l. sym (times_none (pass j) (S j));
    busy = λ k l i. none_idle m pass S (subst (Idle m pass S) (omega (arith, l)) i);
  }

  -- N is R after one more pass
  module _ (R N : ℕ → ℕ) (n : ℕ) (r : Running R n) (next : (j : ℕ) → j < m → N j ≡ pass j (R j)) where
    made_next : (j : ℕ) → j < m → N j ≡ after_passes pass S (suc n) j
    made_next j l = next j l ∙ ap (pass j) (r.made j l) ∙ sym (times_out n (pass j) (S j))

    -- it has added something: the loop goes on
    pub running_next : (((j : ℕ) → j < m → N j ≡ R j) → ⊥) → Running N (n + 1)
    running_next adds = subst (Running N) one_more (record { made = made_next; busy = λ k l i. go k l i (ℕ_discrete k (suc n)) })
      where
        one_more : suc n ≡ n + 1
        one_more = omega arith

        go : (k : ℕ) → k ≤ suc n → Idle m pass S k → Dec (k ≡ suc n) → ⊥
        go k l i (yes e) =
            adds (λ j low. made_next j low ∙ idle_is m pass S n (subst (Idle m pass S) e i) j low ∙ sym (r.made j low))
        go k l i (no ne) = r.busy k (omega (arith, l, ne)) i

  module _ (H : ℕ) (atoms : H < 2 ^ 64) (adding : (j : ℕ) → j < m → Adding H (pass j)) where
    -- so far no more passes than atoms
    pub running_few : (R : ℕ → ℕ) (n : ℕ) → Running R n → n ≤ 64
    running_few R n r = omega (arith, (busy_few m pass S H atoms adding n (r.busy n (omega arith))).1, size_most H)

    -- one more pass has added nothing: the loop ends
    pub running_last : (R N : ℕ → ℕ) (n : ℕ) → Running R n → ((j : ℕ) → j < m → N j ≡ pass j (R j)) → ((j : ℕ) → j < m → N j ≡ R j)
        → ClosedIn m pass S H N (n + 1)
    running_last R N n r next idle = subst (ClosedIn m pass S H N) one_more (record {
      made = made_next R N n r next;
      idle = is_idle m pass S n (λ j l. sym (made_next R N n r next j l) ∙ idle j l ∙ r.made j l);
      earlier = λ k l. r.busy k (omega (arith, l));
      few = omega (arith, few.0, gained);
      few_heads = omega (arith, few.1);
    })
      where
        one_more : suc n ≡ n + 1
        one_more = omega arith

        few : (n ≤ atoms_added m S (after_passes pass S n)) × (n ≤ size H)
        few = busy_few m pass S H atoms adding n (r.busy n (omega arith))

        gained : atoms_added m S N ≡ atoms_added m S (after_passes pass S n)
        gained = sum_same _ _ m (λ j l. ap (λ (x : ℕ). size (difference x (S j))) (idle j l ∙ r.made j l))
