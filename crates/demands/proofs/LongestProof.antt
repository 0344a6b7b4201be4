-- 17 bounds the accepted rounds of every session, and since they are reached no smaller number does. Assumes nothing.
use mathlib.Core.Path.{subst}
use Prim.Native.Nat.{◌≤◌, ℕ}
use native.Mathlib.Omega.{arith}
use Rattle.rounds.specs.Sessions.{opened}
use Rattle.demands.specs.Longest.{Longest, changing}
use Rattle.demands.proofs.SeventeenProof.{seventeen}
use Rattle.demands.proofs.VisitProof.{always_sound}

pub longest : Longest
longest = record {
  reached = seventeen;
  bound = λ n. (
    λ h. subst (λ (k : ℕ). k ≤ n) seventeen.reached (h 16 (opened 16) seventeen.opens changing seventeen.fitting),
    λ l r s e vs f. omega (arith, (always_sound r s e vs f).longest),
  );
}
