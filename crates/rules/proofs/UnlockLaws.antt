-- What it is to unlock a service, computed and by stable sets. Assumes nothing.
use mathlib.Core.Path.{◌≡◌, subst}
use mathlib.Core.Logic.{◌↔◌}
use mathlib.Core.Bool.{not, true}
use mathlib.Core.List.{List, ◌++◌, ◌∷◌}
use Prim.Native.Nat.{ℕ}
use Rattle.lists.proofs.ListLaws.{every_one_of, one_of_every}
use Rattle.lists.specs.Lists.{Every}
use Rattle.validation.proofs.DecideLaws.{decides_and, decides_eq, decides_not}
use Rattle.atoms.specs.Atoms.{violation}
use Rattle.atoms.specs.Sets.{Member, bit, member}
use Rattle.rules.specs.Model.{model}
use Rattle.rules.specs.Policy.{Policy}
use Rattle.rules.specs.Rules.{Rule, Stratified}
use Rattle.rules.specs.Stable.{OneStable, Stable}
use Rattle.rules.specs.Theorems.{Equivalent}
use Rattle.rules.specs.Unlocking.{Unlocks, grants, unlocks}
use Rattle.rules.proofs.BodyLaws.{never_applies, one_more}
use Rattle.rules.proofs.LevelLaws.{one_stable_any}

pub grants_means : (r M : ℕ) → (grants r M ≡ true) ↔ (Member r M × (Member violation M → ⊥))
grants_means r M =
    decides_and (member r M) (not (member violation M)) (decides_eq (bit M r) 1) (decides_not (member violation M) (decides_eq (bit M violation) 1))

-- where the access rules keep levels, whatever these are
pub unlocks_iff : (lev : ℕ → ℕ) (pol : Policy) → Every (Stratified lev) pol.access → (r C : ℕ) → (unlocks pol r C ≡ true) ↔ Unlocks pol r C
unfolding unlocks
unlocks_iff lev pol s r C = (
  λ e. let h = (grants_means r M).0 e in record { stable_set = M; stable = one.stable; service = h.0; no_violation = h.1 },
  λ u. subst (λ (x : ℕ). grants r x ≡ true) (one.only u.stable_set u.stable) ((grants_means r u.stable_set).1 (u.service, u.no_violation)),
)
  where
    M : ℕ
    M = model pol.access C

    one : OneStable pol.access C (model pol.access C)
    one = one_stable_any lev pol.access s C

-- with a rule that has an atom on both sides and without it
pub equivalent : (qs rs : List Rule) (r : Rule) (k : ℕ) → Member k r.positive → Member k r.negated → Equivalent (qs ++ (r ∷ rs)) (qs ++ rs)
equivalent qs rs r k p n = record {
  stable_sets = same;
  unlocked = λ ds ws s C. (
    λ u. record { stable_set = u.stable_set; stable = (same C u.stable_set).0 u.stable; service = u.service; no_violation = u.no_violation },
    λ u. record { stable_set = u.stable_set; stable = (same C u.stable_set).1 u.stable; service = u.service; no_violation = u.no_violation },
  );
  models = λ lev a C.
      let all = every_one_of (Stratified lev) (qs ++ (r ∷ rs)) a in
      let left = one_of_every (Stratified lev) (qs ++ rs) (λ t i. all t (one_more qs rs r t i)) in
      let M = model (qs ++ (r ∷ rs)) C in
      (one_stable_any lev (qs ++ rs) left C).only M ((same C M).0 (one_stable_any lev (qs ++ (r ∷ rs)) a C).stable);
}
  where
    same : (C M : ℕ) → Stable (qs ++ (r ∷ rs)) C M ↔ Stable (qs ++ rs) C M
    same = never_applies qs rs r k p n
