-- The closure is the least closed set, and a stable set is what its own reduct gives. Assumes nothing.
use mathlib.Core.Path.{◌≡◌, subst}
use mathlib.Core.List.{List}
use Prim.Native.Nat.{ℕ}
use Rattle.lists.proofs.ListLaws.{every_imp}
use Rattle.lists.specs.Lists.{Every}
use Rattle.atoms.specs.Sets.{Member}
use Rattle.atoms.proofs.SetLaws.{subset_antisym, subset_true, true_subset}
use Rattle.rules.specs.Model.{applies, closure, consequences, pass_by}
use Rattle.rules.specs.Rules.{Headed, Rule}
use Rattle.rules.specs.Stable.{Closed, Least, Stable, reduct}
use Rattle.rules.proofs.ClosureLaws.{Keeps, closure_by-grows, closure_by-kept, closure_by-within, idle_kept}
use Rattle.rules.proofs.ReductLaws.{reduct_headed}

-- ---- the closure is the least closed set, also among the predicates

pub closure_within : (Q : ℕ → Type 0) (rs : List Rule) (C : ℕ) → ((k : ℕ) → Member k C → Q k)
    → Every (λ r. ((k : ℕ) → Member k r.positive → Q k) → Q r.head) rs
    → (k : ℕ) → Member k (closure rs C) → Q k
closure_within Q rs C h_c h =
    closure_by-within applies Q rs C h_c
    (every_imp _ (Keeps applies Q) (λ r hr S h_s e. hr (λ k m. h_s k (subset_true r.positive S e k m))) rs h)

-- a pass that adds nothing: the set is closed
pub idle_closed : (rs : List Rule) → Every Headed rs → (S : ℕ) → pass_by applies rs S ≡ S → Closed rs S S
idle_closed rs a S e = record {
  holds = λ k m. m;
  respects = every_imp _ _ (λ r h f. h (true_subset r.positive S f)) rs (idle_kept applies rs a S e);
}

pub closure_closed : (rs : List Rule) → Every Headed rs → (C : ℕ) → Closed rs C (closure rs C)
closure_closed rs a C = record {
  holds = closure_by-grows applies rs C;
  respects = every_imp _ _ (λ r h f. h (true_subset r.positive (closure rs C) f)) rs (closure_by-kept applies rs a C);
}

pub closure_least : (rs : List Rule) → Every Headed rs → (C : ℕ) → Least (Closed rs C) (closure rs C)
closure_least rs a C = record { one = closure_closed rs a C; least = λ X h. closure_within (λ k. Member k X) rs C h.holds h.respects }

pub least_unique : {P : ℕ → Type 0} {A B : ℕ} → Least P A → Least P B → A ≡ B
least_unique {A = A} {B = B} a b = subset_antisym (a.least B b.one) (b.least A a.one)

-- ---- a stable set is what its own reduct gives, and the other way round

pub stable_is : (rs : List Rule) → Every Headed rs → (C M : ℕ) → Stable rs C M → consequences rs C M ≡ M
unfolding consequences
stable_is rs a C M s = least_unique (closure_least (reduct M rs) (reduct_headed M rs a) C) s

pub is_stable : (rs : List Rule) → Every Headed rs → (C M : ℕ) → consequences rs C M ≡ M → Stable rs C M
unfolding consequences
is_stable rs a C M e = subst (λ (x : ℕ). Least (Closed (reduct M rs) C) x) e (closure_least (reduct M rs) (reduct_headed M rs a) C)
