-- A pass over rules only adds, and only their heads; what is reached with the first idle pass is the closure. Assumes nothing.
use mathlib.Core.Path.{◌∙◌, ◌≡◌, ap, refl, subst, sym}
use mathlib.Core.Logic.{◌↔◌, ◌⊎◌, inl, inr}
use mathlib.Core.Bool.{Bool, cond, false, true}
use mathlib.Core.List.{List, [], ◌∷◌}
use Prim.Native.Nat.{◌<◌, ◌^◌, suc, zero, ℕ}
use native.Mathlib.Omega.{arith}
use Rattle.lists.specs.Lists.{Every, OneOf}
use Rattle.lists.proofs.SumLaws.{sum_same}
use Rattle.atoms.specs.Sets.{Member, Subset, difference, disjoint, set_of, single, size, subset, union}
use Rattle.atoms.proofs.SetLaws.{none_in_empty, single_cases, single_own, union_cases, union_least, union_left, union_right}
use Rattle.atoms.proofs.SizeLaws.{low_lt}
use Rattle.rules.specs.LevelByLevel.{pass_over, settle}
use Rattle.rules.specs.Model.{applies, closure, consequences, pass_by, times}
use Rattle.rules.specs.Rules.{Headed, Rule}
use Rattle.rules.specs.Stable.{positive_only, reduct}
use Rattle.rules.proofs.ClosureLaws.{closure_by-fixed, closure_by-pass, pass_grows, times_out}
use Rattle.iteration.specs.Counting.{pass_count, rule_pass_count}
use Rattle.iteration.specs.IdlePasses.{ClosedIn, Idle, RulesClosedIn, atoms_added, heads_of}
use Rattle.iteration.proofs.AddingLaws.{Adding}
use Rattle.iteration.proofs.CountLaws.{closed_count}
use Rattle.iteration.proofs.IdleLaws.{idle_is, is_idle, none_idle}

-- ---- the heads

heads_first : (r : Rule) (rs : List Rule) → Subset (single r.head) (heads_of (r ∷ rs))
unfolding heads_of set_of
heads_first r rs = union_left (single r.head) (heads_of rs)

heads_rest : (r : Rule) (rs : List Rule) → Subset (heads_of rs) (heads_of (r ∷ rs))
unfolding heads_of set_of
heads_rest r rs = union_right (single r.head) (heads_of rs)

heads_low : (rs : List Rule) (k : ℕ) → Member k (heads_of rs) → k < 64
unfolding heads_of set_of
heads_low [] k m = absurd (none_in_empty k m)
heads_low (r ∷ rs) k m = go (union_cases (single r.head) (heads_of rs) k m) (λ i. heads_low rs k i)
  where
    go : Member k (single r.head) ⊎ Member k (heads_of rs) → (Member k (heads_of rs) → k < 64) → k < 64
    go (inl i) ih = let p = single_cases r.head k i in omega (arith, p.0, p.1)
    go (inr i) ih = ih i

pub heads_atoms : (rs : List Rule) → heads_of rs < 2 ^ 64
heads_atoms rs = low_lt (heads_of rs) 64 (heads_low rs)

heads_of_lem : (rs : List Rule) (k : ℕ) → Member k (heads_of rs) → (r : Rule) × (OneOf r rs × (r.head ≡ k))
unfolding heads_of set_of
heads_of_lem [] k m = absurd (none_in_empty k m)
heads_of_lem (r ∷ rs) k m = go (union_cases (single r.head) (heads_of rs) k m) (λ i. heads_of_lem rs k i)
  where
    go : Member k (single r.head) ⊎ Member k (heads_of rs) → (Member k (heads_of rs) → (q : Rule) × (OneOf q rs × (q.head ≡ k)))
        → (q : Rule) × (OneOf q (r ∷ rs) × (q.head ≡ k))
    go (inl i) ih = (r, (inl refl, sym (single_cases r.head k i).0))
    go (inr i) ih = let x = ih i in (x.0, (inr x.1.0, x.1.1))

of_heads : (rs : List Rule) → Every Headed rs → (r : Rule) → OneOf r rs → Member r.head (heads_of rs)
of_heads [] h r o = absurd o
of_heads (q ∷ rs) h r (inl e) =
    subst (λ (x : Rule). Member x.head (heads_of (q ∷ rs))) (sym e) (heads_first q rs q.head (single_own q.head h.0))
of_heads (q ∷ rs) h r (inr o) = heads_rest q rs r.head (of_heads rs h.1 r o)

pub heads_are : (rs : List Rule) → Every Headed rs → (k : ℕ) → Member k (heads_of rs) ↔ ((r : Rule) × (OneOf r rs × (r.head ≡ k)))
heads_are rs h k = (heads_of_lem rs k, λ x. subst (λ (i : ℕ). Member i (heads_of rs)) x.1.1 (of_heads rs h x.0 x.1.0))

heads_reduct : (B : ℕ) (rs : List Rule) → Subset (heads_of (reduct B rs)) (heads_of rs)
unfolding reduct heads_of set_of
heads_reduct B [] k m = m
heads_reduct B (r ∷ rs) k m = go (disjoint r.negated B) (λ j i. heads_rest r rs j (heads_reduct B rs j i)) m
  where
    go : (b : Bool) → Subset (heads_of (reduct B rs)) (heads_of (r ∷ rs))
        → Member k (heads_of (cond b (positive_only r ∷ reduct B rs) (reduct B rs))) → Member k (heads_of (r ∷ rs))
    go true ih i = union_least (single r.head) (heads_of (reduct B rs)) (heads_of (r ∷ rs)) (heads_first r rs) ih k i
    go false ih i = ih k i

-- ---- the passes

pass_within : (rs : List Rule) (S : ℕ) → Subset (pass_by applies rs S) (union S (heads_of rs))
unfolding pass_by
pass_within [] S k m = union_left S (heads_of []) k m
pass_within (r ∷ rs) S k m = go (subset r.positive S) (λ X. pass_within rs X k) m
  where
    go : (b : Bool) → ((X : ℕ) → Member k (pass_by applies rs X) → Member k (union X (heads_of rs)))
        → Member k (pass_by applies rs (cond b (union S (single r.head)) S)) → Member k (union S (heads_of (r ∷ rs)))
    go true ih i =
        union_least (union S (single r.head)) (heads_of rs) (union S (heads_of (r ∷ rs)))
        (union_least S (single r.head) (union S (heads_of (r ∷ rs))) (union_left S (heads_of (r ∷ rs)))
        (λ j n. union_right S (heads_of (r ∷ rs)) j (heads_first r rs j n)))
        (λ j n. union_right S (heads_of (r ∷ rs)) j (heads_rest r rs j n))
        k (ih (union S (single r.head)) i)
    go false ih i =
        union_least S (heads_of rs) (union S (heads_of (r ∷ rs))) (union_left S (heads_of (r ∷ rs)))
        (λ j n. union_right S (heads_of (r ∷ rs)) j (heads_rest r rs j n)) k (ih S i)

pub rules_adding : (rs : List Rule) → Adding (heads_of rs) (pass_by applies rs)
rules_adding rs = record { grows = pass_grows applies rs; within = pass_within rs }

pub over_adding : (B : ℕ) (rs : List Rule) → Adding (heads_of rs) (pass_over B rs)
unfolding pass_over
over_adding B rs = record {
  grows = pass_grows applies (reduct B rs);
  within = λ S k m.
      union_least S (heads_of (reduct B rs)) (union S (heads_of rs)) (union_left S (heads_of rs))
      (λ j n. union_right S (heads_of rs) j (heads_reduct B rs j n)) k (pass_within (reduct B rs) S k m);
}

-- ---- what is reached

closure_times : (rs : List Rule) (S n : ℕ) → closure rs (times n (pass_by applies rs) S) ≡ closure rs S
unfolding times
closure_times rs S zero = refl
closure_times rs S (suc n) = closure_times rs (pass_by applies rs S) n ∙ closure_by-pass applies rs S

pub reached_closure : (rs : List Rule) (S n : ℕ) → times (suc n) (pass_by applies rs) S ≡ times n (pass_by applies rs) S
    → times (suc n) (pass_by applies rs) S ≡ closure rs S
reached_closure rs S n e =
    e
    ∙ sym (closure_by-fixed applies rs (times n (pass_by applies rs) S) (sym (times_out n (pass_by applies rs) S) ∙ e))
    ∙ closure_times rs S n

pub reached_settle : (rs : List Rule) (S n : ℕ) → times (suc n) (pass_over S rs) S ≡ times n (pass_over S rs) S
    → times (suc n) (pass_over S rs) S ≡ settle rs S
unfolding pass_over settle consequences
reached_settle rs S n e = reached_closure (reduct S rs) S n e

-- a loop that ends with its first idle pass gives it
pub closed_settle : (m : ℕ) (rs : List Rule) (S : ℕ → ℕ) (H : ℕ) (R : ℕ → ℕ) (n : ℕ) → ClosedIn m (λ j. pass_over (S j) rs) S H R n
    → (j : ℕ) → j < m → R j ≡ settle rs (S j)
closed_settle m rs S H R zero c j l = absurd (none_idle m (λ j. pass_over (S j) rs) S c.idle)
closed_settle m rs S H R (suc n) c j l =
    c.made j l ∙ reached_settle rs (S j) n (idle_is m (λ j. pass_over (S j) rs) S n c.idle j l)

-- and its count is the computed one
pub closed_passes : (m : ℕ) (rs : List Rule) (S R : ℕ → ℕ) (n : ℕ) → ClosedIn m (λ j. pass_over (S j) rs) S (heads_of rs) R n
    → n ≡ pass_count m (λ j. pass_over (S j) rs) S
closed_passes m rs S R n c = closed_count m (λ j. pass_over (S j) rs) S (heads_of rs) (heads_atoms rs) (λ j _. over_adding (S j) rs) R n c

pub rules_passes : (rs : List Rule) (S R n : ℕ) → RulesClosedIn rs S R n → n ≡ rule_pass_count rs S
unfolding rule_pass_count
rules_passes rs S R n c = closed_passes 1 rs (λ _. S) (λ _. R) n c

-- it is a matter of what the sets are, below m
pub closed_same : (m : ℕ) (rs : List Rule) (S T : ℕ → ℕ) (H : ℕ) (R : ℕ → ℕ) (n : ℕ) → ((j : ℕ) → j < m → S j ≡ T j)
    → ClosedIn m (λ j. pass_over (S j) rs) S H R n → ClosedIn m (λ j. pass_over (T j) rs) T H R n
closed_same m rs S T H R n same c = record {
  made = λ j l. c.made j l ∙ moved n j l;
  idle = idle_to S T same n c.idle;
  earlier = λ k l i. c.earlier k l (idle_to T S (λ j low. sym (same j low)) k i);
  few = omega (arith, c.few, gained);
  few_heads = c.few_heads;
}
  where
    moved : (k j : ℕ) → j < m → times k (pass_over (S j) rs) (S j) ≡ times k (pass_over (T j) rs) (T j)
    moved k j l = ap (λ (x : ℕ). times k (pass_over x rs) x) (same j l)

    idle_to : (A B : ℕ → ℕ) → ((j : ℕ) → j < m → A j ≡ B j) → (k : ℕ) → Idle m (λ j. pass_over (A j) rs) A k → Idle m (λ j. pass_over (B j) rs) B k
    idle_to A B e zero i = absurd (none_idle m (λ j. pass_over (A j) rs) A i)
    idle_to A B e (suc k) i =
        is_idle m (λ j. pass_over (B j) rs) B k
        (λ j l. subst (λ (x : ℕ). times (suc k) (pass_over x rs) x ≡ times k (pass_over x rs) x) (e j l) (idle_is m (λ j. pass_over (A j) rs) A k i j l))

    gained : atoms_added m S R ≡ atoms_added m T R
    gained = sum_same _ _ m (λ j l. ap (λ (x : ℕ). size (difference (R j) x)) (same j l))
