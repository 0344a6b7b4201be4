-- Of rules that keep levels the model is the one stable set: the levels settle one after another, whatever candidate one begins with. Assumes nothing.
use mathlib.Core.Path.{◌∙◌, ◌≡◌, ap, refl, subst₂, sym}
use mathlib.Core.Bool.{Bool, cond, false, true, true≢false}
use mathlib.Core.List.{List, [], ◌∷◌}
use Prim.Native.Nat.{◌<◌, ◌≤◌, suc, zero, ℕ}
use native.Mathlib.Nat.{not-suc-le-zero}
use native.Mathlib.Omega.{arith}
use Rattle.lists.proofs.ListLaws.{every_imp}
use Rattle.lists.specs.Lists.{Every}
use Rattle.atoms.specs.Sets.{Member, bit, disjoint}
use Rattle.atoms.proofs.SetLaws.{disjoint_true, same_bit, true_disjoint}
use Rattle.rules.specs.Model.{closure, consequences, times}
use Rattle.rules.specs.Rules.{Headed, Levelled, Rule}
use Rattle.rules.specs.Stable.{Closed, OneStable, positive_only, reduct}
use Rattle.rules.proofs.ClosureLaws.{times_fixed, times_in, times_out}
use Rattle.rules.proofs.LeastLaws.{closure_closed, closure_within, is_stable, stable_is}
use Rattle.rules.proofs.ReductLaws.{Respects, reduct_headed}

-- `lev` gives each atom a level. No positive atom of a rule is above the head, every negated one is below it, and no head is above `top`.

pub record Ranked (lev : ℕ → ℕ) (top : ℕ) (r : Rule) : Type 0 where
  pub levelled : Levelled lev r
  pub bounded : lev r.head ≤ top
  pub headed : Headed r

module _ (lev : ℕ → ℕ) (top : ℕ) where
  heads_of_lem : (rs : List Rule) → Every (Ranked lev top) rs → Every Headed rs
  heads_of_lem rs h = every_imp (Ranked lev top) Headed (λ r s. s.headed) rs h

  -- two candidates agree on the levels below i
  Agree : ℕ → ℕ → ℕ → Type 0
  Agree i A B = (k : ℕ) → lev k < i → bit A k ≡ bit B k

  -- then they strike the same rules of the levels up to i
  same_struck : (i A B : ℕ) → Agree i A B → (r : Rule) → Ranked lev top r → lev r.head ≤ i
      → disjoint r.negated A ≡ true → disjoint r.negated B ≡ true
  unfolding Agree
  same_struck i A B g r h l e =
      true_disjoint r.negated B (λ k m n. disjoint_true r.negated A e k m (g k (omega (arith, h.levelled.negated k m)) ∙ n))

  -- what one derives at the levels up to i, the other does: each rule that A leaves keeps what is up to level i in X,
  -- if X is closed under what B leaves
  left_keeps : (i A B X : ℕ) → Agree i A B → (rs : List Rule) → Every (Ranked lev top) rs → Every (Respects X) (reduct B rs)
      → Every (λ r. ((k : ℕ) → Member k r.positive → lev k ≤ i → Member k X) → lev r.head ≤ i → Member r.head X) (reduct A rs)
  unfolding reduct
  left_keeps i A B X g [] h q = tt
  left_keeps i A B X g (r ∷ rs) h q = go (disjoint r.negated A) (disjoint r.negated B) refl refl q (left_keeps i A B X g rs h.1)
    where
      Goal : Rule → Type 0
      Goal r = ((k : ℕ) → Member k r.positive → lev k ≤ i → Member k X) → lev r.head ≤ i → Member r.head X

      go : (a b : Bool) → disjoint r.negated A ≡ a → disjoint r.negated B ≡ b → Every (Respects X) (cond b (positive_only r ∷ reduct B rs) (reduct B rs))
          → (Every (Respects X) (reduct B rs) → Every Goal (reduct A rs)) → Every Goal (cond a (positive_only r ∷ reduct A rs) (reduct A rs))
      go true true e f q ih = (λ hq l. q.0 (λ k m. hq k m (omega (arith, h.0.levelled.positive k m))), ih q.1)
      go true false e f q ih = (λ hq l. absurd (true≢false (sym (same_struck i A B g r h.0 l e) ∙ f)), ih q)
      go false true e f q ih = ih q.1
      go false false e f q ih = ih q

  derives : (C i A B : ℕ) → Agree i A B → (rs : List Rule) → Every (Ranked lev top) rs
      → (k : ℕ) → Member k (consequences rs C A) → lev k ≤ i → Member k (consequences rs C B)
  unfolding consequences
  derives C i A B g rs h =
      let c : Closed (reduct B rs) C (closure (reduct B rs) C) = closure_closed (reduct B rs) (reduct_headed B rs (heads_of_lem rs h)) C in
      closure_within (λ k. lev k ≤ i → Member k (closure (reduct B rs) C)) (reduct A rs) C (λ k m l. c.holds k m)
      (left_keeps i A B (closure (reduct B rs) C) g rs h c.respects)

  agree_next : (C i A B : ℕ) → Agree i A B → (rs : List Rule) → Every (Ranked lev top) rs → Agree (suc i) (consequences rs C A) (consequences rs C B)
  unfolding Agree
  agree_next C i A B g rs h k l =
      same_bit (consequences rs C A) (consequences rs C B) k
      (λ m. derives C i A B g rs h k m (omega arith))
      (λ m. derives C i B A (λ j n. sym (g j n)) rs h k m (omega arith))

  agree_times : (C A B : ℕ) (rs : List Rule) → Every (Ranked lev top) rs → (n : ℕ)
      → Agree n (times n (consequences rs C) A) (times n (consequences rs C) B)
  unfolding times Agree
  agree_times C A B rs h zero = λ k l. absurd (not-suc-le-zero l)
  agree_times C A B rs h (suc n) =
      subst₂ (λ (x y : ℕ). Agree (suc n) x y) (sym (times_out n (consequences rs C) A)) (sym (times_out n (consequences rs C) B))
      (agree_next C n _ _ (agree_times C A B rs h n) rs h)

  -- where two candidates agree below the top level, the reducts are the same
  same_reduct : (A B : ℕ) → Agree top A B → (rs : List Rule) → Every (Ranked lev top) rs → reduct A rs ≡ reduct B rs
  unfolding reduct Agree
  same_reduct A B g [] h = refl
  same_reduct A B g (r ∷ rs) h = go (disjoint r.negated A) (disjoint r.negated B) refl refl (same_reduct A B g rs h.1)
    where
      back : Agree top B A
      back k l = sym (g k l)

      go : (a b : Bool) → disjoint r.negated A ≡ a → disjoint r.negated B ≡ b → reduct A rs ≡ reduct B rs
          → cond a (positive_only r ∷ reduct A rs) (reduct A rs) ≡ cond b (positive_only r ∷ reduct B rs) (reduct B rs)
      go true true e f ih = ap (◌∷◌ (positive_only r)) ih
      go true false e f ih = absurd (true≢false (sym (same_struck top A B g r h.0 h.0.bounded e) ∙ f))
      go false true e f ih = absurd (true≢false (sym (same_struck top B A back r h.0 h.0.bounded f) ∙ e))
      go false false e f ih = ih

  -- so from any two candidates the same set is reached
  settled : (C A B : ℕ) (rs : List Rule) → Every (Ranked lev top) rs
      → times (suc top) (consequences rs C) A ≡ times (suc top) (consequences rs C) B
  unfolding consequences
  settled C A B rs h =
      let Γ : ℕ → ℕ = consequences rs C in
      times_out top Γ A
      ∙ ap (λ (q : List Rule). closure q C) (same_reduct (times top Γ A) (times top Γ B) (agree_times C A B rs h top) rs h)
      ∙ sym (times_out top Γ B)

  pub one_stable : (C : ℕ) (rs : List Rule) → Every (Ranked lev top) rs → OneStable rs C (times (suc top) (consequences rs C) 0)
  one_stable C rs h =
      let Γ : ℕ → ℕ = consequences rs C in
      record {
        stable =
            is_stable rs (heads_of_lem rs h) C (times (suc top) Γ 0)
            (sym (times_out (suc top) Γ 0) ∙ times_in (suc top) Γ 0 ∙ settled C (Γ 0) 0 rs h);
        only = λ M s. sym (times_fixed (suc top) Γ M (stable_is rs (heads_of_lem rs h) C M s)) ∙ settled C M 0 rs h;
      }
