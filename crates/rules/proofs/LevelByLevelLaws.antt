-- One level after another gives the model: what is settled on the levels below l stays as it is. Assumes nothing.
use mathlib.Core.Path.{◌≡◌, subst}
use mathlib.Core.Logic.{◌⊎◌, inl, inr}
use mathlib.Core.List.{List}
use Prim.Native.Nat.{◌+◌, ◌<◌, ◌≤◌, suc, zero, ℕ}
use native.Mathlib.Nat.{eq-or-lt_of_le, le_of_suc-le-suc, not-suc-le-zero}
use native.Mathlib.Omega.{arith}
use Rattle.lists.proofs.ListLaws.{every_imp, every_imp₂}
use Rattle.lists.specs.Lists.{Every}
use Rattle.atoms.specs.Sets.{Member, Subset}
use Rattle.rules.specs.LevelByLevel.{by_level, level_by_level, of_level, settle}
use Rattle.rules.specs.Model.{closure, consequences, model}
use Rattle.rules.specs.Rules.{Headed, Rule, Stratified}
use Rattle.rules.specs.Stable.{Closed, Stable, Unstruck, reduct}
use Rattle.rules.proofs.LayoutLaws.{of_level-every}
use Rattle.rules.proofs.LeastLaws.{closure_closed, closure_within}
use Rattle.rules.proofs.LevelLaws.{one_stable_any}
use Rattle.rules.proofs.ReductLaws.{LeftRespects, Respects, reduct_every, reduct_headed}

module _ (lev : ℕ → ℕ) (rs : List Rule) (strata : Every (Stratified lev) rs) (C : ℕ) where
  -- r is on a level below l; on level l
  abbrev Below : ℕ → (Rule → Type 0) → Rule → Type 0
  Below l P r = lev r.head < l → P r

  abbrev Here : ℕ → (Rule → Type 0) → Rule → Type 0
  Here l P r = lev r.head ≡ l → P r

  -- M is stable as far as the levels below l go
  record Settled (l M : ℕ) : Type 0 where
    holds : Subset C M
    respects : Every (Below l (LeftRespects M M)) rs
    least : (X : ℕ) → Subset C X → Every (Below l (LeftRespects M X)) rs → Subset M X

  module _ (l M : ℕ) (s : Settled l M) where
    qs : List Rule
    qs = of_level lev l rs

    N : ℕ
    N = closure (reduct M qs) M

    -- Q holds of what the rules of level l add, if each of them that M leaves keeps it
    within : (Q : ℕ → Type 0) → ((k : ℕ) → Member k M → Q k)
        → Every (Here l (λ r. Unstruck M r → ((k : ℕ) → Member k r.positive → Q k) → Q r.head)) rs
        → (k : ℕ) → Member k N → Q k
    unfolding qs N
    within Q h kept =
        let P : Rule → Type 0 = λ r. ((k : ℕ) → Member k r.positive → Q k) → Q r.head in
        closure_within Q (reduct M qs) M h ((reduct_every M qs P).1 ((of_level-every lev l rs (λ r. Unstruck M r → P r)).1 kept))

    closed : Closed (reduct M qs) M N
    unfolding qs N
    closed =
        closure_closed (reduct M qs)
        (reduct_headed M qs ((of_level-every lev l rs Headed).1 (every_imp (Stratified lev) (Here l Headed) (λ r h _. h.headed) rs strata))) M

    -- only atoms of level l are new
    low : (k : ℕ) → Member k N → lev k < l → Member k M
    low k m i = go (within (λ k. Member k M ⊎ (lev k ≡ l)) (λ k m. inl m) (every_imp (Stratified lev) _ (λ r h e u f. inr e) rs strata) k m)
      where
        go : Member k M ⊎ (lev k ≡ l) → Member k M
        go (inl j) = j
        go (inr e) = absurd (omega arith)

    -- so no other rules of the levels up to l are struck
    unstruck : (r : Rule) → Stratified lev r → lev r.head ≤ l → Unstruck M r → Unstruck N r
    unstruck r h i u k m n = u k m (low k n (omega (arith, h.levelled.negated k m)))

    respected : Every (Below (suc l) (LeftRespects N N)) rs
    unfolding qs
    respected =
        every_imp₂ (λ r. Below l (LeftRespects M M) r × Here l (LeftRespects M N) r) (Stratified lev) (Below (suc l) (LeftRespects N N)) step rs
        (every_imp₂ (Below l (LeftRespects M M)) (Here l (LeftRespects M N)) (λ r. Below l (LeftRespects M M) r × Here l (LeftRespects M N) r) (λ r b e. (b, e)) rs s.respects
        ((of_level-every lev l rs (LeftRespects M N)).0 ((reduct_every M qs (Respects N)).0 closed.respects)))
        strata
      where
        step : (r : Rule) → Below l (LeftRespects M M) r × Here l (LeftRespects M N) r → Stratified lev r → Below (suc l) (LeftRespects N N) r
        step r p h i u f = go (eq-or-lt_of_le (le_of_suc-le-suc i))
          where
            v : Unstruck M r
            v k m n = u k m (closed.holds k n)

            go : (lev r.head ≡ l) ⊎ (lev r.head < l) → Member r.head N
            go (inl e) = p.1 e v f
            go (inr j) = closed.holds r.head (p.0 j v (λ k m. low k (f k m) (omega (arith, h.levelled.positive k m))))

    least : (X : ℕ) → Subset C X → Every (Below (suc l) (LeftRespects N X)) rs → Subset N X
    least X c h = within (λ k. Member k X) old (every_imp₂ (Below (suc l) (LeftRespects N X)) (Stratified lev) (Here l (LeftRespects M X)) here rs h strata)
      where
        below : (r : Rule) → Below (suc l) (LeftRespects N X) r → Stratified lev r → Below l (LeftRespects M X) r
        below r p t i u = p (omega arith) (unstruck r t (omega arith) u)

        old : Subset M X
        old = s.least X c (every_imp₂ (Below (suc l) (LeftRespects N X)) (Stratified lev) (Below l (LeftRespects M X)) below rs h strata)

        here : (r : Rule) → Below (suc l) (LeftRespects N X) r → Stratified lev r → Here l (LeftRespects M X) r
        here r p t e u = p (omega arith) (unstruck r t (omega arith) u)

    next : Settled (suc l) (settle (of_level lev l rs) M)
    unfolding settle consequences qs N
    next = record { holds = λ k m. closed.holds k (s.holds k m); respects = respected; least = least }

  levels : (n l M : ℕ) → Settled l M → Settled (l + n) (level_by_level (by_level lev l n rs) M)
  unfolding level_by_level by_level
  levels zero l M s = subst (λ (x : ℕ). Settled x M) (omega arith) s
  levels (suc n) l M s =
      subst (λ (x : ℕ). Settled x (level_by_level (by_level lev (suc l) n rs) (settle (of_level lev l rs) M))) (omega arith)
      (levels n (suc l) (settle (of_level lev l rs) M) (next l M s))

  -- where no head is above the levels below n, all is settled
  settled_stable : (n M : ℕ) → Every (λ r. lev r.head < n) rs → Settled n M → Stable rs C M
  settled_stable n M top s = record {
    one = record {
      holds = s.holds;
      respects =
          (reduct_every M rs (Respects M)).1
          (every_imp₂ (Below n (LeftRespects M M)) (λ r. lev r.head < n) (LeftRespects M M) (λ r p i. p i) rs s.respects top);
    };
    least = λ X c. s.least X c.holds (every_imp (LeftRespects M X) (Below n (LeftRespects M X)) (λ r h i. h) rs ((reduct_every M rs (Respects X)).0 c.respects));
  }

  pub level_by_level_lem : (n : ℕ) → Every (λ r. lev r.head < n) rs → level_by_level (by_level lev 0 n rs) C ≡ model rs C
  level_by_level_lem n top =
      let M : ℕ = level_by_level (by_level lev 0 n rs) C in
      let all : 0 + n ≡ n = omega arith in
      (one_stable_any lev rs strata C).only M (settled_stable n M top (subst (λ (x : ℕ). Settled x M) all (levels n 0 C start)))
    where
      start : Settled 0 C
      start = record {
        holds = λ k m. m;
        respects = every_imp (Stratified lev) (Below 0 (LeftRespects C C)) (λ r h i. absurd (not-suc-le-zero i)) rs strata;
        least = λ X c _. c;
      }
