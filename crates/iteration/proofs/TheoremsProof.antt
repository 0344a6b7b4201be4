-- The theorems of specs/Theorems. Assumes nothing.
use mathlib.Core.Path.{◌∙◌, ◌≡◌, ap, refl, subst, sym}
use mathlib.Core.Logic.{◌↔◌}
use mathlib.Core.List.{List}
use Prim.Native.Nat.{◌<◌, ◌^◌, ◌≤◌, suc, zero, ℕ}
use native.Mathlib.Omega.{arith}
use Rattle.lists.specs.Sums.{sum}
use Rattle.atoms.specs.Sets.{Member, Subset, difference, size}
use Rattle.atoms.proofs.SetLaws.{subset_antisym}
use Rattle.rules.specs.LevelByLevel.{pass_over, settle}
use Rattle.rules.specs.Model.{applies, closure, pass_by, times}
use Rattle.rules.specs.Rules.{Rule}
use Rattle.rules.proofs.ClosureLaws.{times_out}
use Rattle.rules.proofs.LoopLaws.{pass_next, pass_none, pass_one}
use Rattle.iteration.specs.Counting.{pass_count, rule_pass_count}
use Rattle.iteration.specs.IdlePasses.{ClosedIn, Idle, LeastIdle, LeastIdleOf, RulesClosedIn, after_passes, heads_of}
use Rattle.iteration.specs.Theorems.{ReachedIn, Counts, Theorems}
use Rattle.iteration.proofs.AddingLaws.{Adding}
use Rattle.iteration.proofs.CountLaws.{closed_least, count_is, least_each, least_few, least_one, least_some, least_stay}
use Rattle.iteration.proofs.IdleLaws.{added_more, added_none, idle_is, is_idle, none_idle}
use Rattle.iteration.proofs.RuleLaws.{closed_settle, heads_are, heads_atoms, over_adding, reached_closure, reached_settle, rules_adding}

counts : (m : ℕ) (pass : ℕ → ℕ → ℕ) (S : ℕ → ℕ) (H : ℕ) → H < 2 ^ 64 → ((j : ℕ) → j < m → Adding H (pass j)) → Counts m pass S H
counts m pass S H atoms adding = record {
  exists = least;
  one = λ n a. least_one m pass S n (pass_count m pass S) a least;
  few = λ n a. (least_few m pass S H atoms adding n a).0;
  few_heads = λ n a. (least_few m pass S H atoms adding n a).1;
  stay = least_stay m pass S;
  each = least_each m pass S;
  some = least_some m pass S;
  loops = closed_least m pass S H atoms adding;
}
  where
    least : LeastIdle m pass S (pass_count m pass S)
    least = count_is m pass S H atoms adding

idle_means : (m : ℕ) (pass : ℕ → ℕ → ℕ) (S : ℕ → ℕ) → ((j : ℕ) → j < m → (X : ℕ) → Subset X (pass j X)) → (n : ℕ)
    → Idle m pass S (suc n)
    ↔ ((j : ℕ) → j < m → (k : ℕ) → Member k (after_passes pass S (suc n) j) → Member k (after_passes pass S n j))
idle_means m pass S grows n = (
  λ i j l k. subst (Member k) (idle_is m pass S n i j l),
  λ h. is_idle m pass S n (λ j l. subset_antisym (h j l) (grown j l)),
)
  where
    grown : (j : ℕ) → j < m → (k : ℕ) → Member k (after_passes pass S n j) → Member k (after_passes pass S (suc n) j)
    grown j l k i = rw (times_out n (pass j) (S j)) (grows j l (after_passes pass S n j) k i)

one_set : (pass : ℕ → ℕ) (S n : ℕ)
    → LeastIdleOf pass S (suc n)
    ↔ ((times (suc n) pass S ≡ times n pass S) × ((k : ℕ) → times (suc k) pass S ≡ times k pass S → n ≤ k))
one_set pass S n = (
  λ a. (
    idle_is 1 (λ _. pass) (λ _. S) n a.idle 0 (omega arith),
    λ k e. omega (arith, a.least (suc k) (is_idle 1 (λ _. pass) (λ _. S) k (λ _ _. e))),
  ),
  λ p. record { idle = is_idle 1 (λ _. pass) (λ _. S) n (λ _ _. p.0); least = λ k i. go p k i },
)
  where
    go : (times (suc n) pass S ≡ times n pass S) × ((k : ℕ) → times (suc k) pass S ≡ times k pass S → n ≤ k)
        → (k : ℕ) → Idle 1 (λ _. pass) (λ _. S) k → suc n ≤ k
    go p zero i = absurd (none_idle 1 (λ _. pass) (λ _. S) i)
    go p (suc k) i = omega (arith, p.1 k (idle_is 1 (λ _. pass) (λ _. S) k i 0 (omega arith)))

one_sum : (f : ℕ → ℕ) → sum f 1 ≡ f 0
unfolding sum
one_sum f = omega arith

-- a pass over one set that reaches what it is to reach with its first idle pass
closes : (H : ℕ) → H < 2 ^ 64 → (pass : ℕ → ℕ) → Adding H pass → (S reached : ℕ)
    → ((n : ℕ) → times (suc n) pass S ≡ times n pass S → times (suc n) pass S ≡ reached)
    → ReachedIn pass S H reached (pass_count 1 (λ _. pass) (λ _. S))
closes H atoms pass a S reached h = go (pass_count 1 (λ _. pass) (λ _. S)) c.exists
  where
    c : Counts 1 (λ _. pass) (λ _. S) H
    c = counts 1 (λ _. pass) (λ _. S) H atoms (λ _ _. a)

    go : (n : ℕ) → LeastIdleOf pass S n → ReachedIn pass S H reached n
    go zero l = absurd (none_idle 1 (λ _. pass) (λ _. S) l.idle)
    go (suc n) l = record {
      count = l;
      same = same;
      few = omega (arith, c.few (suc n) l, all);
      few_heads = c.few_heads (suc n) l;
    }
      where
        same : times (suc n) pass S ≡ reached
        same = h n (idle_is 1 (λ _. pass) (λ _. S) n l.idle 0 (omega arith))

        all : sum (λ _. size (difference (times (suc n) pass S) S)) 1 ≡ size (difference reached S)
        all = one_sum (λ _. size (difference (times (suc n) pass S) S)) ∙ ap (λ (x : ℕ). size (difference x S)) same

levels : (rs : List Rule) (S : ℕ) → ReachedIn (pass_over S rs) S (heads_of rs) (settle rs S) (rule_pass_count rs S)
unfolding rule_pass_count
levels rs S = closes (heads_of rs) (heads_atoms rs) (pass_over S rs) (over_adding S rs) S (settle rs S) (reached_settle rs S)

many : (m : ℕ) (rs : List Rule) (S : ℕ → ℕ) → Counts m (λ j. pass_over (S j) rs) S (heads_of rs)
many m rs S =
    counts m (λ j. pass_over (S j) rs) S (heads_of rs) (heads_atoms rs) (λ j _. over_adding (S j) rs)

rules_closed : (rs : List Rule) (S R n : ℕ) → RulesClosedIn rs S R n ↔ ReachedIn (pass_over S rs) S (heads_of rs) R n
rules_closed rs S R n = (
  λ c. record {
    count = (loops.0 c).0;
    same = sym (c.made 0 (omega arith));
    few = omega (arith, c.few, one_sum (λ _. size (difference R S)));
    few_heads = c.few_heads;
  },
  λ c. loops.1 (c.count, λ _ _. sym c.same),
)
  where
    loops : ClosedIn 1 (λ _. pass_over S rs) (λ _. S) (heads_of rs) (λ _. R) n
        ↔ (LeastIdleOf (pass_over S rs) S n × ((j : ℕ) → j < 1 → R ≡ times n (pass_over S rs) S))
    loops = closed_least 1 (λ _. pass_over S rs) (λ _. S) (heads_of rs) (heads_atoms rs) (λ _ _. over_adding S rs) (λ _. R) n

pub theorems : Theorems
theorems = record {
  counts = λ m pass S H atoms only. counts m pass S H atoms (λ j l. record { grows = (only j l).0; within = (only j l).1 });
  idle_means = idle_means;
  one_set = one_set;
  heads_are = heads_are;
  rules_add = λ B rs X. ((over_adding B rs).grows X, (over_adding B rs).within X);
  closures = λ rs S. closes (heads_of rs) (heads_atoms rs) (pass_by applies rs) (rules_adding rs) S (closure rs S) (reached_closure rs S);
  levels = levels;
  many = many;
  no_rule = pass_none;
  rule_by_rule = λ B r rs S. pass_next B r rs S ∙ ap (pass_over B rs) (pass_one B r S);
  rules_closed = rules_closed;
  added_none = added_none;
  added_more = added_more;
  many_reach = λ m rs S n a.
      let R = after_passes (λ j. pass_over (S j) rs) S n in
      closed_settle m rs S (heads_of rs) R n (((many m rs S).loops R n).1 (a, λ j l. refl));
}
