-- Rules followed from the head to the body, one after another, until nothing is added. Assumes nothing.
use mathlib.Core.Path.{◌≡◌, subst, sym}
use mathlib.Core.List.{List, [], ◌∷◌}
use Prim.Native.Nat.{◌+◌, ◌-◌, ◌<◌, ◌^◌, ◌≤◌, ℕ}
use native.Mathlib.Omega.{arith}
use Rattle.lists.proofs.ListLaws.{every_imp, every_imp₂}
use Rattle.atoms.specs.Sets.{Member, Subset, size, union}
use Rattle.atoms.proofs.SetLaws.{union_least, union_left, union_right}
use Rattle.atoms.proofs.SizeLaws.{size_more, size_most}
use Rattle.rules.specs.Rules.{Rule}
use Rattle.arrays.specs.Arrays.{rule_at, rules_in}
use Rattle.arrays.proofs.ArrayLaws.{rules_done, rules_next}
use Rattle.relevance.specs.Relevance.{Bearing, Followed, Follows, Relevant, answer_atoms}

-- ---- one rule

pub followed_out : (r : Rule) (S : ℕ) → (Member r.head S → ⊥) → Followed (r ∷ []) S S
followed_out r S n = record {
  grows = λ k m. m;
  positive = (λ i. absurd (n i), tt);
  negated = (λ i. absurd (n i), tt);
  least = λ X f h. h;
}

pub followed_in : (r : Rule) (S N : ℕ) → Member r.head S → N ≡ union (union S r.positive) r.negated → Followed (r ∷ []) S N
followed_in r S N i e = subst (Followed (r ∷ []) S) (sym e) (record {
  grows = λ k m. union_left P r.negated k (union_left S r.positive k m);
  positive = (λ _ k m. union_left P r.negated k (union_right S r.positive k m), tt);
  negated = (λ _ k m. union_right P r.negated k m, tt);
  least = λ X f h. union_least P r.negated X (union_least S r.positive X h (f.0.positive (h r.head i))) (f.0.negated (h r.head i));
})
  where
    P : ℕ
    P = union S r.positive

-- ---- one rule after others

followed_none : (S : ℕ) → Followed [] S S
followed_none S = record { grows = λ k m. m; positive = tt; negated = tt; least = λ X f h. h }

followed_next : (r : Rule) (rs : List Rule) (S M N : ℕ) → Followed rs S M → Followed (r ∷ []) M N → Followed (r ∷ rs) S N
followed_next r rs S M N a b = record {
  grows = λ k m. b.grows k (a.grows k m);
  positive = (λ i. b.positive.0 (a.grows r.head i), every_imp _ _ (λ q h i k m. b.grows k (h i k m)) rs a.positive);
  negated = (λ i. b.negated.0 (a.grows r.head i), every_imp _ _ (λ q h i k m. b.grows k (h i k m)) rs a.negated);
  least = λ X f h. b.least X (f.0, tt) (a.least X f.1 h);
}

module _ (heads positive negated : List ℕ) (count : ℕ) where
  pub pass_start : (S : ℕ) → Followed (rules_in heads positive negated count (count - count)) S S
  pass_start S = subst (λ (rs : List Rule). Followed rs S S) (sym (rules_done heads positive negated count count (omega arith))) (followed_none S)

  -- from place k down to place j
  pub pass_down : (k j : ℕ) → j + 1 ≡ k → k ≤ count → (S M N : ℕ) → Followed (rules_in heads positive negated k (count - k)) S M
      → Followed (rule_at heads positive negated j ∷ []) M N → Followed (rules_in heads positive negated j (count - j)) S N
  pass_down k j e l S M N a b =
      subst (λ (rs : List Rule). Followed rs S N) (sym (rules_next heads positive negated j count (omega arith)))
      (followed_next (rule_at heads positive negated j) (rules_in heads positive negated (j + 1) (count - (j + 1))) S M N
      (subst (λ (x : ℕ). Followed (rules_in heads positive negated x (count - x)) S M) (sym e) a) b)

-- ---- passes: N is S after one more

-- S is on the way to the relevant atoms
pub record OnTheWay (rs : List Rule) (request S : ℕ) : Type 0 where
  pub holds : Subset (answer_atoms request) S
  pub least : (X : ℕ) → Bearing rs request X → Subset S X

module _ (rs : List Rule) (request S N : ℕ) (pass : Followed rs S N) (way : OnTheWay rs request S) where
  -- the atoms outside become fewer
  pub way_adds : N < 2 ^ 64 → (N ≡ S → ⊥) → 64 - size N < 64 - size S
  way_adds l n =
      let more : size S < size N = size_more S N l pass.grows (λ e. n (sym e)) in
      omega (arith, size_most N)

  -- where nothing is added, all are reached
  pub way_end : N ≡ S → Relevant rs request S
  way_end e = record { one = record { holds = way.holds; follows = every_imp₂ _ _ (Follows S) both rs pass.positive pass.negated }; least = way.least }
    where
      both : (r : Rule) → (Member r.head S → Subset r.positive N) → (Member r.head S → Subset r.negated N) → Follows S r
      both r p n = record { positive = λ i. subst (Subset r.positive) e (p i); negated = λ i. subst (Subset r.negated) e (n i) }
