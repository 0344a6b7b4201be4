-- The answer is the same without the rules that do not bear on it. Assumes nothing.
use mathlib.Core.Path.{◌∙◌, ◌≡◌, ap, ap₂, subst, sym}
use mathlib.Core.Bool.{◌&&◌, not}
use mathlib.Core.List.{List}
use Prim.Native.Nat.{◌+◌, ◌-◌, ◌<◌, ◌≤◌, suc, zero, ℕ}
use lib.Dec.{eqb}
use lib.ListN.{get_or}
use native.Mathlib.Omega.{arith}
use Rattle.lists.specs.Lists.{Every}
use Rattle.atoms.specs.Atoms.{violation}
use Rattle.atoms.specs.Sets.{Member, single}
use Rattle.atoms.proofs.SetLaws.{same_bit, single_own, union_left, union_right}
use Rattle.rules.specs.LevelByLevel.{level_by_level}
use Rattle.rules.specs.Rules.{Headed, Rule}
use Rattle.rules.specs.Unlocking.{grants}
use Rattle.arrays.specs.Arrays.{Ordered, Placed, evaluated, levels_in, rule_at, rules_in}
use Rattle.arrays.proofs.HeadLaws.{one_low}
use Rattle.arrays.proofs.StartLaws.{start_le}
use Rattle.relevance.specs.Places.{KeptIn, SameAnswer}
use Rattle.relevance.specs.Relevance.{Follows, Relevant, SameOn, SameWhere, kept_levels}
use Rattle.relevance.proofs.AgreeLaws.{Bears, follows_bears_low, levels_agree, levels_agree_on}

module _ (heads positive negated : List ℕ) (P : Rule → Type 0) where
  -- what holds of each rule holds of the one at each place, and the other way round
  every_at : (m k : ℕ) → Every P (rules_in heads positive negated k m) → (i : ℕ) → i < m → P (rule_at heads positive negated (k + i))
  unfolding rules_in
  every_at zero k h i l = absurd (omega arith)
  every_at (suc m) k h zero l = let e : k ≡ k + 0 = omega arith in subst (λ (x : ℕ). P (rule_at heads positive negated x)) e h.0
  every_at (suc m) k h (suc i) l =
      let e : suc k + i ≡ k + suc i = omega arith in
      subst (λ (x : ℕ). P (rule_at heads positive negated x)) e (every_at m (suc k) h.1 i (omega arith))

  at_every : (m k : ℕ) → ((i : ℕ) → i < k + m → P (rule_at heads positive negated i)) → Every P (rules_in heads positive negated k m)
  unfolding rules_in
  at_every zero k h = tt
  at_every (suc m) k h = (h k (omega arith), at_every m (suc k) (λ i l. h i (omega arith)))

  -- and of each rule of each level
  at_levels : (levels : ℕ) (starts : List ℕ) → Ordered levels starts → ((i : ℕ) → i < get_or starts levels 0 → P (rule_at heads positive negated i))
      → (m l : ℕ) → l + m ≤ levels → Every (Every P) (levels_in heads positive negated starts l m)
  unfolding levels_in
  at_levels levels starts o h zero l i = tt
  at_levels levels starts o h (suc m) l i = (
    at_every (get_or starts (suc l) 0 - get_or starts l 0) (get_or starts l 0)
        (λ k j. h k (omega (arith, o.rising l (omega arith), start_le levels starts o (suc l) levels (omega arith) (omega arith)))),
    at_levels levels starts o h m (suc l) (omega arith),
  )

module _ (levels : ℕ) (heads positive negated starts : List ℕ) (o : Placed levels heads starts) (R : ℕ) where
  abbrev rules : List Rule
  rules = rules_in heads positive negated 0 (get_or starts levels 0)

  abbrev laid : List (List Rule)
  laid = levels_in heads positive negated starts 0 levels

  headed : (i : ℕ) → i < get_or starts levels 0 → Headed (rule_at heads positive negated i)
  headed i l = one_low (get_or heads i 0) (o.singles i (omega (arith, o.ordered.fits)))

  follows : Every (Follows R) rules → (i : ℕ) → i < get_or starts levels 0 → Follows R (rule_at heads positive negated i)
  follows f i l =
      subst (λ (x : ℕ). Follows R (rule_at heads positive negated x)) (omega arith) (every_at heads positive negated (Follows R) (get_or starts levels 0) 0 f i l)

  -- what holds of each rule holds of each of each level
  of_levels : (P : Rule → Type 0) → ((i : ℕ) → i < get_or starts levels 0 → P (rule_at heads positive negated i)) → Every (Every P) laid
  of_levels P h = at_levels heads positive negated P levels starts o.ordered h levels 0 (omega arith)

  pub arrays_agree : (h p n s : List ℕ) → Every (Follows R) (rules_in heads positive negated 0 (get_or starts levels 0))
      → KeptIn levels R heads positive negated starts h p n s
      → (C : ℕ) → SameOn R (evaluated levels heads positive negated starts C) (evaluated levels h p n s C)
  arrays_agree h p n s f k C =
      subst (λ (ls : List (List Rule)). SameOn R (level_by_level laid C) (level_by_level ls C)) (sym k.rules)
      (levels_agree_on R laid (of_levels Headed headed) (of_levels (Follows R) (follows f)) C C (λ k _. (λ m. m, λ m. m)))

  -- ---- the answer

  module _ (request : ℕ) (relevant : Relevant (rules_in heads positive negated 0 (get_or starts levels 0)) request R) where
    -- what counts: R, and every number that is no atom
    abbrev Counts : ℕ → Type 0
    Counts k = k ≤ violation → Member k R

    agree : (C : ℕ) → SameWhere Counts (level_by_level laid C) (level_by_level (kept_levels R laid) C)
    agree C =
        levels_agree Counts R laid (of_levels Headed headed)
        (of_levels (Bears Counts R) (λ i l. follows_bears_low R (rule_at heads positive negated i) (headed i l) (follows relevant.one.follows i l)))
        C C (λ k _. (λ m. m, λ m. m))

    counts_request : Counts request
    counts_request l = relevant.one.holds request (union_left (single request) (single violation) request (single_own request l))

    counts_violation : Counts violation
    counts_violation l = relevant.one.holds violation (union_right (single request) (single violation) violation (single_own violation l))

    pub same_answer : (h p n s : List ℕ)
        → KeptIn levels R heads positive negated starts h p n s → SameAnswer levels request heads positive negated starts h p n s
    same_answer h p n s k = record {
      placed = k.placed;
      same = λ C.
          ap (λ (ls : List (List Rule)). grants request (level_by_level ls C)) k.rules
          ∙ sym (ap₂ (λ (x y : ℕ). eqb x 1 && not (eqb y 1))
          (same_bit _ _ request (agree C request counts_request).0 (agree C request counts_request).1)
          (same_bit _ _ violation (agree C violation counts_violation).0 (agree C violation counts_violation).1));
      set = R;
      relevant = relevant;
      rules = k.rules;
    }
