-- Rules in arrays, one place at a time. Assumes nothing.
use mathlib.Core.Path.{◌∙◌, ◌≡◌, ap, ap₂, refl, sym}
use mathlib.Core.Logic.{◌⊎◌, ◌≢◌, inl, inr}
use mathlib.Core.Bool.{◌&&◌, cond}
use mathlib.Core.List.{List, [], ◌++◌, ◌∷◌}
use Prim.Native.Nat.{◌+◌, ◌-◌, ◌<◌, ◌≤◌, suc, zero, ℕ}
use lib.ListN.{get_or, length, set}
use lib.Seq.{get_or-set_other, get_or-set_same}
use native.Mathlib.Numerals.{add-one}
use native.Mathlib.Omega.{arith}
use Rattle.atoms.specs.Sets.{disjoint, subset, union}
use Rattle.rules.specs.LevelByLevel.{level_by_level, pass_over, settle}
use Rattle.rules.specs.Rules.{Rule}
use Rattle.rules.proofs.LoopLaws.{levels_next, pass_next, pass_none, pass_one}
use Rattle.arrays.specs.Arrays.{OneAtom, atom_of, levels_in, rule_at, rules_in}

-- arrays that agree at n places from k on hold the same rules there
rules_same : (h p n h' p' n' : List ℕ) (m k : ℕ) → ((i : ℕ) → k ≤ i → i < k + m → rule_at h p n i ≡ rule_at h' p' n' i) → rules_in h p n k m ≡ rules_in h' p' n' k m
unfolding rules_in
rules_same h p n h' p' n' zero k f = refl
rules_same h p n h' p' n' (suc m) k f =
    ap₂ (λ (r : Rule) (rs : List Rule). r ∷ rs) (f k (omega arith) (omega arith)) (rules_same h p n h' p' n' m (suc k) (λ i a b. f i (omega arith) (omega arith)))

-- one place more
rules_last : (h p n : List ℕ) (m k : ℕ) → rules_in h p n k (suc m) ≡ rules_in h p n k m ++ (rule_at h p n (k + m) ∷ [])
unfolding rules_in
rules_last h p n zero k = let e : k ≡ k + 0 = omega arith in ap (λ (i : ℕ). rule_at h p n i ∷ []) e
rules_last h p n (suc m) k =
    let e : suc k + m ≡ k + suc m = omega arith in
    ap (◌∷◌ (rule_at h p n k)) (rules_last h p n m (suc k) ∙ ap (λ (i : ℕ). rules_in h p n (suc k) m ++ (rule_at h p n i ∷ [])) e)

-- ---- a rule is put at a place: its head's set, its positive part and its negated part

module _ (h p n : List ℕ) (at H P N : ℕ) where
  abbrev put_at : ℕ → Rule
  put_at = rule_at (set h at H) (set p at P) (set n at N)

  abbrev pub put_in : ℕ → ℕ → List Rule
  put_in = rules_in (set h at H) (set p at P) (set n at N)

  put_other : (i : ℕ) → i ≢ at → put_at i ≡ rule_at h p n i
  put_other i e = λ j. record {
    head = atom_of (get_or-set_other h at i H 0 e j);
    positive = get_or-set_other p at i P 0 e j;
    negated = get_or-set_other n at i N 0 e j;
  }

  -- places that the rule is not put at hold what they held
  pub put_outside : (k m : ℕ) → (at < k) ⊎ (k + m ≤ at) → put_in k m ≡ rules_in h p n k m
  put_outside k m o = rules_same _ _ _ h p n m k (λ i a b. put_other i (apart o i a b))
    where
      apart : (at < k) ⊎ (k + m ≤ at) → (i : ℕ) → k ≤ i → i < k + m → i ≢ at
      apart (inl l) i a b = λ e. omega arith
      apart (inr l) i a b = λ e. omega arith

  -- at the place after them, the rule comes after them
  pub put_next : at < length h → at < length p → at < length n → (k m : ℕ) → k + m ≡ at
      → put_in k (suc m) ≡ rules_in h p n k m ++ ((record { head = atom_of H; positive = P; negated = N }) ∷ [])
  put_next a b c k m e = rules_last _ _ _ m k ∙ ap₂ (λ (rs : List Rule) (q : Rule). rs ++ (q ∷ [])) (put_outside k m (inr (omega arith))) here
    where
      here : put_at (k + m) ≡ record { head = atom_of H; positive = P; negated = N }
      here = ap put_at e ∙ (λ j. record {
        head = atom_of (get_or-set_same h at H 0 a j);
        positive = get_or-set_same p at P 0 b j;
        negated = get_or-set_same n at N 0 c j;
      })

-- ---- the rules that are left

module _ (heads positive negated : List ℕ) (k to : ℕ) where
  pub rules_next : k < to
      → rules_in heads positive negated k (to - k) ≡ rule_at heads positive negated k ∷ rules_in heads positive negated (k + 1) (to - (k + 1))
  unfolding rules_in
  rules_next l =
      let e : to - k ≡ suc (to - (k + 1)) = omega arith in
      ap (rules_in heads positive negated k) e ∙ rw (add-one k)

  pub rules_done : to ≤ k → rules_in heads positive negated k (to - k) ≡ []
  unfolding rules_in
  rules_done l = let e : to - k ≡ 0 = omega arith in ap (rules_in heads positive negated k) e

  -- one rule: the set of its head is added where its body holds
  pass_one_at : OneAtom (get_or heads k 0) → (B S : ℕ)
      → cond (disjoint (get_or negated k 0) B && subset (get_or positive k 0) S) (union S (get_or heads k 0)) S
      ≡ pass_over B (rule_at heads positive negated k ∷ []) S
  pass_one_at o B S =
      sym (pass_one B (rule_at heads positive negated k) S
      ∙ ap (λ (x : ℕ). cond (disjoint (get_or negated k 0) B && subset (get_or positive k 0) S) (union S x) S) o)

  -- a pass over the rules from place k on: N is S after the rule at k
  pub pass_next_at : k < to → OneAtom (get_or heads k 0) → (B S N E : ℕ)
      → N ≡ cond (disjoint (get_or negated k 0) B && subset (get_or positive k 0) S) (union S (get_or heads k 0)) S
      → pass_over B (rules_in heads positive negated k (to - k)) S ≡ E
      → pass_over B (rules_in heads positive negated (k + 1) (to - (k + 1))) N ≡ E
  pass_next_at l o B S N E n e =
      let rest = rules_in heads positive negated (k + 1) (to - (k + 1)) in
      ap (pass_over B rest) (n ∙ pass_one_at o B S)
      ∙ sym (pass_next B (rule_at heads positive negated k) rest S)
      ∙ sym (ap (λ (rs : List Rule). pass_over B rs S) (rules_next l))
      ∙ e

  pub pass_done_at : to ≤ k → (B S E : ℕ) → pass_over B (rules_in heads positive negated k (to - k)) S ≡ E → S ≡ E
  pass_done_at l B S E e = sym (ap (λ (rs : List Rule). pass_over B rs S) (rules_done l) ∙ pass_none B S) ∙ e

-- ---- the levels that are left

module _ (levels : ℕ) (heads positive negated starts : List ℕ) (l : ℕ) where
  -- T is S after level l
  pub levels_next_at : l < levels → (S T E : ℕ)
      → T ≡ settle (rules_in heads positive negated (get_or starts l 0) (get_or starts (l + 1) 0 - get_or starts l 0)) S
      → level_by_level (levels_in heads positive negated starts l (levels - l)) S ≡ E
      → level_by_level (levels_in heads positive negated starts (l + 1) (levels - (l + 1))) T ≡ E
  unfolding levels_in
  levels_next_at i S T E t e =
      let rest = levels_in heads positive negated starts (l + 1) (levels - (l + 1)) in
      let here = rules_in heads positive negated (get_or starts l 0) (get_or starts (l + 1) 0 - get_or starts l 0) in
      ap (level_by_level rest) t ∙ sym (levels_next here rest S) ∙ sym (ap (λ (ls : List (List Rule)). level_by_level ls S) first) ∙ e
    where
      first : levels_in heads positive negated starts l (levels - l)
          ≡ rules_in heads positive negated (get_or starts l 0) (get_or starts (l + 1) 0 - get_or starts l 0)
          ∷ levels_in heads positive negated starts (l + 1) (levels - (l + 1))
      first =
          let m : levels - l ≡ suc (levels - (l + 1)) = omega arith in
          ap (levels_in heads positive negated starts l) m ∙ rw (add-one l)
