-- What the program's steps add up to. Assumes nothing.
use mathlib.Core.Path.{◌∙◌, ◌≡◌, ap, refl, subst, sym}
use mathlib.Core.Bool.{Bool, ◌&&◌, cond, false, true}
use mathlib.Core.List.{List}
use mathlib.Core.Option.{Option, none, some}
use Prim.Native.Nat.{◌<◌, ◌^◌, ◌≤◌, ℕ}
use borrow.Author.Tests.{le-leb, lt-leb}
use lib.Dec.{leb}
use lib.Pow.{pow_pos}
use native.Mathlib.Omega.{arith}
use Rattle.encoding.specs.LittleEndian.{Bytes}
use Rattle.atoms.specs.Atoms.{first_derived, last_derived}
use Rattle.atoms.specs.Sets.{Member, difference, disjoint, size, union}
use Rattle.atoms.proofs.SetLaws.{difference_iff, true_disjoint, union_empty}
use Rattle.rules.specs.Model.{model}
use Rattle.rules.specs.Policy.{Policy}
use Rattle.rules.specs.Unlocking.{grants, unlocks}
use Rattle.records.specs.Policies.{policy_of}
use Rattle.levels.specs.Levels.{level_at}
use Rattle.form.specs.WrittenForm.{Refusal}
use Rattle.form.specs.PolicyTest.{policy_refusal}
use Rattle.policy.specs.Types.{AcceptedWith}
use Rattle.arrays.specs.Arrays.{LaidOut, evaluated, level_count}
use Rattle.layout.proofs.AccessLaws.{access_model}
use Rattle.preference.specs.Candidates.{switched}
use Rattle.preference.specs.InArrays.{opens_at, opens_in}
use Rattle.preference.specs.Order.{Result, Searched, cost_of, found, nothing, searched, spent, trials}
use Rattle.preference.specs.OrderTheorems.{question_at}
use Rattle.preference.specs.Question.{Question, no_question, opens_with}
use Rattle.preference.specs.Subsets.{MembersOf, subset_of}
use Rattle.preference.proofs.OrderLaws.{searched_means, searched_same}
use Rattle.question.proofs.AskedLaws.{asks, same_test}
use Rattle.probe.specs.Reply.{accepted_reply, found_reply, refused_reply, result_reply, search_reply, tested_reply}

-- ---- the answer

-- no answer takes more trials than the limit
pub within_limit : (cost : ℕ → ℕ) (test : ℕ → Bool) (N limit : ℕ) → 0 < N → (a : Result) → a ≡ searched cost test N limit → trials a ≤ limit
within_limit cost test N limit p a e = go a ((searched_means cost test N limit p a).0 (sym e))
  where
    go : (a : Result) → Searched cost test N limit a → trials a ≤ limit
    go (found n q) h = h.2
    go (nothing t) h = h.2
    go spent h = omega arith

-- candidates that ask for the same have the same reply
same_reply : (f g : ℕ → ℕ) → ((n : ℕ) → f n ≡ g n) → (a : Result) → result_reply f a ≡ result_reply g a
same_reply f g h (found n p) = simp (h n)
same_reply f g h (nothing t) = refl
same_reply f g h spent = refl

-- tests with the same results have the same reply
same_found : (f g : Question → Bool) → ((q : Question) → f q ≡ g q) → (D : ℕ) (ws : List ℕ) (limit : ℕ) → found_reply f D ws limit ≡ found_reply g D ws limit
unfolding found_reply
same_found f g same D ws limit =
    ap (result_reply (subset_of D))
    (searched_same (cost_of ws) (λ n. f (question_at D n)) (λ n. g (question_at D n)) (2 ^ size D) (λ n. same (question_at D n)) (pow_pos (size D)) limit)

-- ---- rules in arrays

module _ (levels : ℕ) (h p m s : List ℕ) (r P D : ℕ) (small : D < 2 ^ 16) (apart : disjoint P D ≡ true) (members : List ℕ) (listed : MembersOf D members) (count : ℕ)
    (sized : count ≡ size D) where
  -- a candidate asks for a subset of D
  asked : (n : ℕ) → switched 0 members count n ≡ subset_of D n
  asked n = ap (λ (k : ℕ). switched 0 members k n) sized ∙ asks levels h p m s r P D small apart members listed n

  -- the search over the members of D has given a
  pub replies_found : (ws : List ℕ) (limit : ℕ) (a : Result) → a ≡ searched (cost_of ws) (opens_at levels h p m s r P members count) (2 ^ count) limit
      → result_reply (switched 0 members count) a ≡ found_reply (opens_in levels h p m s r P) D ws limit
  unfolding found_reply
  replies_found ws limit a is =
      same_reply (switched 0 members count) (subset_of D) asked a
      ∙ ap (result_reply (subset_of D))
      (is ∙ ap (λ (k : ℕ). searched (cost_of ws) (opens_at levels h p m s r P members k) (2 ^ k) limit) sized
      ∙ searched_same (cost_of ws) (opens_at levels h p m s r P members (size D)) (λ n. opens_in levels h p m s r P (question_at D n)) (2 ^ size D)
      (same_test levels h p m s r P D small apart members listed) (pow_pos (size D)) limit)

-- ---- an accepted policy's rules in arrays; x says whether the shown credentials C unlock the request

module _ (bytes : List ℕ) (b : Bytes bytes) (of : List ℕ) (w : AcceptedWith bytes of) (h p m s : List ℕ)
    (l : LaidOut (level_at of) level_count (policy_of bytes).access h p m s)
    (r P C : ℕ) (e : C ≡ P) (x : Bool) (is : x ≡ grants r (evaluated level_count h p m s C)) where
  abbrev pol : Policy
  pol = policy_of bytes

  unlocked : x ≡ unlocks pol r P
  unfolding unlocks
  unlocked = is ∙ ap (grants r) (access_model bytes b w.form of w.levels h p m s l C ∙ ap (model pol.access) e)

  -- asking nothing does not unlock it either
  pub locked_alone : x ≡ false → opens_in level_count h p m s r P no_question ≡ false
  locked_alone f = ap (λ (y : ℕ). grants r (evaluated level_count h p m s y)) (union_empty P ∙ sym e) ∙ sym is ∙ f

  pub replies_open : x ≡ true → (D : ℕ) (ws : List ℕ) (limit : ℕ) → 0 ≡ accepted_reply (policy_of bytes) r P D ws limit
  unfolding accepted_reply
  replies_open t D ws limit = ap (λ (y : Bool). cond y 0 (found_reply (opens_with pol r P) D ws limit)) (sym t ∙ unlocked)

  pub replies_locked : x ≡ false → (D : ℕ) (ws : List ℕ) (limit : ℕ) → found_reply (opens_in level_count h p m s r P) D ws limit ≡ accepted_reply (policy_of bytes) r P D ws limit
  unfolding accepted_reply unlocks
  replies_locked f D ws limit =
      same_found (opens_in level_count h p m s r P) (opens_with pol r P) (λ q. ap (grants r) (access_model bytes b w.form of w.levels h p m s l (union P q.asks))) D ws limit
      ∙ ap (λ (y : Bool). cond y 0 (found_reply (opens_with pol r P) D ws limit)) (sym f ∙ unlocked)

-- ---- the tests before it

-- what may be asked is not shown
pub rest_apart : (W P D : ℕ) → D ≡ difference W P → disjoint P D ≡ true
rest_apart W P D e = true_disjoint P D (λ k a b. ((difference_iff W P k).0 (subst (Member k) e b)).1 a)

module _ (bytes : List ℕ) (r P W : ℕ) (ws : List ℕ) (limit : ℕ) where
  abbrev reply : ℕ
  reply = accepted_reply (policy_of bytes) r P (difference W P) ws limit

  by_tests : (o : Option Refusal) (x y : Bool) → o ≡ policy_refusal bytes → leb first_derived r ≡ x → leb r last_derived ≡ y
      → tested_reply o (x && y) reply ≡ search_reply bytes r P W ws limit
  unfolding search_reply
  by_tests o x y e f g =
      ap (λ (z : Option Refusal). tested_reply z (x && y) reply) e
      ∙ ap (λ (z : Bool). tested_reply (policy_refusal bytes) (z && y) reply) (sym f)
      ∙ ap (λ (z : Bool). tested_reply (policy_refusal bytes) (leb first_derived r && z) reply) (sym g)

  pub replies_refused : (f : Refusal) → some f ≡ policy_refusal bytes → refused_reply ≡ search_reply bytes r P W ws limit
  replies_refused f e = by_tests (some f) (leb first_derived r) (leb r last_derived) e refl refl

  pub replies_below : none ≡ policy_refusal bytes → r < 16 → refused_reply ≡ search_reply bytes r P W ws limit
  replies_below e k = by_tests none false (leb r last_derived) e (lt-leb 16 r k) refl

  pub replies_above : none ≡ policy_refusal bytes → 16 ≤ r → 62 < r → refused_reply ≡ search_reply bytes r P W ws limit
  replies_above e k i = by_tests none true false e (le-leb 16 r k) (lt-leb r 62 i)

  pub replies_tested : none ≡ policy_refusal bytes → 16 ≤ r → r ≤ 62 → (D x : ℕ) → D ≡ difference W P
      → x ≡ accepted_reply (policy_of bytes) r P D ws limit → x ≡ search_reply bytes r P W ws limit
  replies_tested e k i D x d is =
      is ∙ ap (λ (y : ℕ). accepted_reply (policy_of bytes) r P y ws limit) d ∙ by_tests none true true e (le-leb 16 r k) (le-leb r 62 i)
