-- A list of slots with one of them set, and an opening and a round of a list as a whole. Assumes nothing.
use mathlib.Core.Path.{◌∙◌, ◌≡◌, ap, refl, subst, sym}
use mathlib.Core.Logic.{◌≢◌, ◌⊎◌, inl, inr}
use mathlib.Core.Bool.{Bool, cond, false, true}
use mathlib.Core.List.{List, [], ◌++◌, ◌∷◌}
use mathlib.Core.Option.{Option, none, or_else, some}
use Prim.Native.Nat.{◌+◌, ◌<◌, ◌≤◌, suc, zero, ℕ}
use lib.Dec.{eqb, ltb}
use lib.ListN.{drop, length, length-take, set, take, take-append-drop}
use lib.Seq.{get_or-set_other, get_or-set_same, get_or-take, set-append_left, take-set-lt}
use borrow.Author.Tests.{eqb-true, not-true}
use native.Mathlib.Decide.{ℕ_discrete}
use native.Mathlib.Nat.{le_refl, not-suc-le-zero}
use native.Mathlib.Omega.{arith}
use Rattle.lists.specs.Lists.{Every}
use Rattle.lists.specs.Sums.{sum}
use Rattle.lists.proofs.SumLaws.{sum_add, sum_none, sum_same}
use Rattle.validation.specs.Tests.{first_failed, relabelled}
use Rattle.validation.proofs.DecideLaws.{decides_lt, same_decision}
use Rattle.rounds.specs.Moves.{Move}
use Rattle.rounds.specs.Refusals.{Refusal, number}
use Rattle.rounds.specs.Rounds.{Answer, Outcome, round}
use Rattle.rounds.specs.RoundTest.{request_tests, round_refusal}
use Rattle.rounds.specs.Sessions.{Service, Session, is_closed, opened}
use Rattle.rounds.proofs.AnswerLaws.{clash}
use Rattle.rounds.proofs.RefusalLaws.{RoundCase, goes, refusal_parts, round_case, session_none, turned}
use Rattle.rounds.proofs.SessionLaws.{decides_open}
use Rattle.slots.specs.Openings.{Reply, open_at, opening_refusal, taken_unless}
use Rattle.slots.specs.RoundsAt.{put_back, refused_by, round_at, slot_round}
use Rattle.slots.specs.Slots.{InTable, Slot, held, in_table, is_free, most_unfinished, slot_at, slot_limit, unfinished, unfinished_of, vacant}
use Rattle.slots.proofs.CountLaws.{decides_fewer, one_most}
use Rattle.slots.proofs.FreeLaws.{decides_in_table}
use Rattle.slots.proofs.OpeningLaws.{opening_none}

-- ---- what holds of all slots

module _ (P : Slot → Type 0) where
  pub every_set : (xs : List Slot) (i : ℕ) (v : Slot) → P v → Every P xs → Every P (set xs i v)
  every_set [] i v p h = tt
  every_set (x ∷ xs) zero v p h = (p, h.1)
  every_set (x ∷ xs) (suc i) v p h = (h.0, every_set xs i v p h.1)

  pub every_slot : P vacant → (xs : List Slot) → Every P xs → (i : ℕ) → P (slot_at xs i)
  every_slot p [] h i = p
  every_slot p (x ∷ xs) h zero = h.0
  every_slot p (x ∷ xs) h (suc i) = every_slot p xs h.1 i

-- ---- the count of an owner's unfinished sessions

-- two functions that differ at one number
sum_one : (f g : ℕ → ℕ) (k n : ℕ) → k < n → ((m : ℕ) → m ≢ k → f m ≡ g m) → sum f n + g k ≡ sum g n + f k
unfolding sum
sum_one f g k zero l same = absurd (not-suc-le-zero l)
sum_one f g k (suc n) l same = go (ℕ_discrete k n) (λ (m : k < n). sum_one f g k n m same)
  where
    go : Dec (k ≡ n) → (k < n → sum f n + g k ≡ sum g n + f k) → (sum f n + f n) + g k ≡ (sum g n + g n) + f k
    go (yes e) ih = omega (arith, sum_same f g n (λ m l. same m (λ d. omega (arith, d, e, l))), ap f e, ap g e)
    go (no d) ih = omega (arith, ih (omega (arith, l, d)), same n (λ e. d (sym e)))

module _ (o : ℕ) (xs : List Slot) where
  abbrev counts : ℕ → ℕ
  counts k = unfinished_of o (slot_at xs k)

  count_set : (i : ℕ) (v : Slot) → i < length xs → (n : ℕ) → i < n
      → unfinished o (set xs i v) n + unfinished_of o (slot_at xs i) ≡ unfinished o xs n + unfinished_of o v
  unfolding unfinished
  count_set i v h n l =
      sum_one (λ k. unfinished_of o (slot_at (set xs i v) k)) counts i n l (λ m d. ap (unfinished_of o) (get_or-set_other xs i m v vacant d))
      ∙ ap (λ (x : Slot). sum counts n + unfinished_of o x) (get_or-set_same xs i v vacant h)

  -- no more than four where no more than four were
  pub keeps_four : (i : ℕ) (v : Slot) → i < length xs → (n : ℕ) → i < n → unfinished o xs n ≤ 4
      → (unfinished_of o v ≤ unfinished_of o (slot_at xs i)) ⊎ (unfinished o xs n < 4) → unfinished o (set xs i v) n ≤ 4
  keeps_four i v h n l most (inl c) = omega (arith, count_set i v h n l, most, c)
  keeps_four i v h n l most (inr c) = omega (arith, count_set i v h n l, c, one_most o v)

  pub count_none : (n : ℕ) → ((k : ℕ) → k < n → slot_at xs k ≡ vacant) → unfinished o xs n ≡ 0
  unfolding unfinished unfinished_of
  count_none n h = sum_none counts n (λ m l. ap (unfinished_of o) (h m l))

  -- where all from place n on are empty, the first n have them all
  pub count_rest : (n : ℕ) → ((k : ℕ) → n ≤ k → slot_at xs k ≡ vacant) → (m : ℕ) → unfinished o xs m ≤ unfinished o xs n
  unfolding unfinished unfinished_of
  count_rest n h m =
      let a = sum_add counts n m in
      let b = sum_none (λ k. counts (n + k)) m (λ k l. ap (unfinished_of o) (h (n + k) (omega arith))) in
      let e : n + m ≡ m + n = omega arith in
      let c : sum counts (n + m) ≡ sum counts m + sum (λ k. counts (m + k)) n = ap (sum counts) e ∙ sum_add counts m n in
      omega (arith, a, b, c)

-- ---- an opening

pub data OpeningCase (xs : List Slot) (i o r : ℕ) (g : Reply (Option Refusal)) : Type 0 where
  turned_away_lem : (f : Refusal) → g ≡ record { answer = some f; table = xs } → OpeningCase xs i o r g
  taken : Service r → InTable xs i → unfinished o xs slot_limit < 4 → g ≡ record { answer = none; table = set xs i (held o (opened r)) }
      → OpeningCase xs i o r g

module _ (xs : List Slot) (i o r : ℕ) where
  unrefused : opening_refusal xs i o r ≡ none → Service r × (InTable xs i × (unfinished o xs slot_limit < 4))
  unrefused e =
      let h = (opening_none xs i o r).0 e in
      (h.0, (h.1.0, (decides_lt (unfinished o xs slot_limit) most_unfinished).0 ((decides_fewer o xs slot_limit most_unfinished).1 h.1.1.1.0)))

  pub opening_case : OpeningCase xs i o r (open_at xs i o r)
  unfolding open_at
  opening_case = go (opening_refusal xs i o r) refl
    where
      go : (x : Option Refusal) → opening_refusal xs i o r ≡ x → OpeningCase xs i o r (taken_unless x xs i (held o (opened r)))
      go none e = let (s, (t, m)) = unrefused e in taken s t m refl
      go (some f) e = turned_away_lem f refl

  -- it adds to one owner's count alone, where there is room
  pub opening_fewer : unfinished o xs slot_limit < 4 → (p : ℕ) → (s : Session)
      → (unfinished_of p (held o s) ≤ unfinished_of p (slot_at xs i)) ⊎ (unfinished p xs slot_limit < 4)
  unfolding unfinished_of
  opening_fewer m p s = go (eqb o p) refl
    where
      go : (b : Bool) → eqb o p ≡ b → (cond b (cond (is_closed s.phase) 0 1) 0 ≤ unfinished_of p (slot_at xs i)) ⊎ (unfinished p xs slot_limit < 4)
      go true e = inr (subst (λ (q : ℕ). unfinished q xs slot_limit < 4) (eqb-true o p e) m)
      go false e = inl (omega arith)

-- ---- a round

pub data RoundAtCase (bytes : List ℕ) (xs : List Slot) (i : ℕ) (m : Move) (g : Reply Answer) : Type 0 where
  outside : g ≡ record { answer = refused_by bytes 14; table = xs } → RoundAtCase bytes xs i m g
  inside : InTable xs i → g ≡ put_back xs i (slot_round bytes (slot_at xs i) m) → RoundAtCase bytes xs i m g

module _ (bytes : List ℕ) (xs : List Slot) (i : ℕ) (m : Move) where
  pub round_at-case : RoundAtCase bytes xs i m (round_at bytes xs i m)
  unfolding round_at
  round_at-case = go (in_table xs i) (decides_in_table xs i).0
    where
      go : (b : Bool) → (b ≡ true → InTable xs i)
          → RoundAtCase bytes xs i m (cond b (put_back xs i (slot_round bytes (slot_at xs i) m)) (record { answer = refused_by bytes 14; table = xs }))
      go true h = inside (h refl) refl
      go false h = outside refl

-- what is left where the first of two gives nothing
or_none : {A : Type 0} (x y : Option A) → or_else x y ≡ none → y ≡ none
unfolding or_else
or_none none y e = e
or_none (some f) y e = clash (cc)

-- a round that is not refused is one of an open session
goes_open : (bytes : List ℕ) (s : Session) (m : Move) → round_refusal bytes s m ≡ none → is_closed s.phase ≡ false
goes_open bytes s m e =
    let h = (session_none s m).0 (or_none _ _ (sym (refusal_parts bytes s m) ∙ e)) in
    not-true (is_closed s.phase) ((decides_open s).1 h.1.1.0)

most_open : (a c : Bool) → cond a (cond c 0 1) 0 ≤ cond a 1 0
most_open false c = le_refl 0
most_open true false = le_refl 1
most_open true true = omega arith

-- a round adds to nobody's count
pub round_fewer : (bytes : List ℕ) (x : Slot) (m : Move) (o : ℕ) → unfinished_of o (slot_round bytes x m).slot ≤ unfinished_of o x
unfolding slot_round unfinished_of
round_fewer bytes vacant m o = le_refl 0
round_fewer bytes (held p s) m o = go (round_case bytes s m)
  where
    go : RoundCase bytes s m (round bytes s m) → unfinished_of o (held p (round bytes s m).session) ≤ unfinished_of o (held p s)
    go (turned f e is) = subst (λ (x : Outcome). unfinished_of o (held p x.session) ≤ unfinished_of o (held p s)) (sym is) (le_refl _)
    go (goes e is) =
        subst (λ (c : Bool). unfinished_of o (held p (round bytes s m).session) ≤ cond (eqb p o) (cond c 0 1) 0) (sym (goes_open bytes s m e))
        (most_open (eqb p o) (is_closed (round bytes s m).session.phase))

-- ---- the first 64 slots alone

-- g, of the list xs, answers as h does, of its first 64 slots, does the same with those, and leaves the others
pub record Cut {A : Type 0} (xs : List Slot) (g h : Reply A) : Type 0 where
  pub answer : g.answer ≡ h.answer
  pub table : g.table ≡ h.table ++ drop slot_limit xs
  pub front : take slot_limit g.table ≡ h.table

module _ (xs : List Slot) where
  abbrev firsts : List Slot
  firsts = take slot_limit xs

  cut_left : {A : Type 0} (a : A) → Cut xs (record { answer = a; table = xs }) (record { answer = a; table = firsts })
  cut_left a = record { answer = refl; table = sym (take-append-drop slot_limit xs); front = refl }

  cut_in : (i : ℕ) → i < slot_limit → i < length xs → i < length firsts
  cut_in i k l = subst (λ (n : ℕ). i < n) (sym (length-take slot_limit xs)) (omega arith)

  cut_set : {A : Type 0} (a : A) (i : ℕ) (v : Slot) → InTable xs i
      → Cut xs (record { answer = a; table = set xs i v }) (record { answer = a; table = set firsts i v })
  cut_set a i v h = record {
    answer = refl;
    table = ap (λ (ys : List Slot). set ys i v) (sym (take-append-drop slot_limit xs))
        ∙ set-append_left firsts (drop slot_limit xs) i v (cut_in i h.1 h.0);
    front = take-set-lt slot_limit xs i v h.1;
  }

  in_same : (i : ℕ) → in_table xs i ≡ in_table firsts i
  in_same i = same_decision (in_table xs i) (in_table firsts i) (decides_in_table xs i) (λ e. back ((decides_in_table firsts i).0 e), λ h. (decides_in_table firsts i).1 (cut_in i h.1 h.0, h.1))
    where
      back : InTable firsts i → InTable xs i
      back (l, k) = let n = subst (λ (n : ℕ). i < n) (length-take slot_limit xs) l in (omega arith, k)

  count_same : (o : ℕ) → unfinished o xs slot_limit ≡ unfinished o firsts slot_limit
  unfolding unfinished
  count_same o = sum_same _ _ slot_limit (λ k l. ap (unfinished_of o) (sym (get_or-take slot_limit xs k vacant l)))

  refusal_same : (i o r : ℕ) → opening_refusal xs i o r ≡ opening_refusal firsts i o r
  unfolding opening_refusal first_failed relabelled
  refusal_same i o r = go (in_table xs i) (decides_in_table xs i).0
      ∙ ap (λ (b : Bool). tests b (slot_at firsts i) (unfinished o firsts slot_limit)) (in_same i)
    where
      tests : Bool → Slot → ℕ → Option Refusal
      tests b x n = first_failed (relabelled number (request_tests r ++ ((b, 14) ∷ (is_free x, 15) ∷ (ltb n 4, 16) ∷ [])))

      go : (b : Bool) → (b ≡ true → InTable xs i)
          → tests b (slot_at xs i) (unfinished o xs slot_limit) ≡ tests b (slot_at firsts i) (unfinished o firsts slot_limit)
      go true h =
          ap (λ (x : Slot). tests true x (unfinished o xs slot_limit)) (sym (get_or-take slot_limit xs i vacant (h refl).1))
          ∙ ap (tests true (slot_at firsts i)) (count_same o)
      go false h = refl

  pub opening_cut : (i o r : ℕ) → Cut xs (open_at xs i o r) (open_at firsts i o r)
  unfolding open_at
  opening_cut i o r =
      subst (λ (x : Option Refusal). Cut xs (open_at xs i o r) (taken_unless x firsts i (held o (opened r)))) (refusal_same i o r)
      (go (opening_refusal xs i o r) refl)
    where
      go : (x : Option Refusal) → opening_refusal xs i o r ≡ x
          → Cut xs (taken_unless x xs i (held o (opened r))) (taken_unless x firsts i (held o (opened r)))
      go none e = cut_set none i (held o (opened r)) (unrefused xs i o r e).1.0
      go (some f) e = cut_left (some f)

  pub round_cut : (bytes : List ℕ) (i : ℕ) (m : Move) → Cut xs (round_at bytes xs i m) (round_at bytes firsts i m)
  unfolding round_at
  round_cut bytes i m =
      subst (λ (b : Bool). Cut xs (round_at bytes xs i m) (given b firsts)) (in_same i) (go (in_table xs i) (decides_in_table xs i).0)
    where
      given : Bool → List Slot → Reply Answer
      given b ys = cond b (put_back ys i (slot_round bytes (slot_at ys i) m)) (record { answer = refused_by bytes 14; table = ys })

      go : (b : Bool) → (b ≡ true → InTable xs i) → Cut xs (given b xs) (given b firsts)
      go true h =
          subst (λ (x : Slot). Cut xs (given true xs) (put_back firsts i (slot_round bytes x m))) (sym (get_or-take slot_limit xs i vacant (h refl).1))
          (cut_set (slot_round bytes (slot_at xs i) m).answer i (slot_round bytes (slot_at xs i) m).slot (h refl))
      go false h = cut_left (refused_by bytes 14)
