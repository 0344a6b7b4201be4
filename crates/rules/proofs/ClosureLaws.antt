-- Passes over rules, whatever says that a rule applies: how far they get. Assumes nothing.
use mathlib.Core.Path.{◌∙◌, ◌≡◌, ap, refl, subst, sym}
use mathlib.Core.Logic.{◌⊎◌, inl, inr}
use mathlib.Core.Bool.{Bool, cond, false, true, true≢false}
use mathlib.Core.List.{List, [], ◌∷◌}
use Prim.Native.Nat.{◌+◌, ◌-◌, ◌<◌, ◌≤◌, suc, zero, ℕ}
use lib.ListN.{length}
use native.Mathlib.Nat.{add-le-add}
use native.Mathlib.Omega.{arith}
use Rattle.lists.specs.Lists.{Every}
use Rattle.lists.proofs.ListLaws.{every_imp, every_imp₂}
use Rattle.atoms.specs.Sets.{Member, Subset, bit, single, union}
use Rattle.atoms.proofs.SetLaws.{bit_lt, in_or_out, member_single, single_cases, single_own, subset_antisym, union_cases, union_left, union_right}
use Rattle.rules.specs.Model.{closure_by, times, pass_by}
use Rattle.rules.specs.Rules.{Headed, Rule}

pub times_fixed : (n : ℕ) (f : ℕ → ℕ) (x : ℕ) → f x ≡ x → times n f x ≡ x
unfolding times
times_fixed zero f x e = refl
times_fixed (suc n) f x e = ap (times n f) e ∙ times_fixed n f x e

pub times_out : (n : ℕ) (f : ℕ → ℕ) (x : ℕ) → times (suc n) f x ≡ f (times n f x)
unfolding times
times_out zero f x = refl
times_out (suc n) f x = times_out n f (f x)

pub times_in : (n : ℕ) (f : ℕ → ℕ) (x : ℕ) → times (suc n) f x ≡ times n f (f x)
unfolding times
times_in n f x = refl

-- how many rules' heads are not in S: it falls with every pass that adds something
lacking : List Rule → ℕ → ℕ
lacking [] S = 0
lacking (r ∷ rs) S = 1 - bit S r.head + lacking rs S

lacks_falls : (S X h : ℕ) → Subset S X → 1 - bit X h ≤ 1 - bit S h
lacks_falls S X h f = go (bit S h) refl
  where
    go : (x : ℕ) → bit S h ≡ x → 1 - bit X h ≤ 1 - bit S h
    go zero e = omega arith
    go (suc x) e = let i : bit X h ≡ 1 = f h (omega (arith, bit_lt S h)) in omega arith

lacking_falls : (rs : List Rule) (S X : ℕ) → Subset S X → lacking rs X ≤ lacking rs S
unfolding lacking
lacking_falls [] S X f = omega arith
lacking_falls (r ∷ rs) S X f = add-le-add (lacks_falls S X r.head f) (lacking_falls rs S X f)

lacking_most : (rs : List Rule) (S : ℕ) → lacking rs S ≤ length rs
unfolding lacking
lacking_most [] S = omega arith
lacking_most (r ∷ rs) S = omega (arith, lacking_most rs S)

module _ (on : Rule → ℕ → Bool) where
  fire : Rule → ℕ → ℕ
  fire r S = cond (on r S) (union S (single r.head)) S

  fire_grows : (r : Rule) (S : ℕ) → Subset S (fire r S)
  unfolding fire
  fire_grows r S = go (on r S)
    where
      go : (b : Bool) → Subset S (cond b (union S (single r.head)) S)
      go true = union_left S (single r.head)
      go false = λ k m. m

  -- the rule keeps Q: where Q holds of a set to which it applies, Q holds of its head
  abbrev pub Keeps : (ℕ → Type 0) → Rule → Type 0
  Keeps Q r = (S : ℕ) → ((k : ℕ) → Member k S → Q k) → on r S ≡ true → Q r.head

  -- a rule whose head is no atom adds nothing
  abbrev pub KeepsHeaded : (ℕ → Type 0) → Rule → Type 0
  KeepsHeaded Q r = Headed r → Keeps Q r

  fire_within : (Q : ℕ → Type 0) (r : Rule) (S : ℕ) → ((k : ℕ) → Member k S → Q k) → KeepsHeaded Q r → (k : ℕ) → Member k (fire r S) → Q k
  unfolding fire
  fire_within Q r S h_s hr = go (on r S) refl
    where
      go : (b : Bool) → on r S ≡ b → (k : ℕ) → Member k (cond b (union S (single r.head)) S) → Q k
      go true e k m = pick (union_cases S (single r.head) k m)
        where
          pick : Member k S ⊎ Member k (single r.head) → Q k
          pick (inl i) = h_s k i
          pick (inr i) = let (same, low) = single_cases r.head k i in subst Q (sym same) (hr low S h_s e)
      go false e k m = h_s k m

  -- either the rule adds nothing, or its head is new
  fire_falls : (r : Rule) (S : ℕ) → (fire r S ≡ S) ⊎ ((bit S r.head ≡ 0) × Member r.head (fire r S))
  unfolding fire
  fire_falls r S = go (on r S)
    where
      h : ℕ
      h = r.head

      same : ((k : ℕ) → Member k (single h) → Member k S) → union S (single h) ≡ S
      same f = subset_antisym (λ k m. pick k (union_cases S (single h) k m)) (union_left S (single h))
        where
          pick : (k : ℕ) → Member k S ⊎ Member k (single h) → Member k S
          pick k (inl i) = i
          pick k (inr i) = f k i

      added : Member h S ⊎ (bit S h ≡ 0) → Member h (single h) ⊎ (bit (single h) h ≡ 0)
          → (union S (single h) ≡ S) ⊎ ((bit S h ≡ 0) × Member h (union S (single h)))
      added (inl i) _ = inl (same (λ k m. subst (λ (j : ℕ). Member j S) (sym (member_single h k m)) i))
      added (inr z) (inl i) = inr (z, union_right S (single h) h i)
      added (inr z) (inr n) = inl (same (λ k m. let own : Member h (single h) = subst (λ (j : ℕ). Member j (single h)) (member_single h k m) m in
          absurd (omega arith)))

      go : (b : Bool) → (cond b (union S (single h)) S ≡ S) ⊎ ((bit S h ≡ 0) × Member h (cond b (union S (single h)) S))
      go true = added (in_or_out S h) (in_or_out (single h) h)
      go false = inl refl

  -- passes are inflationary
  pub pass_grows : (rs : List Rule) (S : ℕ) → Subset S (pass_by on rs S)
  unfolding pass_by fire
  pass_grows [] S k m = m
  pass_grows (r ∷ rs) S k m = pass_grows rs (fire r S) k (fire_grows r S k m)

  pass_within : (Q : ℕ → Type 0) (rs : List Rule) (S : ℕ) → ((k : ℕ) → Member k S → Q k) → Every (KeepsHeaded Q) rs
      → (k : ℕ) → Member k (pass_by on rs S) → Q k
  unfolding pass_by fire
  pass_within Q [] S h_s h = h_s
  pass_within Q (r ∷ rs) S h_s h = pass_within Q rs (fire r S) (fire_within Q r S h_s h.0) h.1

  abbrev pub KeptBy : ℕ → List Rule → Type 0
  KeptBy S rs = Every (λ r. on r S ≡ true → Member r.head S) rs

  -- a pass either adds nothing or leaves fewer heads lacking
  pass_falls : (rs : List Rule) (S : ℕ) → (pass_by on rs S ≡ S) ⊎ (lacking rs (pass_by on rs S) < lacking rs S)
  unfolding pass_by lacking fire
  pass_falls [] S = inl refl
  pass_falls (r ∷ rs) S = go (fire_falls r S) (pass_falls rs S)
    where
      X : ℕ
      X = pass_by on rs (fire r S)

      grows : Subset S X
      grows k m = pass_grows rs (fire r S) k (fire_grows r S k m)

      go : (fire r S ≡ S) ⊎ ((bit S r.head ≡ 0) × Member r.head (fire r S))
          → (pass_by on rs S ≡ S) ⊎ (lacking rs (pass_by on rs S) < lacking rs S)
          → (X ≡ S) ⊎ (1 - bit X r.head + lacking rs X < 1 - bit S r.head + lacking rs S)
      go (inl e) (inl p) = inl (ap (pass_by on rs) e ∙ p)
      go (inl e) (inr l) =
          let m : lacking rs X < lacking rs S = subst (λ (x : ℕ). lacking rs (pass_by on rs x) < lacking rs S) (sym e) l in
          inr (omega (arith, lacks_falls S X r.head grows))
      go (inr (z, i)) d =
          let j : bit X r.head ≡ 1 = pass_grows rs (fire r S) r.head i in
          inr (omega (arith, lacking_falls rs S X grows))

  -- a pass that adds nothing: the set is closed
  idle_kept_headed : (rs : List Rule) (S : ℕ) → pass_by on rs S ≡ S → Every (λ r. Headed r → on r S ≡ true → Member r.head S) rs
  unfolding pass_by fire
  idle_kept_headed [] S e = tt
  idle_kept_headed (r ∷ rs) S e =
      (λ l f. subst (λ (x : ℕ). Member r.head x) same (own l (on r S) f), idle_kept_headed rs S (sym (ap (pass_by on rs) same) ∙ e))
    where
      same : fire r S ≡ S
      same = subset_antisym (λ k m. subst (λ (x : ℕ). Member k x) e (pass_grows rs (fire r S) k m)) (fire_grows r S)

      own : Headed r → (b : Bool) → b ≡ true → Member r.head (cond b (union S (single r.head)) S)
      own l true f = union_right S (single r.head) r.head (single_own r.head l)
      own l false f = absurd (true≢false (sym f))

  pub idle_kept : (rs : List Rule) → Every Headed rs → (S : ℕ) → pass_by on rs S ≡ S → KeptBy S rs
  idle_kept rs h S e =
      every_imp₂ Headed (λ r. Headed r → on r S ≡ true → Member r.head S) (λ r. on r S ≡ true → Member r.head S) (λ r l f. f l) rs h
      (idle_kept_headed rs S e)

  times_grows : (n : ℕ) (rs : List Rule) (S : ℕ) → Subset S (times n (pass_by on rs) S)
  unfolding times
  times_grows zero rs S k m = m
  times_grows (suc n) rs S k m = times_grows n rs (pass_by on rs S) k (pass_grows rs S k m)

  times_within : (Q : ℕ → Type 0) (n : ℕ) (rs : List Rule) (S : ℕ) → ((k : ℕ) → Member k S → Q k) → Every (KeepsHeaded Q) rs
      → (k : ℕ) → Member k (times n (pass_by on rs) S) → Q k
  unfolding times
  times_within Q zero rs S h_s h = h_s
  times_within Q (suc n) rs S h_s h = times_within Q n rs (pass_by on rs S) (pass_within Q rs S h_s h) h

  -- as many passes as heads are lacking, and one more adds nothing
  times_idle : (n : ℕ) (rs : List Rule) (S : ℕ) → lacking rs S ≤ n → pass_by on rs (times n (pass_by on rs) S) ≡ times n (pass_by on rs) S
  unfolding times
  times_idle zero rs S h = go (pass_falls rs S)
    where
      go : (pass_by on rs S ≡ S) ⊎ (lacking rs (pass_by on rs S) < lacking rs S) → pass_by on rs S ≡ S
      go (inl e) = e
      go (inr l) = absurd (omega arith)
  times_idle (suc n) rs S h = go (pass_falls rs S) (λ l. times_idle n rs (pass_by on rs S) l)
    where
      go : (pass_by on rs S ≡ S) ⊎ (lacking rs (pass_by on rs S) < lacking rs S)
          → (lacking rs (pass_by on rs S) ≤ n → pass_by on rs (times n (pass_by on rs) (pass_by on rs S)) ≡ times n (pass_by on rs) (pass_by on rs S))
          → pass_by on rs (times n (pass_by on rs) (pass_by on rs S)) ≡ times n (pass_by on rs) (pass_by on rs S)
      go (inl e) ih = subst (λ (x : ℕ). pass_by on rs x ≡ x) (sym (ap (times n (pass_by on rs)) e ∙ times_fixed n (pass_by on rs) S e)) e
      go (inr l) ih = ih (omega arith)

  -- ---- what a loop over passes needs

  closure_by-idle : (rs : List Rule) (C : ℕ) → pass_by on rs (closure_by on rs C) ≡ closure_by on rs C
  unfolding closure_by
  closure_by-idle rs C = times_idle _ rs C (lacking_most rs C)

  -- a pass does not change what is reached
  pub closure_by-pass : (rs : List Rule) (S : ℕ) → closure_by on rs (pass_by on rs S) ≡ closure_by on rs S
  unfolding closure_by
  closure_by-pass rs S = sym (times_in _ (pass_by on rs) S) ∙ times_out _ (pass_by on rs) S ∙ closure_by-idle rs S

  -- it is reached with the first pass that adds nothing
  pub closure_by-fixed : (rs : List Rule) (S : ℕ) → pass_by on rs S ≡ S → closure_by on rs S ≡ S
  unfolding closure_by
  closure_by-fixed rs S e = times_fixed _ (pass_by on rs) S e

  -- the three laws of a closure
  pub closure_by-grows : (rs : List Rule) (C : ℕ) → Subset C (closure_by on rs C)
  unfolding closure_by
  closure_by-grows rs C = times_grows _ rs C

  pub closure_by-kept_headed : (rs : List Rule) (C : ℕ)
      → Every (λ r. Headed r → on r (closure_by on rs C) ≡ true → Member r.head (closure_by on rs C)) rs
  closure_by-kept_headed rs C = idle_kept_headed rs (closure_by on rs C) (closure_by-idle rs C)

  pub closure_by-kept : (rs : List Rule) → Every Headed rs → (C : ℕ) → KeptBy (closure_by on rs C) rs
  closure_by-kept rs h C = idle_kept rs h (closure_by on rs C) (closure_by-idle rs C)

  pub closure_by-within_headed : (Q : ℕ → Type 0) (rs : List Rule) (C : ℕ) → ((k : ℕ) → Member k C → Q k) → Every (KeepsHeaded Q) rs
      → (k : ℕ) → Member k (closure_by on rs C) → Q k
  unfolding closure_by
  closure_by-within_headed Q rs C = times_within Q _ rs C

  pub closure_by-within : (Q : ℕ → Type 0) (rs : List Rule) (C : ℕ) → ((k : ℕ) → Member k C → Q k) → Every (Keeps Q) rs
      → (k : ℕ) → Member k (closure_by on rs C) → Q k
  closure_by-within Q rs C h q = closure_by-within_headed Q rs C h (every_imp (Keeps Q) (KeepsHeaded Q) (λ r k _. k) rs q)
