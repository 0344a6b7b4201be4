-- Runs: their inputs, their steps, their last one. Assumes nothing.
use mathlib.Core.Path.{◌∙◌, ◌≡◌, ap, refl, sym}
use mathlib.Core.Logic.{◌↔◌}
use mathlib.Core.List.{List, [], ◌++◌, ◌∷◌, map}
use mathlib.Core.Option.{some}
use Prim.Native.Nat.{suc}
use lib.ListN.{length}
use Rattle.lists.specs.Lists.{Every}
use Rattle.lists.specs.Runs.{Turn, last, reached, run}

pub last_one : {A : Type 0} (xs : List A) (x : A) → last (xs ++ (x ∷ [])) ≡ some x
unfolding last
last_one [] x = refl
last_one (y ∷ []) x = refl
last_one (y ∷ z ∷ xs) x = last_one (z ∷ xs) x

cons_parts : {A : Type 0} (x y : A) (xs ys : List A) → x ∷ xs ≡ y ∷ ys → (x ≡ y) × (xs ≡ ys)
cons_parts x y xs ys e = ((cc), (cc))

-- ---- what a further step begins with

module _ {S I O : Type 0} (next : O → S) where
  -- after one step it no longer matters with what the run began
  reached_any : (s r : S) (t : Turn I O) (ts : List (Turn I O)) → reached next s (last (t ∷ ts)) ≡ reached next r (last (t ∷ ts))
  unfolding last
  reached_any s r t [] = refl
  reached_any s r t (u ∷ ts) = reached_any s r u ts

  pub reached_next : (s : S) (t : Turn I O) (ts : List (Turn I O)) → reached next s (last (t ∷ ts)) ≡ reached next (next t.gives) (last ts)
  unfolding last
  reached_next s t [] = refl
  reached_next s t (u ∷ ts) = reached_any s (next t.gives) u ts

-- ---- runs

module _ {S I O : Type 0} (step : S → I → O) (next : O → S) where
  pub run_more : (s : S) (t : Turn I O) (ts : List (Turn I O)) (xs : List I)
      → (t ∷ ts ≡ run step next s (t.takes ∷ xs)) ↔ ((t.gives ≡ step s t.takes) × (ts ≡ run step next (next t.gives) xs))
  unfolding run
  run_more s t ts xs = (
    λ e.
        let h = cons_parts t (record { takes = t.takes; gives = step s t.takes }) ts (run step next (next (step s t.takes)) xs) e in
        let g : t.gives ≡ step s t.takes = ap (λ (u : Turn I O). u.gives) h.0 in
        (g, h.1 ∙ ap (λ (o : O). run step next (next o) xs) (sym g)),
    λ (g, h). ap (◌∷◌ t) h ∙ ap (λ (o : O). record { takes = t.takes; gives = o } ∷ run step next (next o) xs) g,
  )

  pub run_inputs : (s : S) (xs : List I) → map (λ (t : Turn I O). t.takes) (run step next s xs) ≡ xs
  unfolding run
  run_inputs s [] = refl
  run_inputs s (x ∷ xs) = ap (◌∷◌ x) (run_inputs (next (step s x)) xs)

  pub run_length : (s : S) (xs : List I) → length (run step next s xs) ≡ length xs
  unfolding run
  run_length s [] = refl
  run_length s (x ∷ xs) = ap suc (run_length (next (step s x)) xs)

  pub run_later : (s : S) (xs : List I) (x : I) → run step next s (xs ++ (x ∷ []))
      ≡ run step next s xs ++ (record { takes = x; gives = step (reached next s (last (run step next s xs))) x } ∷ [])
  unfolding run last
  run_later s [] x = refl
  run_later s (y ∷ xs) x =
      let t : Turn I O = record { takes = y; gives = step s y } in
      let ts = run step next (next (step s y)) xs in
      ap (◌∷◌ t) (run_later (next (step s y)) xs x)
      ∙ ap (λ (r : S). t ∷ (ts ++ (record { takes = x; gives = step r x } ∷ []))) (sym (reached_next next s t ts))

  -- what each step keeps, from what it takes, holds after every step
  pub run_every : (Holds : S → Type 0) (Fits : I → Type 0) → ((s : S) (x : I) → Fits x → Holds s → Holds (next (step s x)))
      → (s : S) → Holds s → (xs : List I) → Every Fits xs → Every (λ (t : Turn I O). Holds (next t.gives)) (run step next s xs)
  unfolding run
  run_every Holds Fits keeps s h [] f = tt
  run_every Holds Fits keeps s h (x ∷ xs) f =
      let n = keeps s x f.0 h in
      (n, run_every Holds Fits keeps (next (step s x)) n xs f.1)

-- inputs that are made from others
pub run_map : {S I J O : Type 0} (step : S → J → O) (next : O → S) (f : I → J) (s : S) (xs : List I) → run step next s (map f xs)
    ≡ map (λ (t : Turn I O). record { takes = f t.takes; gives = t.gives }) (run (λ (r : S). λ (x : I). step r (f x)) next s xs)
unfolding run
run_map step next f s [] = refl
run_map step next f s (x ∷ xs) = ap (◌∷◌ (record { takes = f x; gives = step s (f x) })) (run_map step next f (next (step s (f x))) xs)

-- two runs that go side by side: f makes the states of one into those of the other, and g the outputs
pub run_beside : {S T I O P : Type 0} (step : S → I → O) (next : O → S) (step' : T → I → P) (next' : P → T) (f : S → T) (g : O → P)
    → ((s : S) (x : I) → step' (f s) x ≡ g (step s x)) → ((o : O) → next' (g o) ≡ f (next o)) → (s : S) (xs : List I)
    → map (λ (t : Turn I P). t.gives) (run step' next' (f s) xs) ≡ map (λ (t : Turn I O). g t.gives) (run step next s xs)
unfolding run
run_beside step next step' next' f g same on s [] = refl
run_beside {I = I} {P = P} step next step' next' f g same on s (x ∷ xs) =
    ap (λ (o : P). o ∷ map (λ (t : Turn I P). t.gives) (run step' next' (next' o) xs)) (same s x)
    ∙ ap (λ r. g (step s x) ∷ map (λ (t : Turn I P). t.gives) (run step' next' r xs)) (on (step s x))
    ∙ ap (◌∷◌ (g (step s x))) (run_beside step next step' next' f g same on (next (step s x)) xs)
