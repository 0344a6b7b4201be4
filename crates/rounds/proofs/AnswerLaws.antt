-- What the ending of a round says of the sets shown and declined. Assumes nothing.
use mathlib.Core.Path.{◌∙◌, ◌≡◌, ap, refl, sym}
use mathlib.Core.Logic.{◌≢◌, ◌⊎◌, inl, inr}
use mathlib.Core.Bool.{Bool, false, true, true≢false}
use mathlib.Core.Option.{Option, none, some}
use Prim.Native.Nat.{◌<◌, ◌^◌, ℕ}
use native.Mathlib.Omega.{arith}
use Rattle.lists.specs.Lists.{Every}
use Rattle.atoms.specs.Sets.{Member, Subset, difference, empty, union}
use Rattle.atoms.proofs.SetLaws.{difference_iff, inhabited, none_in_empty, union_empty}
use Rattle.atoms.proofs.SizeLaws.{low_lt}
use Rattle.rules.specs.Policy.{Policy}
use Rattle.rules.specs.Unlocking.{unlocks}
use Rattle.disclosure.proofs.DisclosureLaws.{Low, askable_credential, askable_iff, disclosable_adds}
use Rattle.disclosure.specs.Disclosure.{Askable, askable, disclosable}
use Rattle.preference.specs.Question.{Preferred, Question, chosen, no_question, opens_with}
use Rattle.preference.specs.Theorems.{PreferredOf}
use Rattle.preference.proofs.TheoremsProof as preference
use Rattle.rounds.specs.Endings.{Ending, ask, conclude, deny, ending, grant, obtainable}

-- two constructors were said to be equal
pub clash : {A : Type 0} → ◌≡◌ {A = ℕ} 0 1 → A
clash z = absurd (omega arith)

-- ---- the ending, of a policy whose disclosure heads are credentials

-- A way to unlock the service: a set of disclosable credentials, none of them shown or declined, that unlocks it beside those shown; by the tests.
pub record Way (pol : Policy) (r P N : ℕ) (q : Question) : Type 0 where
  pub disclosed : Subset q.asks (disclosable pol P)
  pub unshown : (k : ℕ) → Member k q.asks → Member k P → ⊥
  pub undeclined : (k : ℕ) → Member k q.asks → Member k N → ⊥
  pub opens : unlocks pol r (union P q.asks) ≡ true

module _ (pol : Policy) (low : Every Low pol.disclosure) (r P N : ℕ) where
  pub record Obtainable (k : ℕ) : Type 0 where
    pub disclosed : Member k (disclosable pol P)
    pub askable_one : Member k (askable pol)
    pub below_16 : k < 16
    pub not_shown : Member k P → ⊥
    pub not_declined : Member k N → ⊥

  -- everything disclosable
  abbrev E : ℕ
  E = disclosable pol P

  D : ℕ
  D = obtainable pol P N

  D_obtainable : (k : ℕ) → Member k D → Obtainable k
  unfolding D
  D_obtainable k m = record {
    disclosed = g.0;
    askable_one = (askable_iff pol low k).1 a;
    below_16 = let l = askable_credential pol low k a in omega arith;
    not_shown = g.1;
    not_declined = h.1;
  }
    where
      h : Member k (difference E P) × (Member k N → ⊥)
      h = (difference_iff (difference E P) N k).0 m

      g : Member k E × (Member k P → ⊥)
      g = (difference_iff E P k).0 h.0

      go : Member k P ⊎ Askable pol k → Askable pol k
      go (inl i) = absurd (g.1 i)
      go (inr i) = i

      a : Askable pol k
      a = go (disclosable_adds pol P k g.0)

  way_asks : (q : Question) → Way pol r P N q → Subset q.asks D
  unfolding D
  way_asks q w k i = (difference_iff (difference E P) N k).1 ((difference_iff E P k).1 (w.disclosed k i, w.unshown k i), w.undeclined k i)

  pub way_within : (q : Question) → Subset q.asks (obtainable pol P N) → opens_with pol r P q ≡ true → Way pol r P N q
  unfolding D
  way_within q f e = record {
    disclosed = λ k i. (D_obtainable k (f k i)).disclosed;
    unshown = λ k i. (D_obtainable k (f k i)).not_shown;
    undeclined = λ k i. (D_obtainable k (f k i)).not_declined;
    opens = e;
  }

  -- where the shown ones unlock the service, asking nothing does
  pub way_empty : unlocks pol r P ≡ true → Way pol r P N no_question
  way_empty e = record {
    disclosed = λ k i. absurd (none_in_empty k i);
    unshown = λ k i. absurd (none_in_empty k i);
    undeclined = λ k i. absurd (none_in_empty k i);
    opens = ap (unlocks pol r) (union_empty P) ∙ e;
  }

  -- deny: there is no way
  pub record NoWay : Type 0 where
    pub locked : unlocks pol r P ≡ false
    pub none_left : (q : Question) → Way pol r P N q → ⊥

  -- a question: the first in the order of preference of the ways
  pub record FirstWay (q : Question) : Type 0 where
    pub locked : unlocks pol r P ≡ false
    pub way : Way pol r P N q
    pub first : (x : Question) → Way pol r P N x → x ≢ q → Preferred pol q x
    pub some_one : (k : ℕ) × Member k q.asks
    pub all : (k : ℕ) → Member k q.asks → Obtainable k

  -- what each ending says
  abbrev pub Says : Ending → Type 0
  Says grant = unlocks pol r P ≡ true
  Says deny = NoWay
  Says (ask q) = FirstWay q

  -- D is a set of credentials
  D_lt : D < 2 ^ 16
  D_lt = low_lt D 16 (λ k m. (D_obtainable k m).below_16)

  none_chosen : unlocks pol r P ≡ false → chosen pol r P D ≡ none → NoWay
  none_chosen e f = record {
    locked = e;
    none_left = λ q w. true≢false (sym w.opens ∙ ((preference.theorems).denied pol r P D D_lt).0 f q (way_asks q w));
  }

  first_chosen : unlocks pol r P ≡ false → (q : Question) → chosen pol r P D ≡ some q → FirstWay q
  unfolding D
  first_chosen e q f = record {
    locked = e;
    way = way_within q F.inside F.unlocking;
    first = λ x w n. F.first x (way_asks x w) w.opens n;
    some_one = inhabited q.asks (λ z. true≢false (sym F.unlocking ∙ ap (unlocks pol r) (idle z) ∙ e));
    all = λ k m. D_obtainable k (F.inside k m);
  }
    where
      F : PreferredOf pol r P D q
      F = ((preference.theorems).asked pol r P D D_lt q).0 f

      idle : q.asks ≡ empty → union P q.asks ≡ P
      idle z = ap (λ (x : ℕ). union P x) z ∙ union_empty P

  pub ending_says : Says (ending pol r P N)
  unfolding ending D
  ending_says = go (unlocks pol r P) refl (chosen pol r P D) refl
    where
      go : (b : Bool) → unlocks pol r P ≡ b → (o : Option Question) → chosen pol r P D ≡ o → Says (conclude b o)
      go true e o f = e
      go false e none f = none_chosen e f
      go false e (some q) f = first_chosen e q f

  -- the first of the ways is asked
  pub ending_is_ask : unlocks pol r P ≡ false → (q : Question) → Way pol r P N q
      → ((x : Question) → Way pol r P N x → x ≢ q → Preferred pol q x) → ending pol r P N ≡ ask q
  unfolding ending D
  ending_is_ask e q w f =
      ap (λ (b : Bool). conclude b (chosen pol r P D)) e
      ∙ ap (conclude false) (((preference.theorems).asked pol r P D D_lt q).1 first)
    where
      first : PreferredOf pol r P D q
      first = record { inside = way_asks q w; unlocking = w.opens; first = λ x g t n. f x (way_within x g t) n }
