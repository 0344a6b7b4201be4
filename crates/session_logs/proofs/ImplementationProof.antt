-- Two implementations' logs held against each other. Assumes nothing.
use mathlib.Core.Path.{◌∙◌, ◌≡◌, ap, ap₂, refl, subst, sym}
use mathlib.Core.Logic.{◌≢◌, ◌⊎◌, inl, inr}
use mathlib.Core.List.{List, flat_map, map}
use mathlib.Core.Option.{Option, none, some}
use Prim.Native.Nat.{suc, ℕ}
use lib.ListN.{take}
use Rattle.lists.specs.Runs.{Turn}
use Rattle.validation.specs.Unless.{given, withheld}
use Rattle.rounds.specs.Moves.{Move}
use Rattle.rounds.specs.Rounds.{Outcome}
use Rattle.logs.specs.Comparison.{compared, divergence}
use Rattle.logs.specs.Entries.{Entry, write_entry}
use Rattle.logs.specs.LogForm.{SoundLog, UnsoundLog, Whole}
use Rattle.logs.specs.Theorems.{Compares}
use Rattle.logs.proofs.ComparisonLaws.{compared_given, compared_same, compares}
use Rattle.logs.proofs.DivergenceLaws.{divergence_same, divergence_taken, none≢some}
use Rattle.session_logs.specs.Implementations.{BreaksBy, ImplementationsCompared, Meets, Said, said_of}
use Rattle.session_logs.specs.SessionLogs.{log_of}
use Rattle.session_logs.proofs.BlameProof.{blame}
use Rattle.session_logs.proofs.NormalLaws.{log_entries, normal, take_map}
use Rattle.session_logs.proofs.SaidLaws.{log_said, said_entry}

-- what two implementations say alike they log alike
same_log : (ts us : List (Turn Move Outcome)) → said_of ts ≡ said_of us → log_of ts ≡ log_of us
same_log ts us e = log_said ts ∙ ap (λ (xs : List Said). flat_map write_entry (map said_entry xs)) e ∙ sym (log_said us)

-- of any three lists: where the first two part at k, one of them is not the third up to there
one_breaks : (xs ys zs : List Said) (k : ℕ) → divergence (map normal xs) (map normal ys) ≡ some k
    → (take (suc k) xs ≢ take (suc k) zs) ⊎ (take (suc k) ys ≢ take (suc k) zs)
one_breaks xs ys zs k e = go (divergence (first xs) (first zs)) refl
  where
    first : List Said → List Entry
    first ws = map normal (take (suc k) ws)

    parted : divergence (first xs) (first ys) ≡ some k
    parted =
        ap₂ divergence (sym (take_map normal (suc k) xs)) (sym (take_map normal (suc k) ys))
        ∙ divergence_taken (map normal xs) (map normal ys) k e

    go : (o : Option ℕ) → divergence (first xs) (first zs) ≡ o → (take (suc k) xs ≢ take (suc k) zs) ⊎ (take (suc k) ys ≢ take (suc k) zs)
    go none d = inr (λ i. none≢some k (sym d ∙ ap (λ (ws : List Said). divergence (first xs) (map normal ws)) (sym i) ∙ parted))
    go (some j) d =
        inl (λ i. none≢some j (sym (divergence_same (first zs)) ∙ ap (λ (ws : List Said). divergence (map normal ws) (first zs)) (sym i) ∙ d))

module _ (right : List (Turn Move Outcome)) (sound : SoundLog (log_of right)) where
  meets_sound : (ts : List (Turn Move Outcome)) → Meets right ts → SoundLog (log_of ts)
  meets_sound ts m = subst SoundLog (sym (same_log ts right m)) sound

  part : (ts us : List (Turn Move Outcome)) (k : ℕ) → compared (log_of ts) (log_of us) ≡ given (some k)
      → BreaksBy right (suc k) ts ⊎ BreaksBy right (suc k) us
  part ts us k e =
      one_breaks (said_of ts) (said_of us) (said_of right) k
      (ap₂ divergence (sym (log_entries ts)) (sym (log_entries us)) ∙ compared_given (log_of ts) (log_of us) (some k) e)

  refusal : (ts us : List (Turn Move Outcome)) (n : ℕ) → compared (log_of ts) (log_of us) ≡ withheld n → (Meets right ts → ⊥) ⊎ (Meets right us → ⊥)
  refusal ts us n e = go (c.only n e)
    where
      c : Compares (log_of ts) (log_of us) (compared (log_of ts) (log_of us))
      c = compares (log_of ts) (log_of us)

      ten : (Whole (log_of ts) → ⊥) ⊎ (SoundLog (log_of ts) × (Whole (log_of us) → ⊥)) → (Meets right ts → ⊥) ⊎ (Meets right us → ⊥)
      ten (inl h) = inl (λ m. h (meets_sound ts m).whole)
      ten (inr (s, h)) = inr (λ m. h (meets_sound us m).whole)

      eleven : UnsoundLog (log_of ts) ⊎ (SoundLog (log_of ts) × UnsoundLog (log_of us)) → (Meets right ts → ⊥) ⊎ (Meets right us → ⊥)
      eleven (inl h) = inl (λ m. h.broken ((meets_sound ts m).each h.place h.there))
      eleven (inr (s, h)) = inr (λ m. h.broken ((meets_sound us m).each h.place h.there))

      go : (n ≡ 10) ⊎ (n ≡ 11) → (Meets right ts → ⊥) ⊎ (Meets right us → ⊥)
      go (inl i) = ten (c.ten.0 (e ∙ ap withheld i))
      go (inr i) = eleven (c.eleven.0 (e ∙ ap withheld i))

  pub implementations_compared : (ts us : List (Turn Move Outcome)) → ImplementationsCompared right ts us
  implementations_compared ts us = record {
    agree = λ m n. ap₂ compared (same_log ts right m) (same_log us right n) ∙ compared_same (log_of right) sound;
    part = part ts us;
    answer = blame right ts us;
    refusal = refusal ts us;
  }

  -- the first implementation is right
  pub ours : (us : List (Turn Move Outcome)) (k : ℕ) → compared (log_of right) (log_of us) ≡ given (some k) → BreaksBy right (suc k) us
  ours us k e = go (part right us k e)
    where
      go : BreaksBy right (suc k) right ⊎ BreaksBy right (suc k) us → BreaksBy right (suc k) us
      go (inl b) = absurd (b refl)
      go (inr b) = b
