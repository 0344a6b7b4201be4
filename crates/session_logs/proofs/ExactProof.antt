-- Where another's log parts from ours, its answers are right before and not there. Assumes nothing.
use mathlib.Core.Path.{◌∙◌, ◌≡◌, ap, ap₂, refl, sym}
use mathlib.Core.Logic.{◌⊎◌, inl, inr}
use mathlib.Core.Bool.{Bool, cond, false, true}
use mathlib.Core.List.{List, [], ◌∷◌, map}
use mathlib.Core.Option
use mathlib.Core.Option.{Option, none, some}
use Prim.Native.Nat.{suc, zero, ℕ}
use lib.ListN.{take}
use native.Mathlib.Omega.{arith}
use Rattle.lists.specs.Lists.{Every}
use Rattle.lists.specs.Runs.{Turn}
use Rattle.validation.specs.Unless.{given}
use Rattle.rounds.specs.Moves.{Move}
use Rattle.rounds.specs.Rounds.{Outcome}
use Rattle.logs.specs.Agreement.{agree}
use Rattle.logs.specs.Comparison.{compared, divergence}
use Rattle.logs.specs.Entries.{Entry}
use Rattle.logs.proofs.ComparisonLaws.{compared_given}
use Rattle.logs.proofs.DivergenceLaws.{none≢some}
use Rattle.session_logs.specs.Implementations.{AnswersOtherwise, Said, endings_of, said_of}
use Rattle.session_logs.specs.SessionLogs.{log_of}
use Rattle.session_logs.specs.Theorems.{Recordable}
use Rattle.session_logs.proofs.AlikeProof.{Fits, said_fits, same_saids}
use Rattle.session_logs.proofs.BlameProof.{blame}
use Rattle.session_logs.proofs.NormalLaws.{log_entries, normal, take_map}
use Rattle.session_logs.proofs.SaidLaws.{Right, entries_said, said_entry}

-- before they part, two lists agree
divergence_before : (xs ys : List Entry) (k : ℕ) → divergence xs ys ≡ some k → divergence (take k xs) (take k ys) ≡ none
unfolding divergence
divergence_before xs ys zero e = refl
divergence_before [] [] (suc k) e = absurd (none≢some (suc k) e)
divergence_before [] (y ∷ ys) (suc k) e = let z : 0 ≡ suc k = cc in absurd (omega (arith, z))
divergence_before (x ∷ xs) [] (suc k) e = let z : 0 ≡ suc k = cc in absurd (omega (arith, z))
divergence_before (x ∷ xs) (y ∷ ys) (suc k) e = go (agree x y) (divergence xs ys) e (divergence_before xs ys k)
  where
    go : (b : Bool) (o : Option ℕ) → cond b (Option.map suc o) (some 0) ≡ some (suc k)
        → (o ≡ some k → divergence (take k xs) (take k ys) ≡ none)
        → cond b (Option.map suc (divergence (take k xs) (take k ys))) (some 0) ≡ none
    go true none e later = absurd (none≢some (suc k) e)
    go true (some j) e later = let same : j ≡ k = cc in ap (Option.map suc) (later (ap some same))
    go false o e later = let z : 0 ≡ suc k = cc in absurd (omega (arith, z))

every_take : (P : Said → Type 0) (n : ℕ) (xs : List Said) → Every P xs → Every P (take n xs)
every_take P zero xs h = tt
every_take P (suc n) [] h = tt
every_take P (suc n) (x ∷ xs) h = (h.0, every_take P n xs h.1)

-- rounds that document 01 defines fit
fits_said : (xs : List Said) → Every Right (map said_entry xs) → Every Fits xs
fits_said [] h = tt
fits_said (x ∷ xs) h = (h.0.fits, fits_said xs h.1)

pub exactly : (right us : List (Turn Move Outcome)) → Every Right (entries_said right)
    → Every (λ t. Recordable t.takes t.gives) us → (k : ℕ) → compared (log_of right) (log_of us) ≡ given (some k)
    → (endings_of (take k (said_of us)) ≡ endings_of (take k (said_of right))) × AnswersOtherwise right (suc k) us
exactly right us f g k e = (sym before, there (blame right right us k e))
  where
    parted : divergence (map normal (said_of right)) (map normal (said_of us)) ≡ some k
    parted = ap₂ divergence (sym (log_entries right)) (sym (log_entries us)) ∙ compared_given (log_of right) (log_of us) (some k) e

    before : endings_of (take k (said_of right)) ≡ endings_of (take k (said_of us))
    before =
        same_saids (take k (said_of right)) (take k (said_of us)) (every_take Fits k (said_of right) (fits_said (said_of right) f))
        (every_take Fits k (said_of us) (said_fits us g))
        (ap₂ divergence (sym (take_map normal k (said_of right))) (sym (take_map normal k (said_of us)))
        ∙ divergence_before (map normal (said_of right)) (map normal (said_of us)) k parted)

    there : AnswersOtherwise right (suc k) right ⊎ AnswersOtherwise right (suc k) us → AnswersOtherwise right (suc k) us
    there (inl h) = absurd (h refl)
    there (inr h) = h
