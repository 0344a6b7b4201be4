-- Where two logs part, one of the implementations answered otherwise than document 01 says. Assumes nothing.
use mathlib.Core.Path.{◌∙◌, ◌≡◌, ap, ap₂, refl, sym}
use mathlib.Core.Logic.{◌≢◌, ◌⊎◌, inl, inr}
use mathlib.Core.Bool.{Bool, cond, false, true}
use mathlib.Core.List.{List, [], ◌∷◌, map}
use mathlib.Core.Option
use mathlib.Core.Option.{Option, none, some}
use Prim.Native.Nat.{suc, ℕ}
use lib.ListN.{take}
use Rattle.encoding.specs.LittleEndian.{bytes_of, little_endian}
use Rattle.lists.specs.Runs.{Turn}
use Rattle.validation.specs.Unless.{given}
use Rattle.rounds.specs.Endings.{Ending}
use Rattle.rounds.specs.Moves.{Move}
use Rattle.rounds.specs.Rounds.{Outcome}
use Rattle.demands.specs.Lists.{question_in}
use Rattle.logs.specs.Agreement.{Agree, agree}
use Rattle.logs.specs.Comparison.{compared, divergence}
use Rattle.logs.specs.Entries.{Entry, read_entry, write_entry}
use Rattle.logs.proofs.AgreeLaws.{agree_means, tested, through}
use Rattle.logs.proofs.ComparisonLaws.{compared_given}
use Rattle.logs.proofs.DivergenceLaws.{divergence_taken, none≢some}
use Rattle.session_logs.specs.Implementations.{AnswersOtherwise, Said, endings_of, said_of}
use Rattle.session_logs.specs.RoundRecords.{answer_number}
use Rattle.session_logs.specs.SessionLogs.{log_of}
use Rattle.session_logs.proofs.NormalLaws.{log_entries, normal, take_map}

answer_is : (x : Said) → (normal x).answer ≡ answer_number x.ended
unfolding normal read_entry write_entry bytes_of
answer_is x = refl

asked_is : (x : Said) → (normal x).asked ≡ little_endian (bytes_of 2 (question_in x.ended).asks)
unfolding normal read_entry write_entry bytes_of
asked_is x = refl

same_agree : (x y : Said) → x.ended ≡ y.ended → Agree (normal x) (normal y)
same_agree x y e = (agree_means (normal x) (normal y)).1 (
  answer_is x ∙ ap answer_number e ∙ sym (answer_is y),
  asked_is x ∙ ap (λ (d : Ending). little_endian (bytes_of 2 (question_in d).asks)) e ∙ sym (asked_is y),
)

same_endings : (xs ys : List Said) → endings_of xs ≡ endings_of ys → divergence (map normal xs) (map normal ys) ≡ none
unfolding divergence
same_endings [] [] e = refl
same_endings [] (y ∷ ys) e = let z : ◌≡◌ {A = Option ℕ} none (some 0) = cc in absurd (none≢some 0 z)
same_endings (x ∷ xs) [] e = let z : ◌≡◌ {A = Option ℕ} none (some 0) = cc in absurd (none≢some 0 z)
same_endings (x ∷ xs) (y ∷ ys) e =
    let one : x.ended ≡ y.ended = cc in
    let more : endings_of xs ≡ endings_of ys = cc in
    rw ((tested (normal x) (normal y)).1 (same_agree x y one), same_endings xs ys more)

agreed : (x y : Entry) (o : Option ℕ) → cond (agree x y) (Option.map suc o) (some 0) ≡ none → Agree x y × (o ≡ none)
agreed x y o e = go (agree x y) refl o e
  where
    go : (b : Bool) → agree x y ≡ b → (o : Option ℕ) → cond b (Option.map suc o) (some 0) ≡ none → Agree x y × (o ≡ none)
    go true i none e = ((tested x y).0 i, refl)
    go true i (some k) e = absurd (none≢some (suc k) (sym e))
    go false i o e = absurd (none≢some 0 (sym e))

through_all : (xs ys zs : List Entry) → divergence xs ys ≡ none → divergence ys zs ≡ none → divergence xs zs ≡ none
unfolding divergence
through_all [] [] zs e f = f
through_all [] (y ∷ ys) zs e f = absurd (none≢some 0 (sym e))
through_all (x ∷ xs) [] zs e f = absurd (none≢some 0 (sym e))
through_all (x ∷ xs) (y ∷ ys) [] e f = absurd (none≢some 0 (sym f))
through_all (x ∷ xs) (y ∷ ys) (z ∷ zs) e f =
    let (a, d) = agreed x y (divergence xs ys) e in
    let (b, h) = agreed y z (divergence ys zs) f in
    rw ((tested x z).1 (through x y z a b), through_all xs ys zs d h)

one_answers : (xs ys zs : List Said) (k : ℕ) → divergence (map normal xs) (map normal ys) ≡ some k
    → (endings_of (take (suc k) xs) ≢ endings_of (take (suc k) zs)) ⊎ (endings_of (take (suc k) ys) ≢ endings_of (take (suc k) zs))
one_answers xs ys zs k e = go (divergence (first xs) (first zs)) refl
  where
    first : List Said → List Entry
    first ws = map normal (take (suc k) ws)

    parted : divergence (first xs) (first ys) ≡ some k
    parted =
        ap₂ divergence (sym (take_map normal (suc k) xs)) (sym (take_map normal (suc k) ys))
        ∙ divergence_taken (map normal xs) (map normal ys) k e

    go : (o : Option ℕ) → divergence (first xs) (first zs) ≡ o
        → (endings_of (take (suc k) xs) ≢ endings_of (take (suc k) zs)) ⊎ (endings_of (take (suc k) ys) ≢ endings_of (take (suc k) zs))
    go none d =
        inr (λ i. none≢some k (sym (through_all (first xs) (first zs) (first ys) d (same_endings (take (suc k) zs) (take (suc k) ys) (sym i))) ∙ parted))
    go (some j) d = inl (λ i. none≢some j (sym (same_endings (take (suc k) xs) (take (suc k) zs) i) ∙ d))

pub blame : (right ts us : List (Turn Move Outcome)) (k : ℕ) → compared (log_of ts) (log_of us) ≡ given (some k)
    → AnswersOtherwise right (suc k) ts ⊎ AnswersOtherwise right (suc k) us
blame right ts us k e =
    one_answers (said_of ts) (said_of us) (said_of right) k
    (ap₂ divergence (sym (log_entries ts)) (sym (log_entries us)) ∙ compared_given (log_of ts) (log_of us) (some k) e)
