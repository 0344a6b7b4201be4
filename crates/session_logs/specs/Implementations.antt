-- Document 02, R-1: "Both suppliers' boards write a log, and I hold them against each other." What a comparison says of two implementations of document
-- 01. An implementation is here any list of rounds, each with what it took and what it gave back, be it as document 01 defines it or not; `right` are
-- the rounds that document 01 defines for the policy, the request and the list that both were given. Assumes nothing.
use Rattle.std.specs.Prelude.{◌≡◌, ◌≢◌, ◌⊎◌, List, [], ◌∷◌, map, suc, ℕ, take}
use Rattle.std.proofs.Math.Option.{none, some}
use Rattle.lists.specs.Runs.{Turn}
use Rattle.validation.specs.Unless.{given, withheld}
use Rattle.rounds.specs.Endings.{Ending}
use Rattle.rounds.specs.Moves.{Move}
use Rattle.rounds.specs.Rounds.{Answer, Outcome, ends, refused}
use Rattle.logs.specs.Comparison.{compared}
use Rattle.session_logs.specs.SessionLogs.{log_of}

-- what an implementation says of a round that it accepts: what was shown, how it ended, and the count after it
pub record Said : Type 0 where
  pub takes : Move
  pub ended : Ending
  pub count : ℕ

abbrev pub add_said : Move → Answer → ℕ → List Said → List Said
add_said m (ends e) n xs = record { takes = m; ended = e; count = n } ∷ xs
add_said m (refused f) n xs = xs

-- "Round k is the k-th accepted one."
unfoldable pub said_of : List (Turn Move Outcome) → List Said
said_of [] = []
said_of (t ∷ ts) = add_said t.takes t.gives.answer t.gives.session.count (said_of ts)

-- ts says of all rounds what `right` says
abbrev pub Meets : List (Turn Move Outcome) → List (Turn Move Outcome) → Type 0
Meets right ts = said_of ts ≡ said_of right

-- ts breaks document 01 in round n or before: of rounds 1 to n it does not say what `right` says
abbrev pub BreaksBy : List (Turn Move Outcome) → ℕ → List (Turn Move Outcome) → Type 0
BreaksBy right n ts = take n (said_of ts) ≢ take n (said_of right)

-- how accepted rounds ended: what a comparison of records looks at
abbrev pub endings_of : List Said → List Ending
endings_of xs = map (λ (x : Said). x.ended) xs

-- the same by the endings alone
abbrev pub AnswersOtherwise : List (Turn Move Outcome) → ℕ → List (Turn Move Outcome) → Type 0
AnswersOtherwise right n ts = endings_of (take n (said_of ts)) ≢ endings_of (take n (said_of right))

-- the logs of ts and us
pub record ImplementationsCompared (right ts us : List (Turn Move Outcome)) : Type 0 where
  -- where both meet document 01 they agree
  pub agree : Meets right ts → Meets right us → compared (log_of ts) (log_of us) ≡ given none
  -- where they part at record k, one of the two breaks document 01 in round k + 1 or before
  pub part : (k : ℕ) → compared (log_of ts) (log_of us) ≡ given (some k) → BreaksBy right (suc k) ts ⊎ BreaksBy right (suc k) us
  -- and that by an answer: one that is wrong in its counts alone is not the one
  pub answer : (k : ℕ) → compared (log_of ts) (log_of us) ≡ given (some k) → AnswersOtherwise right (suc k) ts ⊎ AnswersOtherwise right (suc k) us
  -- and where a log is refused, one of the two breaks it
  pub refusal : (n : ℕ) → compared (log_of ts) (log_of us) ≡ withheld n → (Meets right ts → ⊥) ⊎ (Meets right us → ⊥)
