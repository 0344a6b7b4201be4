-- Document 02, R-5: the rounds at one slot, of a list of operations. Assumes nothing.
use Rattle.std.specs.Prelude.{◌≡◌, ◌≢◌, cond, List, [], ◌++◌, ◌∷◌, map, ℕ, eqb}
use Rattle.std.proofs.Math.Option.{none}
use Rattle.encoding.specs.LittleEndian.{Bytes}
use Rattle.lists.specs.Lists.{Every}
use Rattle.lists.specs.Runs.{Turn}
use Rattle.validation.specs.Unless.{given}
use Rattle.form.specs.WrittenForm.{WellFormed}
use Rattle.rounds.specs.Moves.{Move}
use Rattle.rounds.specs.Rounds as R
use Rattle.rounds.specs.Rounds.{Answer, Outcome}
use Rattle.rounds.specs.Sessions.{Session, opened}
use Rattle.demands.specs.Demand3.{Demand3}
use Rattle.demands.specs.Promises.{AlwaysSound, Visit, under, visits_of}
use Rattle.slots.specs.Openings.{Reply}
use Rattle.slots.specs.Slots.{Slot, held, slot_at, vacant}
use Rattle.operations.specs.Operations.{Answered, Fitting, Operation, Step, opening, opens, plays, round, steps_of}

-- the session that a slot holds, if it holds one
abbrev pub session_in : Slot → Session
session_in vacant = opened 0
session_in (held o s) = s

-- a round at slot i as a round of a session: what it took, what it answered, and the session that the slot holds after it
abbrev pub add_round_at : ℕ → Operation → Answered → List Slot → List (Turn Visit Outcome) → List (Turn Visit Outcome)
add_round_at i (opens k o r) a ys ts = ts
add_round_at i (plays bytes k m) (opening f) ys ts = ts
add_round_at i (plays bytes k m) (round a) ys ts =
    cond (eqb k i) (record { takes = under bytes m; gives = record { answer = a; session = session_in (slot_at ys i) } } ∷ ts) ts

-- the rounds at slot i among some steps, each with the policy that it came with
unfoldable pub rounds_at : ℕ → List Step → List (Turn Visit Outcome)
rounds_at i [] = []
rounds_at i (t ∷ ts) = add_round_at i t.takes t.gives.answer t.gives.table (rounds_at i ts)

pub record RoundsAtMean : Type 0 where
  pub none : (i : ℕ) → rounds_at i [] ≡ []
  -- a round at the slot is one, with its own policy, move and answer, and the session that the slot then holds
  pub there : (i : ℕ) (bytes : List ℕ) (m : Move) (a : Answer) (ys : List Slot) (o : ℕ) (s : Session) (ts : List Step) → slot_at ys i ≡ held o s
      → rounds_at i (record { takes = plays bytes i m; gives = record { answer = round a; table = ys } } ∷ ts)
      ≡ record { takes = under bytes m; gives = record { answer = a; session = s } } ∷ rounds_at i ts
  -- one elsewhere is none, and no opening is
  pub elsewhere : (i k : ℕ) → k ≢ i → (bytes : List ℕ) (m : Move) (g : Reply Answered) (ts : List Step)
      → rounds_at i (record { takes = plays bytes k m; gives = g } ∷ ts) ≡ rounds_at i ts
  pub no_opening : (i k o r : ℕ) (g : Reply Answered) (ts : List Step) → rounds_at i (record { takes = opens k o r; gives = g } ∷ ts) ≡ rounds_at i ts

-- ---- "the rounds at one seat from an opening there that was not refused to the next such"

-- no opening at slot i that was not refused
abbrev pub NotOpened : ℕ → Step → Type 0
NotOpened i t = (o r : ℕ) → t.takes ≡ opens i o r → t.gives.answer ≢ opening none

-- a round at slot i has this policy
abbrev pub OnePolicy : List ℕ → ℕ → Step → Type 0
OnePolicy bytes i t = (b : List ℕ) (m : Move) → t.takes ≡ plays b i m → b ≡ bytes

-- the rounds at slot i as a list of rounds of document 01, and what they took
abbrev pub turns_at : ℕ → List Step → List (Turn Move Outcome)
turns_at i ts = map (λ (t : Turn Visit Outcome). record { takes = t.takes.takes; gives = t.gives }) (rounds_at i ts)

abbrev pub moves_at : ℕ → List Step → List Move
moves_at i ts = map (λ (t : Turn Move Outcome). t.takes) (turns_at i ts)

-- the rounds at slot i among the steps ts, which come after an opening there for the request r, are those of one session
pub record OneSession (i r : ℕ) (ts : List Step) : Type 0 where
  pub opened_one : R.opening r ≡ given (opened r)
  -- under any policies: each gets the session that the one before gave back
  pub rounds : rounds_at i ts ≡ visits_of (opened r) (map (λ (t : Turn Visit Outcome). t.takes) (rounds_at i ts))
  -- "Every session that opening and rounds give is sound, also when policies are changed between rounds. The longest sessions have 17 rounds."
  pub sound : AlwaysSound (opened r) (map (λ (t : Turn Visit Outcome). t.takes) (rounds_at i ts))
  -- "the client's bounds hold": under one policy all of demand 3
  pub demand3 : (bytes : List ℕ) → Bytes bytes → WellFormed bytes → Every (OnePolicy bytes i) ts
      → Demand3 bytes r (opened r) (moves_at i ts) (turns_at i ts)

-- Of a whole list of operations, on any list of slots, however it is cut: some steps, an opening t at slot i that was not refused, steps with no further
-- such opening there, and all others. What happens at other slots is left open.
abbrev pub SlotsMeetDemand3 : Type 0
SlotsMeetDemand3 =
    (xs : List Slot) (ops : List Operation) → Every Fitting ops → (before : List Step) (t : Step) (during after : List Step)
    → steps_of xs ops ≡ before ++ (t ∷ (during ++ after)) → (i o r : ℕ) → t.takes ≡ opens i o r → t.gives.answer ≡ opening none
    → Every (NotOpened i) during → OneSession i r during
