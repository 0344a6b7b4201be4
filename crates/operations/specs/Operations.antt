-- Document 02, R-5: lists of openings and rounds over one list of slots. Assumes nothing.
use Rattle.std.specs.Prelude.{◌≡◌, List, ◌<◌, ◌^◌, ℕ}
use Rattle.std.proofs.Math.Option.{Option}
use Rattle.encoding.specs.LittleEndian.{Bytes}
use Rattle.lists.specs.Lists.{Every}
use Rattle.lists.specs.Runs.{Turn, run}
use Rattle.rounds.specs.Moves.{Move}
use Rattle.rounds.specs.Refusals.{Refusal}
use Rattle.rounds.specs.Rounds.{Answer}
use Rattle.slots.specs.Openings.{Reply, open_at}
use Rattle.slots.specs.RoundsAt.{round_at}
use Rattle.slots.specs.Slots.{Slot, vacant}

-- an opening at a slot for an owner and a request, or a round at a slot under a policy of its own
pub data Operation : Type 0 where
  opens : (slot owner request : ℕ) → Operation
  plays : (policy : List ℕ) (slot : ℕ) (takes : Move) → Operation

-- which slot it names
abbrev pub named : Operation → ℕ
named (opens i o r) = i
named (plays bytes i m) = i

-- the refusal of an opening, if there is one, or a round's answer
pub data Answered : Type 0 where
  opening : Option Refusal → Answered
  round : Answer → Answered

abbrev pub replied : {A : Type 0} → (A → Answered) → Reply A → Reply Answered
replied f g = record { answer = f g.answer; table = g.table }

-- of an operation on a list
abbrev pub operate : List Slot → Operation → Reply Answered
operate xs (opens i o r) = replied opening (open_at xs i o r)
operate xs (plays bytes i m) = replied round (round_at bytes xs i m)

-- one operation of a list, refused or not: what it was, what it answered, and the slots after it
abbrev pub Step : Type 0
Step = Turn Operation (Reply Answered)

-- "any list of openings and rounds": each finds the slots as the one before left them
abbrev pub steps_of : List Slot → List Operation → List Step
steps_of = run operate (λ (g : Reply Answered). g.table)

-- a policy is a list of bytes, and a shown set a 16-bit number
abbrev pub Fitting : Operation → Type 0
Fitting (opens i o r) = Unit {0}
Fitting (plays bytes i m) = Bytes bytes × (m.shows < 2 ^ 16)

-- "an all-empty list"
abbrev pub AllEmpty : List Slot → Type 0
AllEmpty xs = Every (λ x. x ≡ vacant) xs
