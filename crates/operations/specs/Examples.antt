-- Document 02, R-5: lists of openings and rounds, with all that they answer. Assumes nothing.
use Rattle.std.specs.Prelude.{◌≡◌, List, [], ◌++◌, ◌∷◌, map, ℕ, replicate}
use Rattle.std.proofs.Math.Option.{none, some}
use Rattle.lists.specs.Lists.{Every}
use Rattle.lists.specs.Runs.{last, reached}
use Rattle.form.specs.WrittenForm.{at}
use Rattle.rounds.specs.Moves.{showing}
use Rattle.rounds.specs.Endings.{deny, grant}
use Rattle.rounds.specs.Refusals.{number, of_policy}
use Rattle.rounds.specs.Rounds.{ends, refused}
use Rattle.rounds.specs.Sessions.{Phase, Session, closed, denied, granted, opened, waiting}
use Rattle.marked.specs.Marked.{asking, policy_a, turns}
use Rattle.slots.specs.Openings.{Reply}
use Rattle.slots.specs.Slots.{Owns, Slot, held, vacant}
use Rattle.operations.specs.AtSlot.{NotOpened, OnePolicy, OneSession, turns_at}
use Rattle.operations.specs.Operations.{AllEmpty, Answered, Fitting, Operation, Step, operate, opening, opens, plays, round, steps_of}

abbrev pub accepted : Answered
accepted = opening none

-- an opening, or a round, that is refused
abbrev pub turned_away : ℕ → Answered
turned_away n = opening (some (number n))

abbrev pub turned_back : ℕ → Answered
turned_back n = round (refused (number n))

unfoldable pub answers_of : List Slot → List Operation → List Answered
answers_of xs ops = map (λ (t : Step). t.gives.answer) (steps_of xs ops)

unfoldable pub slots_after : List Slot → List Operation → List Slot
slots_after xs ops = reached (λ (g : Reply Answered). g.table) xs (last (steps_of xs ops))

-- ---- four of one owner

-- owners 7, 8 and 9 over five empty slots, with request 16 but once; rounds under the empty policy, which denies
abbrev pub crowd : List Operation
crowd =
    opens 0 7 16
    ∷ opens 1 7 16
    ∷ opens 2 7 16
    ∷ opens 3 7 16
    ∷ opens 4 7 16
    ∷ opens 0 7 16
    ∷ opens 5 7 16
    ∷ opens 5 7 63
    ∷ plays [] 4 (showing 0)
    ∷ plays [] 5 (showing 0)
    ∷ opens 4 8 16
    ∷ plays [] 0 (showing 0)
    ∷ opens 0 9 16
    ∷ plays [] 4 (showing 0)
    ∷ opens 4 7 16
    ∷ plays [] 0 (showing 0)
    ∷ opens 0 7 16
    ∷ []

-- a session for service 16 that the empty policy denied
abbrev pub denied16 : Session
denied16 = record { request = 16; shown = 0; declined = 0; count = 1; phase = closed denied }

-- ---- two slots, each with a session of its own

-- a step, its answer, and the two slots after it
abbrev pub row : Operation → Answered → Slot → Slot → Step
row x a p q = record { takes = x; gives = record { answer = a; table = p ∷ q ∷ [] } }

abbrev pub session : ℕ → ℕ → ℕ → ℕ → Phase → Session
session r P N n ph = record { request = r; shown = P; declined = N; count = n; phase = ph }

abbrev pub asked4 : Session
asked4 = session 16 0 0 1 (waiting (record { asks = 0x0004 }))

abbrev pub asked3 : Session
asked3 = session 16 0 0x0004 2 (waiting (record { asks = 0x0003 }))

abbrev pub granted3 : Session
granted3 = session 16 0x0003 0x0004 3 (closed granted)

abbrev pub denied5 : Session
denied5 = session 16 0x0005 0 1 (closed denied)

abbrev pub denied17 : Session
denied17 = session 17 0 0 1 (closed denied)

abbrev pub before : List Step
before = row (opens 1 7 16) accepted vacant (held 7 (opened 16)) ∷ []

abbrev pub opener : Step
opener = row (opens 0 9 16) accepted (held 9 (opened 16)) (held 7 (opened 16))

-- at slot 0 the rounds of case (a) and one more; at slot 1 a denial, another owner, and rounds under another policy and one that is refused
abbrev pub during : List Step
during =
    row (plays policy_a 0 (showing 0x0000)) (round (asking 0x0004)) (held 9 asked4) (held 7 (opened 16))
    ∷ row (plays policy_a 1 (showing 0x0005)) (round (ends deny)) (held 9 asked4) (held 7 denied5)
    ∷ row (opens 0 8 16) (turned_away 15) (held 9 asked4) (held 7 denied5)
    ∷ row (plays policy_a 0 (showing 0x0000)) (round (asking 0x0003)) (held 9 asked3) (held 7 denied5)
    ∷ row (opens 1 8 17) accepted (held 9 asked3) (held 8 (opened 17))
    ∷ row (plays policy_a 0 (showing 0x0003)) (round (ends grant)) (held 9 granted3) (held 8 (opened 17))
    ∷ row (plays [] 1 (showing 0x0000)) (round (ends deny)) (held 9 granted3) (held 8 denied17)
    ∷ row (plays (0 ∷ []) 1 (showing 0xffff)) (round (refused (of_policy (at 2 0)))) (held 9 granted3) (held 8 denied17)
    ∷ row (plays policy_a 0 (showing 0x0000)) (turned_back 9) (held 9 granted3) (held 8 denied17)
    ∷ []

abbrev pub after : List Step
after = row (opens 0 8 16) accepted (held 8 (opened 16)) (held 8 denied17) ∷ []

abbrev pub both : List Operation
both = map (λ (t : Step). t.takes) (before ++ (opener ∷ (during ++ after)))

-- What is asked of a list of operations where the rounds at one slot are one session's can be met, and its rounds are then those of case (a).
pub record Interleaved : Type 0 where
  pub fits : Every Fitting both
  pub steps : steps_of (vacant ∷ vacant ∷ []) both ≡ before ++ (opener ∷ (during ++ after))
  pub not_opened : Every (NotOpened 0) during
  pub one_policy : Every (OnePolicy policy_a 0) during
  pub one_session : OneSession 0 16 during
  pub rounds : turns_at 0 during ≡ turns policy_a (0x0000 ∷ 0x0000 ∷ 0x0003 ∷ 0x0000 ∷ [])

-- ---- all of them

pub record Examples : Type 0 where
  pub all_empty : AllEmpty (replicate 5 vacant)
  pub all_empty_65 : AllEmpty (replicate 65 vacant)
  pub crowded : answers_of (replicate 5 vacant) crowd
      -- four are opened, and a fifth is not
      ≡ accepted ∷ accepted ∷ accepted ∷ accepted ∷ turned_away 16
      -- 15 comes before 16, 14 before 16, and 7 before 14
      ∷ turned_away 15 ∷ turned_away 14 ∷ turned_away 7
      -- "an empty seat as 8"; 14 of a round
      ∷ turned_back 8 ∷ turned_back 14
      -- another owner may open where the first may not
      ∷ accepted
      -- a closed session's slot is taken by any owner, twice; at the end owner 7 has four once more, and slot 0, though free, is not given
      ∷ round (ends deny) ∷ accepted ∷ round (ends deny) ∷ accepted ∷ round (ends deny) ∷ turned_away 16 ∷ []
  pub left : slots_after (replicate 5 vacant) crowd
      ≡ held 9 denied16 ∷ held 7 (opened 16) ∷ held 7 (opened 16) ∷ held 7 (opened 16) ∷ held 7 (opened 16) ∷ []
  -- four is reached
  pub four_owned : Owns 7 (slots_after (replicate 5 vacant) crowd) 5 4
  -- the 64th slot is the last: those past it are refused, and not counted
  pub last_slot : (operate (replicate 65 vacant) (opens 63 7 16)).answer ≡ accepted
  pub past_it : (operate (replicate 65 vacant) (opens 64 7 16)).answer ≡ turned_away 14
  pub not_counted : (operate (replicate 64 vacant ++ replicate 4 (held 7 (opened 16))) (opens 0 7 16)).answer ≡ accepted
  pub counted : (operate (replicate 60 vacant ++ replicate 4 (held 7 (opened 16))) (opens 0 7 16)).answer ≡ turned_away 16
  -- waiting ones count, closed ones do not, and whether they are sound is no matter
  pub waiting_counted : (operate (held 7 asked4 ∷ held 7 asked3 ∷ held 7 asked4 ∷ held 7 (opened 16) ∷ vacant ∷ []) (opens 4 7 16)).answer ≡ turned_away 16
  pub closed_not_counted : (operate (held 7 granted3 ∷ held 7 denied5 ∷ held 7 granted3 ∷ held 7 (opened 16) ∷ vacant ∷ []) (opens 4 7 16)).answer ≡ accepted
  pub unsound_counted : (operate (replicate 4 (held 7 (opened 0)) ++ (vacant ∷ [])) (opens 4 7 16)).answer ≡ turned_away 16
  pub unsound_taken : (operate (held 7 (session 0 0 0 0 (closed denied)) ∷ []) (opens 0 7 16)).answer ≡ accepted
  pub unsound_kept : (operate (held 7 (opened 0) ∷ []) (opens 0 8 16)).answer ≡ turned_away 15
  pub interleaved : Interleaved
