-- Document 02, R-6: previews with all that they give. Assumes nothing.
use Rattle.std.specs.Prelude.{◌≡◌, List, [], ◌++◌, ◌∷◌, map, ℕ, replicate}
use Rattle.std.proofs.Math.Option.{Option, none, some}
use Rattle.form.specs.WrittenForm.{at}
use Rattle.rounds.specs.Endings.{deny, grant}
use Rattle.rounds.specs.Moves.{showing}
use Rattle.rounds.specs.Refusals.{number, of_policy}
use Rattle.rounds.specs.Rounds.{Answer, ends, refused}
use Rattle.rounds.specs.Sessions.{Session, closed, denied, granted, opened}
use Rattle.marked.specs.Marked.{asking, policy_a}
use Rattle.slots.specs.Slots.{Slot, held, vacant}
use Rattle.operations.specs.Examples.{accepted, asked3, asked4, granted3, session, turned_away}
use Rattle.operations.specs.Operations.{opens, plays, round}
use Rattle.previews.specs.Acts.{Act, Acted, Told, acts_of, answers, does, previews, shows, slots_after}
use Rattle.previews.specs.Previews.{Preview, preview_at}

abbrev pub gives : Answer → Option Session → Preview
gives a t = record { answer = a; session = t }

-- an empty slot, one that waits for 0004, one that is closed, and one whose request is no service
abbrev pub four : List Slot
four = vacant ∷ held 7 asked4 ∷ held 8 granted3 ∷ held 9 (opened 0) ∷ []

-- 17 bytes fewer than a record
abbrev pub broken : List ℕ
broken = 0 ∷ []

-- a session that shows 2 when asked for it, and one that shows 0 and 2 at once
abbrev pub granted4 : Session
granted4 = session 16 0x0004 0 2 (closed granted)

abbrev pub denied5 : Session
denied5 = session 16 0x0005 0 1 (closed denied)

-- ---- previews among openings and rounds

abbrev pub looks : List Act
looks =
    previews policy_a 0 (showing 0x0000)
    ∷ does (opens 0 7 16)
    ∷ previews policy_a 0 (showing 0x0005)
    ∷ previews policy_a 0 (showing 0x0000)
    ∷ does (opens 0 8 16)
    ∷ does (plays policy_a 0 (showing 0x0000))
    ∷ previews [] 0 (showing 0x0000)
    ∷ previews policy_a 0 (showing 0x0004)
    ∷ does (plays policy_a 0 (showing 0x0004))
    ∷ previews policy_a 0 (showing 0x0004)
    ∷ []

abbrev pub told : List Slot → List Act → List Told
told xs acts = map (λ (t : Acted). t.gives.answer) (acts_of xs acts)

-- ---- all of them

pub record Examples : Type 0 where
  -- "where the seat is empty or one that 14 refuses, no session is given"
  pub empty : preview_at policy_a four 0 (showing 0) ≡ gives (refused (number 8)) none
  pub past : preview_at policy_a four 4 (showing 0) ≡ gives (refused (number 14)) none
  pub past_63 : preview_at policy_a (replicate 64 vacant ++ (held 7 asked4 ∷ [])) 64 (showing 0) ≡ gives (refused (number 14)) none
  pub last_slot : preview_at policy_a (replicate 63 vacant ++ (held 7 asked4 ∷ [])) 63 (showing 0) ≡ gives (asking 0x0003) (some asked3)
  -- a question and a grant; the session after it
  pub asks : preview_at policy_a four 1 (showing 0) ≡ gives (asking 0x0003) (some asked3)
  pub grants : preview_at policy_a four 1 (showing 0x0004) ≡ gives (ends grant) (some granted4)
  -- "refusals included": the slot's own session
  pub finished : preview_at policy_a four 2 (showing 0) ≡ gives (refused (number 9)) (some granted3)
  pub no_service : preview_at policy_a four 3 (showing 0) ≡ gives (refused (number 7)) (some (opened 0))
  -- the policy's refusal comes first, and gives the slot's own session, if there is one
  pub broken_asked : preview_at broken four 1 (showing 0) ≡ gives (refused (of_policy (at 2 0))) (some asked4)
  pub broken_empty : preview_at broken four 0 (showing 0) ≡ gives (refused (of_policy (at 2 0))) none
  pub broken_past : preview_at broken four 4 (showing 0) ≡ gives (refused (of_policy (at 2 0))) none
  -- previews before a round show it, one with another set or policy shows another, and none of them changes anything
  pub looked : told (vacant ∷ []) looks
      ≡ shows (gives (refused (number 8)) none)
      ∷ answers accepted
      ∷ shows (gives (ends deny) (some denied5))
      ∷ shows (gives (asking 0x0004) (some asked4))
      ∷ answers (turned_away 15)
      ∷ answers (round (asking 0x0004))
      ∷ shows (gives (ends deny) (some (session 16 0 0x0004 2 (closed denied))))
      ∷ shows (gives (ends grant) (some granted4))
      ∷ answers (round (ends grant))
      ∷ shows (gives (refused (number 9)) (some granted4))
      ∷ []
  pub left : slots_after (vacant ∷ []) looks ≡ held 7 granted4 ∷ []
