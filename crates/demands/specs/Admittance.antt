-- Demand 3's last sentence is not empty: a client that meets its premise only by what it shows first, and all of its rounds. Assumes nothing.
use Rattle.std.specs.Prelude.{◌≡◌, false, true, List, [], ◌++◌, ◌∷◌, map, ◌+◌, ℕ, length}
use Rattle.lists.specs.Runs.{Turn}
use Rattle.atoms.specs.Sets.{empty, member, set_of}
use Rattle.records.specs.Policies.{policy_of}
use Rattle.records.specs.Writing.{◌if◌not◌, disclose◌if◌}
use Rattle.disclosure.specs.Disclosure.{Disclosable}
use Rattle.rounds.specs.Endings.{ask, grant}
use Rattle.rounds.specs.Moves.{Move, showing}
use Rattle.rounds.specs.Rounds.{Answer, Outcome, ends, rounds_of}
use Rattle.rounds.specs.Sessions.{opened}
use Rattle.demands.specs.Demand3.{Client, Licensed, askable_count, lacked_count}
use Rattle.demands.specs.Lists.{accepted_of}

-- 16 if 0; 16 if 2; 63 if 0, 2; disclosure 0 always, twice; 2 if 1; 2 if 3
unfoldable pub policy_c : List ℕ
policy_c =
    (16 if 0 ∷ [] not [])
    ++ (16 if 2 ∷ [] not [])
    ++ (63 if 0 ∷ 2 ∷ [] not [])
    ++ (disclose 0 if [])
    ++ (disclose 0 if [])
    ++ (disclose 2 if (1 ∷ []))
    ++ (disclose 2 if (3 ∷ []))

-- "A client that shows in round 1 a part I of what it holds", "if some held set S, all disclosable from I": it holds 1, 2 and 3, shows 1, and S is 2
-- alone, a part of what it holds that has nothing of I
abbrev pub held : ℕ
held = set_of (1 ∷ 2 ∷ 3 ∷ [])

abbrev pub shown_first : ℕ
shown_first = set_of (1 ∷ [])

abbrev pub unlocking : ℕ
unlocking = set_of (2 ∷ [])

-- its rounds: it lacks 0, which is asked for first, and then shows 2
unfoldable pub turns_c : List (Turn Move Outcome)
turns_c = rounds_of policy_c (opened 16) (map showing (shown_first ∷ empty ∷ unlocking ∷ []))

abbrev pub asking : ℕ → Answer
asking Q = ends (ask (record { asks = Q }))

pub record Admittance : Type 0 where
  -- "d counting all credentials that the disclosure rules can ask for": two, of four rules, since each of them heads two
  pub rules : length (policy_of policy_c).disclosure ≡ 4
  pub askable_ones : askable_count (policy_of policy_c) ≡ 2
  -- I is not empty, and S is a proper part of what is held
  pub shows_some : member 1 shown_first ≡ true
  pub proper : (member 3 held ≡ true) × (member 3 unlocking ≡ false)
  pub licensed : Licensed (policy_of policy_c) 16 held shown_first unlocking
  -- "all disclosable from I", and from nothing it is not
  pub only_by_first : Disclosable (policy_of policy_c) empty 2 → ⊥
  pub client : Client held shown_first (accepted_of turns_c)
  pub answers : map (λ (t : Turn Move Outcome). t.gives.answer) turns_c ≡ asking 0x0001 ∷ asking 0x0004 ∷ ends grant ∷ []
  -- "has grant by round 2 + u at the latest", and not before; "u counting the credentials that the disclosure rules can ask for and it lacks": 0
  -- alone, though it heads two rules
  pub bound : 2 + lacked_count (policy_of policy_c) held ≡ 3
