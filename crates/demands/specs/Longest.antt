-- Document 01, "Sessions": "The longest sessions have 17 rounds." 17 are reached where policies are changed between the rounds. Assumes nothing.
use Rattle.std.specs.Prelude.{◌≡◌, ◌↔◌, List, [], ◌++◌, ◌∷◌, map, ◌≤◌, ℕ, length}
use Rattle.lists.specs.Lists.{Every}
use Rattle.validation.specs.Unless.{given}
use Rattle.atoms.specs.Sets.{empty, set_of}
use Rattle.records.specs.Writing.{◌if◌not◌, disclose◌if◌}
use Rattle.rounds.specs.Moves.{showing}
use Rattle.rounds.specs.Endings.{Ending, ask, deny}
use Rattle.rounds.specs.Rounds.{opening}
use Rattle.rounds.specs.Sessions.{Session, opened}
use Rattle.demands.specs.Lists.{Round, accepted_of}
use Rattle.demands.specs.Promises.{Fitting, Visit, under, visits_of}

-- 16 if k; disclosure of k always
unfoldable pub policy_on : ℕ → List ℕ
policy_on k = (16 if k ∷ [] not []) ++ (disclose k if [])

-- a visit that shows nothing
abbrev pub visit_on : ℕ → Visit
visit_on k = under (policy_on k) (showing empty)

-- seventeen of them: for credentials 0 to 15, and for 0 again
unfoldable pub in_turn : List ℕ
in_turn = 0 ∷ 1 ∷ 2 ∷ 3 ∷ 4 ∷ 5 ∷ 6 ∷ 7 ∷ 8 ∷ 9 ∷ 10 ∷ 11 ∷ 12 ∷ 13 ∷ 14 ∷ 15 ∷ 0 ∷ []

abbrev pub changing : List Visit
changing = map visit_on in_turn

-- a question for k alone
abbrev pub asked : ℕ → Ending
asked k = ask (record { asks = set_of (k ∷ []) })

pub record Seventeen : Type 0 where
  pub opens : opening 16 ≡ given (opened 16)
  pub fitting : Every Fitting changing
  -- each credential is asked for in its turn, and then the session is denied
  pub rounds : map (λ (t : Round Visit). t.ended) (accepted_of (visits_of (opened 16) changing))
      ≡ map asked (0 ∷ 1 ∷ 2 ∷ 3 ∷ 4 ∷ 5 ∷ 6 ∷ 7 ∷ 8 ∷ 9 ∷ 10 ∷ 11 ∷ 12 ∷ 13 ∷ 14 ∷ 15 ∷ []) ++ (deny ∷ [])
  pub reached : length (accepted_of (visits_of (opened 16) changing)) ≡ 17

-- no session that opening gives has more than n accepted rounds, whatever its visits
abbrev pub AtMost : ℕ → Type 0
AtMost n = (r : ℕ) (s : Session) → opening r ≡ given s → (vs : List Visit) → Every Fitting vs → length (accepted_of (visits_of s vs)) ≤ n

pub record Longest : Type 0 where
  pub reached : Seventeen
  -- so 17 bounds them all, and no smaller number does
  pub bound : (n : ℕ) → AtMost n ↔ (17 ≤ n)
