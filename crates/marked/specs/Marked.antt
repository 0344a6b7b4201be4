-- Document 01, "Marked for proof, and others": the marked cases, as the paper words them. Assumes nothing.
use Rattle.std.specs.Prelude.{◌≡◌, Bool, false, true, List, [], ◌++◌, ◌∷◌, map, ◌+◌, ◌<◌, ◌^◌, ℕ}
use Rattle.std.proofs.Math.Option.{none, some}
use Rattle.lists.specs.Runs.{Turn}
use Rattle.validation.specs.Unless.{given}
use Rattle.atoms.specs.Sets.{empty, intersection, set_of, union}
use Rattle.rules.specs.Unlocking.{unlocks}
use Rattle.records.specs.Policies.{policy_of}
use Rattle.records.specs.Writing.{◌if◌not◌, disclose◌if◌, write_record}
use Rattle.form.specs.WrittenForm.{at}
use Rattle.form.specs.PolicyTest.{policy_refusal}
use Rattle.disclosure.specs.Answers.{disclosable_answer}
use Rattle.model.specs.Answers.{model_answer}
use Rattle.rounds.specs.Moves.{Move, showing}
use Rattle.rounds.specs.Endings.{ask, deny, grant}
use Rattle.rounds.specs.Rounds.{Answer, Outcome, ends, opening, rounds_of}
use Rattle.rounds.specs.Sessions.{opened}
use Rattle.demands.specs.Demand3.{Client, Licensed, askable_count, lacked_count}
use Rattle.demands.specs.Lists.{accepted_of}

-- "Policy A: 16 if 0, 1; 16 if 2, not 3; 63 if 0, 2; disclosure 0 always; 1 if 0; 2 always."
unfoldable pub policy_a : List ℕ
policy_a =
    (16 if 0 ∷ 1 ∷ [] not [])
    ++ (16 if 2 ∷ [] not (3 ∷ []))
    ++ (63 if 0 ∷ 2 ∷ [] not [])
    ++ (disclose 0 if [])
    ++ (disclose 1 if (0 ∷ []))
    ++ (disclose 2 if [])

-- "policy B, 16 if 0, 1; 16 if 2, 3; 63 if 0, 2; disclosure of 0 to 3 always"
unfoldable pub policy_b : List ℕ
policy_b =
    (16 if 0 ∷ 1 ∷ [] not [])
    ++ (16 if 2 ∷ 3 ∷ [] not [])
    ++ (63 if 0 ∷ 2 ∷ [] not [])
    ++ (disclose 0 if [])
    ++ (disclose 1 if [])
    ++ (disclose 2 if [])
    ++ (disclose 3 if [])

-- P unlocks service r by a policy's access rules
abbrev pub unlocks_by : List ℕ → ℕ → ℕ → Bool
unlocks_by bytes r P = unlocks (policy_of bytes) r P

-- ---- rounds

-- the rounds with request 16 that show each p of ps, from the session that opening gives
unfoldable pub turns : List ℕ → List ℕ → List (Turn Move Outcome)
turns bytes ps = rounds_of bytes (opened 16) (map showing ps)

unfoldable pub answers : List ℕ → List ℕ → List Answer
answers bytes ps = map (λ (t : Turn Move Outcome). t.gives.answer) (turns bytes ps)

-- "the count, "got", the shown set p", and the answer
unfoldable pub lines : List ℕ → List ℕ → List (ℕ × ℕ × Answer)
lines bytes ps = map (λ (t : Turn Move Outcome). (t.gives.session.count, t.takes.shows, t.gives.answer)) (turns bytes ps)

abbrev pub asking : ℕ → Answer
asking Q = ends (ask (record { asks = Q }))

-- The premise of demand 3's last sentence can be met, and its bound 2 + u is tight: under policy A a client that holds 0 and 1 and shows nothing in
-- round 1 lacks one askable credential, 2; its rounds are those of case (a), with grant in round 3 and not before.
pub record Witness : Type 0 where
  pub licensed : Licensed (policy_of policy_a) 16 (set_of (0 ∷ 1 ∷ [])) empty (set_of (0 ∷ 1 ∷ []))
  pub client : Client (set_of (0 ∷ 1 ∷ [])) empty (accepted_of (turns policy_a (0x0000 ∷ 0x0000 ∷ 0x0003 ∷ [])))
  pub askable_ones : askable_count (policy_of policy_a) ≡ 3
  pub bound : 2 + lacked_count (policy_of policy_a) (set_of (0 ∷ 1 ∷ [])) ≡ 3

pub record Marked : Type 0 where
  -- "Example, "16 if 2 and not 3": hexadecimal 01 10 04, seven zeros, 08, seven zeros."
  pub example : (16 if 2 ∷ [] not (3 ∷ [])) ≡ 0x01 ∷ 0x10 ∷ 0x04 ∷ 0 ∷ 0 ∷ 0 ∷ 0 ∷ 0 ∷ 0 ∷ 0 ∷ 0x08 ∷ 0 ∷ 0 ∷ 0 ∷ 0 ∷ 0 ∷ 0 ∷ 0 ∷ []
  -- a disclosure record in bytes, "1 if 0"
  pub disclosure_example : (disclose 1 if (0 ∷ [])) ≡ 0x02 ∷ 0x01 ∷ 0x01 ∷ 0 ∷ 0 ∷ 0 ∷ 0 ∷ 0 ∷ 0 ∷ 0 ∷ 0 ∷ 0 ∷ 0 ∷ 0 ∷ 0 ∷ 0 ∷ 0 ∷ 0 ∷ []
  -- opening gives the session that each list of rounds begins with
  pub opens : opening 16 ≡ given (opened 16)
  -- "(a) the three rounds above": "round 1 got 0000 ask 0004", "round 2 got 0000 ask 0003", "round 3 got 0003 grant"
  pub a : lines policy_a (0x0000 ∷ 0x0000 ∷ 0x0003 ∷ []) ≡ (1, 0x0000, asking 0x0004) ∷ (2, 0x0000, asking 0x0003) ∷ (3, 0x0003, ends grant) ∷ []
  -- "(b) empty policy, request 16: deny in round 1", whatever is shown
  pub b : (p : ℕ) → p < 2 ^ 16 → answers [] (p ∷ []) ≡ ends deny ∷ []
  -- "(c) 16 with empty body: grant in round 1 with nothing shown"
  pub c : answers (16 if [] not []) (empty ∷ []) ≡ ends grant ∷ []
  -- "(d) policy A, P = {0, 2}: 63 in the model, no grant", though 16 is in it too
  pub d : model_answer policy_a (set_of (0 ∷ 2 ∷ [])) ≡ given (set_of (0 ∷ 2 ∷ 16 ∷ 63 ∷ []))
  pub d_no_grant : unlocks_by policy_a 16 (set_of (0 ∷ 2 ∷ [])) ≡ false
  pub d_denied : answers policy_a (set_of (0 ∷ 2 ∷ []) ∷ []) ≡ ends deny ∷ []
  -- "(e) P = {2, 3}: 16 not in the model"
  pub e : model_answer policy_a (set_of (2 ∷ 3 ∷ [])) ≡ given (set_of (2 ∷ 3 ∷ []))
  pub e_no_grant : unlocks_by policy_a 16 (set_of (2 ∷ 3 ∷ [])) ≡ false
  -- beside them: {0, 1} and {2} unlock 16 by policy A, which discloses all of {0, 1, 2} where nothing is shown
  pub unlocked : (unlocks_by policy_a 16 (set_of (0 ∷ 1 ∷ [])) ≡ true) × (unlocks_by policy_a 16 (set_of (2 ∷ [])) ≡ true)
  pub disclosed : disclosable_answer policy_a empty ≡ given (set_of (0 ∷ 1 ∷ 2 ∷ []))
  -- "(f) 17 if not 24", of document 01; document 02, R-4: "Case (f) is now accepted; a rule "17 if not 17" is refused.", with the count of records
  pub f : policy_refusal (17 if [] not (24 ∷ [])) ≡ none
  pub f_itself : policy_refusal (17 if [] not (17 ∷ [])) ≡ some (at 6 1)
  -- beside them: a loop through a negation is refused, however long, with the count of all records; a loop without one is accepted; and so is a chain of
  -- negations that goes against the numbers
  pub f_loop : policy_refusal ((disclose 0 if []) ++ (17 if 18 ∷ [] not []) ++ (18 if [] not (19 ∷ [])) ++ (19 if 17 ∷ [] not [])) ≡ some (at 6 4)
  pub f_two_negations : policy_refusal ((17 if [] not (18 ∷ [])) ++ (18 if [] not (17 ∷ []))) ≡ some (at 6 2)
  pub f_positive_loop : policy_refusal ((17 if 18 ∷ [] not []) ++ (18 if 17 ∷ [] not [])) ≡ none
  pub f_chain : policy_refusal ((16 if [] not (17 ∷ [])) ++ (17 if [] not (18 ∷ [])) ++ (18 if [] not (19 ∷ []))) ≡ none
  -- the model follows the levels that are found: of 19 nothing is known, so 18 holds, 17 does not, and 16 does
  pub f_model : model_answer ((16 if [] not (17 ∷ [])) ++ (17 if [] not (18 ∷ [])) ++ (18 if [] not (19 ∷ []))) empty ≡ given (set_of (16 ∷ 18 ∷ []))
  -- rules that never apply take part all the same: with a two-sided body, and with an atom that nothing concludes
  pub f_two_sided : policy_refusal (17 if 18 ∷ [] not (17 ∷ 18 ∷ [])) ≡ some (at 6 1)
  pub f_never : policy_refusal (17 if 18 ∷ [] not (17 ∷ [])) ≡ some (at 6 1)
  -- 6 comes after all records: a 3 at record 1 comes first
  pub f_last : policy_refusal ((17 if [] not (17 ∷ [])) ++ (write_record (record { kind = 4; rule = record { head = 0; positive = 0; negated = 0 } })))
      ≡ some (at 3 1)
  -- "(g) 24 if not 23: accepted"
  pub g : policy_refusal (24 if [] not (23 ∷ [])) ≡ none
  -- "(h) 16 if 23: accepted"
  pub h : policy_refusal (16 if 23 ∷ [] not []) ≡ none
  -- "(i) 63 if not 62: accepted"
  pub i : policy_refusal (63 if [] not (62 ∷ [])) ≡ none
  -- "(j) policy B"; "a holder of {0, 2, 3} who opens with nothing is asked 0003, shows 0001 and is denied"
  pub j : answers policy_b (empty ∷ 0x0001 ∷ []) ≡ asking 0x0003 ∷ ends deny ∷ []
  pub j_holder : Client (set_of (0 ∷ 2 ∷ 3 ∷ [])) empty (accepted_of (turns policy_b (empty ∷ 0x0001 ∷ [])))
  pub j_shows : intersection 0x0003 (set_of (0 ∷ 2 ∷ 3 ∷ [])) ≡ 0x0001
  -- "which is why demand 3 has its premise on every part of the holding": it holds 2 and 3, they are disclosable from nothing and unlock 16 alone, but
  -- not beside 0
  pub j_disclosed : disclosable_answer policy_b empty ≡ given (set_of (0 ∷ 1 ∷ 2 ∷ 3 ∷ []))
  pub j_alone : unlocks_by policy_b 16 (set_of (2 ∷ 3 ∷ [])) ≡ true
  pub j_beside : unlocks_by policy_b 16 (union (set_of (2 ∷ 3 ∷ [])) (set_of (0 ∷ []))) ≡ false
  -- "the client has grant or deny by round d + 1", and not sooner: two askable credentials, and three rounds
  pub d_reached : answers ((16 if 0 ∷ [] not []) ++ (16 if 1 ∷ [] not []) ++ (disclose 0 if []) ++ (disclose 1 if [])) (empty ∷ empty ∷ empty ∷ [])
      ≡ asking 0x0001 ∷ asking 0x0002 ∷ ends deny ∷ []
  -- demand 3's last sentence is not empty
  pub witness : Witness
