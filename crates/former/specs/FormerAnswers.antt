-- What the gate answered before R-4: the definitions of today with the policy's test of then. Assumes nothing.
use Rattle.std.specs.Prelude.{List, ◌++◌, ℕ}
use Rattle.lists.specs.Runs.{Turn, run}
use Rattle.validation.specs.Tests.{first_failed, relabelled}
use Rattle.validation.specs.Unless.{Unless, unless}
use Rattle.rules.specs.Model.{model}
use Rattle.records.specs.Policies.{policy_of}
use Rattle.form.specs.WrittenForm as W
use Rattle.disclosure.specs.Disclosure.{disclosable}
use Rattle.rounds.specs.Moves.{Move}
use Rattle.rounds.specs.Refusals.{number, of_policy}
use Rattle.rounds.specs.RoundTest.{session_tests}
use Rattle.rounds.specs.Rounds.{Outcome, respond}
use Rattle.rounds.specs.Sessions.{Session}
use Rattle.former.specs.FormerTest.{former_refusal, former_tests}

-- model's `model_answer`
unfoldable pub former_model : List ℕ → ℕ → Unless W.Refusal ℕ
former_model bytes C = unless (former_refusal bytes) (model (policy_of bytes).access C)

-- disclosure's `disclosable_answer`
unfoldable pub former_disclosable : List ℕ → ℕ → Unless W.Refusal ℕ
former_disclosable bytes P = unless (former_refusal bytes) (disclosable (policy_of bytes) P)

-- rounds' `round` and `rounds_of`
unfoldable pub former_round : List ℕ → Session → Move → Outcome
former_round bytes s m = respond (first_failed (relabelled of_policy (former_tests bytes) ++ relabelled number (session_tests s m))) (policy_of bytes) s m

abbrev pub former_rounds : List ℕ → Session → List Move → List (Turn Move Outcome)
former_rounds bytes = run (former_round bytes) (λ (o : Outcome). o.session)
