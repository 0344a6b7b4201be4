-- What R-4 leaves as it was: "Policies accepted before keep their models.", and all else that the gate answers of them. Assumes nothing.
use Rattle.std.specs.Prelude.{◌≡◌, ◌↔◌, ◌≢◌, List, ◌*◌, ◌+◌, ◌<◌, ◌≤◌, ℕ}
use Rattle.std.proofs.Math.Option.{Option, none, some}
use Rattle.encoding.specs.LittleEndian.{Bytes}
use Rattle.lists.specs.Lists.{Every}
use Rattle.atoms.specs.Atoms.{violation}
use Rattle.rules.specs.LevelByLevel.{by_level, level_by_level}
use Rattle.rules.specs.Model.{model}
use Rattle.rules.specs.Rules.{Stratified}
use Rattle.records.specs.Policies.{policy_of}
use Rattle.form.specs.PolicyTest.{policy_refusal}
use Rattle.form.specs.WrittenForm.{Refusal, at}
use Rattle.disclosure.specs.Answers.{disclosable_answer}
use Rattle.model.specs.Answers.{model_answer}
use Rattle.rounds.specs.Moves.{Move}
use Rattle.rounds.specs.Rounds.{round, rounds_of}
use Rattle.rounds.specs.Sessions.{Session}
use Rattle.former.specs.FormerAnswers.{former_disclosable, former_model, former_round, former_rounds}
use Rattle.former.specs.FormerForm.{FormerlyRefused, FormerlyWellFormed, level}
use Rattle.former.specs.FormerTest.{former_refusal}

-- what the test of then answered, o
pub record FormerlyTested (bytes : List ℕ) (o : Option Refusal) : Type 0 where
  pub accepts : (o ≡ none) ↔ FormerlyWellFormed bytes
  pub refuses : (f : Refusal) → (o ≡ some f) ↔ FormerlyRefused bytes f

-- every answer is what it was: model, disclosable set, and the answer and session of every round and of every list of rounds
pub record Unchanged (bytes : List ℕ) : Type 0 where
  pub models : (C : ℕ) → model_answer bytes C ≡ former_model bytes C
  pub disclosables : (P : ℕ) → disclosable_answer bytes P ≡ former_disclosable bytes P
  pub rounds : (s : Session) (m : Move) → round bytes s m ≡ former_round bytes s m
  pub lists : (s : Session) (ms : List Move) → rounds_of bytes s ms ≡ former_rounds bytes s ms

pub record Theorems : Type 0 where
  -- "The level of atoms 0 to 62 is the number divided by 8, rounded down; of 63 it is 8."
  pub levels : (a : ℕ) → a < violation → (8 * level a ≤ a) × (a < 8 * level a + 8)
  pub top : level violation ≡ 8
  pub tested : (bytes : List ℕ) → Bytes bytes → FormerlyTested bytes (former_refusal bytes)
  -- its access rules kept the levels by number, and the model was closed level by level of those
  pub stratified : (bytes : List ℕ) → Bytes bytes → former_refusal bytes ≡ none → Every (Stratified level) (policy_of bytes).access
  pub by_number : (bytes : List ℕ) → Bytes bytes → former_refusal bytes ≡ none → (C : ℕ)
      → model (policy_of bytes).access C ≡ level_by_level (by_level level 0 9 (policy_of bytes).access) C
  -- "Policies accepted before keep their models.": they are accepted now, and nothing that is answered of them changes
  pub kept : (bytes : List ℕ) → Bytes bytes → former_refusal bytes ≡ none → (policy_refusal bytes ≡ none) × Unchanged bytes
  -- 6 is given to no policy that was not refused with 6
  pub no_new_six : (bytes : List ℕ) → Bytes bytes → (k : ℕ) → policy_refusal bytes ≡ some (at 6 k) → (j : ℕ) × (former_refusal bytes ≡ some (at 6 j))
  -- what was refused by another number than 6 is refused by that number now, at the same record
  pub refused_as_before : (bytes : List ℕ) → Bytes bytes → (n k : ℕ) → n ≢ 6 → former_refusal bytes ≡ some (at n k)
      → (policy_refusal bytes ≡ some (at n k)) × Unchanged bytes
