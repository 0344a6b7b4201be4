-- Where the policy's test answers as before, so does the gate. Assumes nothing.
use mathlib.Core.Path.{◌∙◌, ◌≡◌, ap, refl, sym}
use mathlib.Core.List.{List, [], ◌++◌, ◌∷◌}
use mathlib.Core.Option.{Option, map, or_else}
use Prim.Native.Nat.{ℕ}
use Rattle.lists.specs.Runs.{run}
use Rattle.validation.specs.Tests.{first_failed, relabelled}
use Rattle.validation.specs.Unless.{unless}
use Rattle.validation.proofs.FirstLaws.{first_append, first_relabelled}
use Rattle.rules.specs.Model.{model}
use Rattle.records.specs.Policies.{policy_of}
use Rattle.form.specs.PolicyTest.{policy_refusal, policy_tests}
use Rattle.form.specs.WrittenForm as W
use Rattle.disclosure.specs.Answers.{disclosable_answer}
use Rattle.disclosure.specs.Disclosure.{disclosable}
use Rattle.model.specs.Answers.{model_answer}
use Rattle.rounds.specs.Moves.{Move}
use Rattle.rounds.specs.Refusals.{Refusal, number, of_policy}
use Rattle.rounds.specs.RoundTest.{round_refusal, session_tests}
use Rattle.rounds.specs.Rounds.{Outcome, respond, round}
use Rattle.rounds.specs.Sessions.{Session}
use Rattle.former.specs.FormerAnswers.{former_disclosable, former_model, former_round}
use Rattle.former.specs.FormerTest.{former_refusal, former_tests}
use Rattle.former.specs.Theorems.{Unchanged}

-- runs of steps that give the same
run_same : {S I O : Type 0} (f g : S → I → O) (next : O → S) → ((s : S) (x : I) → f s x ≡ g s x) → (xs : List I) (s : S)
    → run f next s xs ≡ run g next s xs
unfolding run
run_same f g next h [] s = refl
run_same {S} {I} {O} f g next h (x ∷ xs) s =
    ap (λ (o : O). record { takes = x; gives = o } ∷ run f next (next o) xs) (h s x)
    ∙ ap (◌∷◌ (record { takes = x; gives = g s x })) (run_same f g next h xs (next (g s x)))

module _ (bytes : List ℕ) (e : policy_refusal bytes ≡ former_refusal bytes) where
  same_tests : (s : Session) (m : Move)
      → round_refusal bytes s m ≡ first_failed (relabelled of_policy (former_tests bytes) ++ relabelled number (session_tests s m))
  unfolding round_refusal policy_refusal former_refusal
  same_tests s m =
      let rest = relabelled number (session_tests s m) in
      first_append (relabelled of_policy (policy_tests bytes)) rest
      ∙ ap (λ (o : Option Refusal). or_else o (first_failed rest))
      (first_relabelled of_policy (policy_tests bytes) ∙ ap (map of_policy) e ∙ sym (first_relabelled of_policy (former_tests bytes)))
      ∙ sym (first_append (relabelled of_policy (former_tests bytes)) rest)

  same_round : (s : Session) (m : Move) → round bytes s m ≡ former_round bytes s m
  unfolding round former_round
  same_round s m = ap (λ (o : Option Refusal). respond o (policy_of bytes) s m) (same_tests s m)

  same_model : (C : ℕ) → model_answer bytes C ≡ former_model bytes C
  unfolding model_answer former_model
  same_model C = ap (λ (o : Option W.Refusal). unless o (model (policy_of bytes).access C)) e

  same_disclosable : (P : ℕ) → disclosable_answer bytes P ≡ former_disclosable bytes P
  unfolding disclosable_answer former_disclosable
  same_disclosable P = ap (λ (o : Option W.Refusal). unless o (disclosable (policy_of bytes) P)) e

  pub unchanged : Unchanged bytes
  unchanged = record {
    models = same_model;
    disclosables = same_disclosable;
    rounds = same_round;
    lists = λ s ms. run_same (round bytes) (former_round bytes) (λ (o : Outcome). o.session) same_round ms s;
  }
