-- The marked cases, computed from the definitions; (b), of every shown set, by their laws. Assumes nothing.
use mathlib.Core.Path.{◌≡◌, ap, refl, subst, sym}
use mathlib.Core.Logic.{◌⊎◌, inl, inr}
use mathlib.Core.Bool.{true}
use mathlib.Core.List.{[], ◌∷◌}
use mathlib.Core.Option.{or_else}
use Prim.Native.Nat.{◌<◌, ◌^◌, ℕ}
use lib.Count.{ones_in}
use native.Mathlib.Omega.{arith}
use Rattle.encoding.specs.LittleEndian.{Bytes, bytes_of, little_endian}
use Rattle.lists.specs.Each.{Each}
use Rattle.lists.specs.Runs.{run}
use Rattle.validation.specs.Tests.{first_failed, relabelled}
use Rattle.atoms.specs.Sets.{Member, Subset, empty, set_of, size, union}
use Rattle.atoms.proofs.SetLaws.{empty_subset, member_low, none_in_empty, subset_antisym, subset_true, union_cases, union_least, union_left}
use Rattle.rules.specs.Unlocking.{Unlocks, unlocks}
use Rattle.rules.specs.Weights.{weight_among}
use Rattle.rules.specs.Model.{closure_by, consequences, model, pass_by, times}
use Rattle.rules.specs.Stable.{Closed, reduct}
use Rattle.strata.specs.Strata.{above, stratifiable, stratum}
use Rattle.records.specs.Policies.{policy_of}
use Rattle.records.specs.Records.{of_kind, read_record, records_from, records_of, rules_of}
use Rattle.records.specs.Writing.{◌if◌not◌, disclose◌if◌, write_record}
use Rattle.form.proofs.PolicyLaws.{disclosure_heads, unlocks_iff}
use Rattle.form.specs.WrittenForm.{WellFormed}
use Rattle.form.specs.PolicyTest.{policy_refusal, policy_tests, tests_from}
use Rattle.form.proofs.TheoremsProof as form
use Rattle.disclosure.proofs.DisclosureLaws.{disclosable_iff}
use Rattle.disclosure.specs.Disclosure.{askable, disclosable}
use Rattle.disclosure.specs.Answers.{disclosable_answer}
use Rattle.model.specs.Answers.{model_answer}
use Rattle.preference.specs.Preference.{lex_before, preferred, subsets}
use Rattle.preference.specs.Question.{Question, candidates, chosen}
use Rattle.preference.specs.Weights.{total_in}
use Rattle.rounds.specs.RoundTest.{opening_tests, round_refusal, session_refusal}
use Rattle.rounds.specs.Endings.{Ending, deny, ending}
use Rattle.rounds.specs.Rounds.{ends, opening, round, worked}
use Rattle.demands.specs.Demand2.{Missing}
use Rattle.demands.specs.Demand3.{Licensed}
use Rattle.demands.specs.Lists.{accepted_of, reply}
use Rattle.demands.proofs.AnswerProof.{denied_when}
use Rattle.demands.proofs.SeventeenProof.{byte_test, test_bytes}
use Rattle.marked.specs.Marked.{Marked, Witness, answers, lines, policy_a, policy_b, turns, unlocks_by}

-- everything that a case computes with
computed : Unit {0}
unfolding ◌if◌not◌ disclose◌if◌ write_record bytes_of set_of little_endian read_record above stratum stratifiable first_failed relabelled tests_from
    policy_tests policy_refusal or_else records_from records_of of_kind rules_of reduct times pass_by closure_by consequences model disclosable askable unlocks model_answer
    disclosable_answer ones_in size subsets lex_before preferred candidates chosen total_in weight_among ending worked opening_tests session_refusal round_refusal round run opening accepted_of
    Each reply turns answers lines policy_a policy_b
computed = tt

-- ---- the witness

bytes_A : Bytes policy_a
unfolding computed byte_test
bytes_A = test_bytes policy_a refl

form_A : WellFormed policy_a
unfolding computed
form_A = ((form.theorems).tested policy_a bytes_A).accepts.0 refl

-- beside each part of {0, 1} it is {0, 1} itself
same_part : (T : ℕ) → Subset T 3 → union 3 T ≡ 3
same_part T f = subset_antisym (union_least 3 T 3 (λ k m. m) f) (union_left 3 T)

opens_A : unlocks_by policy_a 16 3 ≡ true
unfolding computed
opens_A = refl

reach_A : disclosable (policy_of policy_a) empty ≡ 7
unfolding computed
reach_A = refl

licensed_A : Licensed (policy_of policy_a) 16 3 empty 3
licensed_A = record {
  holding = omega arith;
  first = empty_subset 3;
  held = λ k m. m;
  disclosed = λ k m. (disclosable_iff (policy_of policy_a) (disclosure_heads policy_a bytes_A form_A) empty k).0
      (subst (λ (x : ℕ). Member k x) (sym reach_A) (subset_true 3 7 refl k m));
  opens = λ T f. subst (Unlocks (policy_of policy_a) 16) (sym (same_part T f)) ((unlocks_iff policy_a bytes_A form_A 16 3).0 opens_A);
}

witness : Witness
unfolding computed
witness = record { licensed = licensed_A; client = (refl, (refl, (refl, tt))); askable_ones = refl; bound = refl }

-- ---- the empty policy

form_0 : WellFormed []
unfolding computed
form_0 = ((form.theorems).tested [] tt).accepts.0 refl

-- without rules the stable set is C, and the disclosable set what is shown
missing_0 : (P N : ℕ) (q : Question) → Missing (policy_of []) 16 P N q → Member 16 P
unfolding rules_of records_of records_from of_kind reduct
missing_0 P N q m = go (union_cases P q.asks 16 (m.opens.stable.least (union P q.asks) same 16 m.opens.service))
  where
    same : {C : ℕ} → Closed [] C C
    same = record { holds = λ k i. i; respects = tt }

    go : Member 16 P ⊎ Member 16 q.asks → Member 16 P
    go (inl i) = i
    go (inr i) = m.disclosed 16 i P same

denied_0 : (p N : ℕ) → p < 2 ^ 16 → ending (policy_of []) 16 (union empty p) N ≡ deny
denied_0 p N l = (denied_when [] tt form_0 16 (union empty p) N).1 (λ q m. out (union_cases empty p 16 (missing_0 (union empty p) N q m)))
  where
    out : Member 16 empty ⊎ Member 16 p → ⊥
    out (inl i) = none_in_empty 16 i
    out (inr i) = let h = member_low p 16 16 l i in omega arith

-- ---- all of them

pub marked : Marked
unfolding computed
marked = record {
  example = refl;
  disclosure_example = refl;
  opens = refl;
  a = refl;
  b = λ p l. ap (λ (e : Ending). ends e ∷ []) (denied_0 p _ l);
  c = refl;
  d = refl;
  d_no_grant = refl;
  d_denied = refl;
  e = refl;
  e_no_grant = refl;
  unlocked = (refl, refl);
  disclosed = refl;
  f = refl;
  f_itself = refl;
  f_loop = refl;
  f_two_negations = refl;
  f_positive_loop = refl;
  f_chain = refl;
  f_model = refl;
  f_two_sided = refl;
  f_never = refl;
  f_last = refl;
  g = refl;
  h = refl;
  i = refl;
  j = refl;
  j_holder = (refl, (refl, tt));
  j_shows = refl;
  j_disclosed = refl;
  j_alone = refl;
  j_beside = refl;
  d_reached = refl;
  witness = witness;
}
