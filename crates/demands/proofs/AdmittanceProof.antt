-- The client of specs/Admittance: each part is computed from the definitions. Assumes nothing.
use mathlib.Core.Path.{◌≡◌, refl}
use mathlib.Core.Bool.{Bool, ◌&&◌, true}
use mathlib.Core.List.{List, [], ◌∷◌}
use mathlib.Core.Option.{or_else}
use Prim.Native.Nat.{◌^◌, ℕ}
use lib.Count.{ones_in}
use lib.Dec.{ltb}
use native.Mathlib.Omega.{arith}
use Rattle.encoding.specs.LittleEndian.{Bytes, bytes_of, little_endian}
use Rattle.lists.specs.Each.{Each}
use Rattle.lists.specs.Lists.{Every}
use Rattle.lists.specs.Runs.{run}
use Rattle.validation.proofs.DecideLaws.{decides_lt}
use Rattle.validation.proofs.TestLaws.{and_true}
use Rattle.validation.specs.Tests.{first_failed, relabelled}
use Rattle.atoms.specs.Sets.{Member, Subset, set_of, size, subset, union}
use Rattle.atoms.proofs.SetLaws.{member_low, not_in, subset_true}
use Rattle.rules.specs.Unlocking.{Unlocks, unlocks}
use Rattle.rules.specs.Model.{closure_by, consequences, model, pass_by, times}
use Rattle.rules.specs.Stable.{reduct}
use Rattle.rules.specs.Weights.{weight_among}
use Rattle.strata.specs.Strata.{above, stratifiable, stratum}
use Rattle.records.specs.Policies.{policy_of}
use Rattle.records.specs.Records.{of_kind, read_record, records_from, records_of, rules_of}
use Rattle.records.specs.Writing.{◌if◌not◌, disclose◌if◌, write_record}
use Rattle.form.proofs.PolicyLaws.{disclosure_heads, unlocks_iff}
use Rattle.form.specs.WrittenForm.{WellFormed}
use Rattle.form.specs.PolicyTest.{policy_refusal, policy_tests, tests_from}
use Rattle.form.proofs.TheoremsProof as form
use Rattle.disclosure.proofs.DisclosureLaws.{disclosable_iff}
use Rattle.disclosure.specs.Disclosure.{Disclosable, askable, disclosable}
use Rattle.preference.specs.Preference.{lex_before, preferred, subsets}
use Rattle.preference.specs.Question.{candidates, chosen}
use Rattle.preference.specs.Weights.{total_in}
use Rattle.preference.proofs.SubsetLaws.{subsets_all}
use Rattle.rounds.specs.RoundTest.{round_refusal, session_refusal}
use Rattle.rounds.specs.Endings.{ending}
use Rattle.rounds.specs.Rounds.{round, worked}
use Rattle.demands.specs.Demand3.{Licensed}
use Rattle.demands.specs.Lists.{accepted_of, reply}
use Rattle.demands.specs.Admittance.{Admittance, held, policy_c, shown_first, turns_c, unlocking}
use Rattle.demands.proofs.SeventeenProof.{byte_test, test_bytes}

-- everything that it computes with
computed : Unit {0}
unfolding ◌if◌not◌ disclose◌if◌ write_record bytes_of set_of little_endian read_record above stratum stratifiable first_failed relabelled tests_from policy_tests
    policy_refusal or_else records_from records_of of_kind rules_of reduct times pass_by closure_by consequences model disclosable askable unlocks
    ones_in size subsets lex_before preferred candidates chosen total_in weight_among ending worked session_refusal round_refusal round run accepted_of Each reply
    byte_test policy_c turns_c
computed = tt

bytes_C : Bytes policy_c
unfolding computed
bytes_C = test_bytes policy_c refl

form_C : WellFormed policy_c
unfolding computed
form_C = ((form.theorems).tested policy_c bytes_C).accepts.0 refl

-- ---- the premise, by tests

by_disclosure : (P S : ℕ) → subset S (disclosable (policy_of policy_c) P) ≡ true → (k : ℕ) → Member k S → Disclosable (policy_of policy_c) P k
by_disclosure P S e k m =
    (disclosable_iff (policy_of policy_c) (disclosure_heads policy_c bytes_C form_C) P k).0 (subset_true S (disclosable (policy_of policy_c) P) e k m)

-- S unlocks beside each of Ts
parts_test : ℕ → List ℕ → Bool
parts_test S [] = true
parts_test S (T ∷ Ts) = unlocks (policy_of policy_c) 16 (union S T) && parts_test S Ts

test_parts : (S : ℕ) (Ts : List ℕ) → parts_test S Ts ≡ true → Every (λ T. unlocks (policy_of policy_c) 16 (union S T) ≡ true) Ts
unfolding parts_test
test_parts S [] e = tt
test_parts S (T ∷ Ts) e = let h = and_true (unlocks (policy_of policy_c) 16 (union S T)) (parts_test S Ts) e in (h.0, test_parts S Ts h.1)

by_parts : (S H : ℕ) → (ltb H (2 ^ 16) && parts_test S (subsets 16 H)) ≡ true → (T : ℕ) → Subset T H → Unlocks (policy_of policy_c) 16 (union S T)
by_parts S H e T f =
    let h = and_true (ltb H (2 ^ 16)) (parts_test S (subsets 16 H)) e in
    let l = (decides_lt H (2 ^ 16)).0 h.0 in
    (unlocks_iff policy_c bytes_C form_C 16 (union S T)).0
    (subsets_all (λ X. unlocks (policy_of policy_c) 16 (union S X) ≡ true) 16 H (omega arith) (test_parts S (subsets 16 H) h.1) T f
    (λ k g. not_in T k (λ m. omega (arith, member_low H 16 k l (f k m)))))

licensed : Licensed (policy_of policy_c) 16 held shown_first unlocking
unfolding computed parts_test
licensed = record {
  holding = omega arith;
  first = subset_true _ _ refl;
  held = subset_true _ _ refl;
  disclosed = by_disclosure _ _ refl;
  opens = by_parts unlocking _ refl;
}

only_by_first : Disclosable (policy_of policy_c) 0 2 → ⊥
unfolding computed
only_by_first d = omega (arith, (disclosable_iff (policy_of policy_c) (disclosure_heads policy_c bytes_C form_C) 0 2).1 d)

pub admittance : Admittance
unfolding computed
admittance = record {
  rules = refl;
  askable_ones = refl;
  shows_some = refl;
  proper = (refl, refl);
  licensed = licensed;
  only_by_first = only_by_first;
  client = (refl, (refl, (refl, tt)));
  answers = refl;
  bound = refl;
}
