-- Seventeen rounds under changing policies, computed from the definitions. Assumes nothing.
use mathlib.Core.Path.{◌≡◌, refl}
use mathlib.Core.Bool.{Bool, ◌&&◌, true}
use mathlib.Core.List.{List, [], ◌∷◌}
use mathlib.Core.Option.{or_else}
use Prim.Native.Nat.{ℕ}
use lib.Count.{ones_in}
use lib.Dec.{ltb}
use native.Mathlib.Omega.{arith}
use Rattle.encoding.specs.LittleEndian.{Bytes, bytes_of, little_endian}
use Rattle.lists.specs.Lists.{Every}
use Rattle.lists.specs.Runs.{run}
use Rattle.lists.proofs.ListLaws.{every_map}
use Rattle.validation.proofs.DecideLaws.{decides_lt}
use Rattle.validation.proofs.TestLaws.{and_true}
use Rattle.validation.specs.Unless.{given}
use Rattle.validation.specs.Tests.{first_failed, relabelled}
use Rattle.atoms.specs.Sets.{set_of, size}
use Rattle.rules.specs.Unlocking.{unlocks}
use Rattle.rules.specs.Model.{closure_by, consequences, model, pass_by, times}
use Rattle.rules.specs.Stable.{reduct}
use Rattle.rules.specs.Weights.{weight_among}
use Rattle.strata.specs.Strata.{above, stratifiable, stratum}
use Rattle.records.specs.Records.{of_kind, read_record, records_from, records_of, rules_of}
use Rattle.records.specs.Writing.{◌if◌not◌, disclose◌if◌, write_record}
use Rattle.form.specs.PolicyTest.{policy_tests, tests_from}
use Rattle.disclosure.specs.Disclosure.{disclosable}
use Rattle.preference.specs.Preference.{lex_before, preferred, subsets}
use Rattle.preference.specs.Question.{candidates, chosen}
use Rattle.preference.specs.Weights.{total_in}
use Rattle.rounds.specs.RoundTest.{opening_tests, round_refusal, session_refusal}
use Rattle.rounds.specs.Endings.{ending}
use Rattle.rounds.specs.Rounds.{opening, round, worked}
use Rattle.rounds.specs.Sessions.{opened}
use Rattle.demands.specs.Lists.{accepted_of}
use Rattle.demands.specs.Promises.{Fitting}
use Rattle.demands.specs.Longest.{Seventeen, changing, in_turn, policy_on, visit_on}

-- ---- bytes, by a test

unfoldable pub byte_test : List ℕ → Bool
byte_test [] = true
byte_test (b ∷ bs) = ltb b 256 && byte_test bs

pub test_bytes : (bs : List ℕ) → byte_test bs ≡ true → Bytes bs
unfolding byte_test
test_bytes [] e = tt
test_bytes (b ∷ bs) e = let h = and_true (ltb b 256) (byte_test bs) e in ((decides_lt b 256).0 h.0, test_bytes bs h.1)

-- ---- seventeen rounds

-- everything that they compute with
computed : Unit {0}
unfolding ◌if◌not◌ disclose◌if◌ write_record bytes_of set_of little_endian read_record above stratum stratifiable first_failed relabelled tests_from policy_tests
    or_else records_from records_of of_kind rules_of reduct times pass_by closure_by consequences model disclosable unlocks ones_in size subsets
    lex_before preferred candidates chosen total_in weight_among ending worked opening_tests session_refusal round_refusal round run opening accepted_of in_turn policy_on
    byte_test
computed = tt

opens : opening 16 ≡ given (opened 16)
unfolding computed
opens = refl

fitting : Every Fitting changing
unfolding computed
fitting =
    every_map (λ k. byte_test (policy_on k) ≡ true) Fitting visit_on (λ k e. (test_bytes (policy_on k) e, omega arith)) in_turn
    (refl, (refl, (refl, (refl, (refl, (refl, (refl, (refl, (refl, (refl, (refl, (refl, (refl, (refl, (refl, (refl, (refl, tt)))))))))))))))))

pub seventeen : Seventeen
unfolding computed
seventeen = record { opens = opens; fitting = fitting; rounds = refl; reached = refl }
