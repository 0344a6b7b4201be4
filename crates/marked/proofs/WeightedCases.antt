-- The examples of weights, computed from the definitions. Assumes nothing.
use mathlib.Core.Path.{refl}
use mathlib.Core.Option.{or_else}
use lib.Count.{ones_in}
use Rattle.encoding.specs.LittleEndian.{bytes_of, little_endian}
use Rattle.lists.specs.Runs.{run}
use Rattle.validation.specs.Tests.{first_failed, relabelled}
use Rattle.atoms.specs.Sets.{set_of, size}
use Rattle.rules.specs.Model.{closure_by, consequences, model, pass_by, times}
use Rattle.rules.specs.Stable.{reduct}
use Rattle.rules.specs.Unlocking.{unlocks}
use Rattle.rules.specs.Weights.{weight_among}
use Rattle.strata.specs.Strata.{above, stratifiable, stratum}
use Rattle.records.specs.Policies.{unweighted}
use Rattle.records.specs.Records.{of_kind, read_record, records_from, records_of, rules_of}
use Rattle.records.specs.Writing.{◌if◌not◌, disclose◌if◌, credential◌weighing◌, write_record}
use Rattle.form.specs.PolicyTest.{policy_refusal, policy_tests, tests_from, weighs}
use Rattle.disclosure.specs.Disclosure.{disclosable}
use Rattle.preference.specs.Preference.{lex_before, preferred, subsets}
use Rattle.preference.specs.Question.{candidates, chosen}
use Rattle.preference.specs.Weights.{total_in}
use Rattle.rounds.specs.RoundTest.{round_refusal}
use Rattle.rounds.specs.Endings.{ending}
use Rattle.rounds.specs.Rounds.{round, worked}
use Rattle.marked.specs.Marked.{answers, turns}
use Rattle.marked.specs.Weighted.{Weighted, asked_in_turn, three_ways}

pub weighted : Weighted
unfolding ◌if◌not◌ disclose◌if◌ credential◌weighing◌ write_record bytes_of set_of little_endian read_record above stratum stratifiable weighs first_failed relabelled tests_from
    policy_tests policy_refusal or_else records_from records_of of_kind unweighted rules_of reduct times pass_by closure_by consequences model disclosable unlocks ones_in size
    subsets lex_before preferred candidates chosen total_in weight_among ending worked round_refusal round run turns answers three_ways asked_in_turn
weighted = record {
  example = refl;
  plain = refl;
  lighter = refl;
  as_heavy = refl;
  between = refl;
  weightless = refl;
  records = refl;
  lightest_accepted = refl;
  heaviest_accepted = refl;
  head_16 = refl;
  too_heavy = refl;
  negated = refl;
  equal_record = refl;
  too_heavy_again = refl;
  before_6 = refl;
  again_before_6 = refl;
  counted_by_6 = refl;
  disclosed = refl;
}
