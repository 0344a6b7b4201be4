-- The examples, computed from the definitions. Assumes nothing.
use mathlib.Core.Path.{refl}
use lib.Count.{ones_in}
use Rattle.encoding.specs.LittleEndian.{bytes_of, little_endian}
use Rattle.lists.specs.Runs.{last, run}
use Rattle.lists.specs.Sums.{sum}
use Rattle.validation.specs.Tests.{first_failed, relabelled}
use Rattle.atoms.specs.Sets.{set_of, size}
use Rattle.rules.specs.Model.{closure_by, consequences, model, pass_by, times}
use Rattle.rules.specs.Stable.{reduct}
use Rattle.rules.specs.Unlocking.{unlocks}
use Rattle.rules.specs.Weights.{weight_among}
use Rattle.strata.specs.Strata.{above, stratifiable, stratum}
use Rattle.records.specs.Records.{of_kind, read_record, records_from, records_of, rules_of}
use Rattle.records.specs.Writing.{◌if◌not◌, disclose◌if◌, write_record}
use Rattle.form.specs.PolicyTest.{policy_refusal, policy_tests, tests_from}
use Rattle.disclosure.specs.Disclosure.{disclosable}
use Rattle.preference.specs.Preference.{lex_before, preferred, subsets}
use Rattle.preference.specs.Question.{candidates, chosen}
use Rattle.preference.specs.Weights.{total_in}
use Rattle.rounds.specs.Endings.{ending}
use Rattle.rounds.specs.RoundTest.{round_refusal}
use Rattle.rounds.specs.Rounds.{round, worked}
use Rattle.marked.specs.Marked.{policy_a}
use Rattle.slots.specs.Openings.{open_at, opening_refusal}
use Rattle.slots.specs.RoundsAt.{refused_by, round_at, slot_round}
use Rattle.slots.specs.Slots.{unfinished, unfinished_of}
use Rattle.previews.specs.Acts.{slots_after}
use Rattle.previews.specs.Examples.{Examples}
use Rattle.previews.specs.Previews.{preview_at, session_at}

pub examples : Examples
unfolding ◌if◌not◌ disclose◌if◌ write_record bytes_of set_of little_endian read_record above stratum stratifiable first_failed relabelled tests_from policy_tests
    policy_refusal records_from records_of of_kind rules_of reduct times pass_by closure_by consequences model disclosable unlocks ones_in size subsets lex_before
    preferred candidates chosen total_in weight_among ending worked round_refusal round run last sum unfinished_of unfinished opening_refusal open_at refused_by
    slot_round round_at policy_a session_at preview_at slots_after
examples = record {
  empty = refl;
  past = refl;
  past_63 = refl;
  last_slot = refl;
  asks = refl;
  grants = refl;
  finished = refl;
  no_service = refl;
  broken_asked = refl;
  broken_empty = refl;
  broken_past = refl;
  looked = refl;
  left = refl;
}
