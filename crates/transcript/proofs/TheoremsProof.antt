-- The theorems of what the bench program prints. Assumes nothing.
use mathlib.Core.Path.{◌≡◌, refl}
use mathlib.Core.List.{[], ◌∷◌, flat_map}
use mathlib.Core.Option.{or_else}
use lib.Count.{ones_in}
use Rattle.encoding.specs.LittleEndian.{bytes_of, little_endian}
use Rattle.lists.specs.Runs.{run}
use Rattle.validation.specs.Tests.{first_failed, relabelled}
use Rattle.atoms.specs.Sets.{set_of, size}
use Rattle.rules.specs.Unlocking.{unlocks}
use Rattle.rules.specs.Model.{closure_by, consequences, model, pass_by, times}
use Rattle.rules.specs.Stable.{reduct}
use Rattle.rules.specs.Weights.{weight_among}
use Rattle.strata.specs.Strata.{above, stratifiable, stratum}
use Rattle.records.specs.Records.{of_kind, read_record, records_from, records_of, rules_of}
use Rattle.records.specs.Writing.{◌if◌not◌, disclose◌if◌, write_record}
use Rattle.form.specs.PolicyTest.{policy_refusal, policy_tests, tests_from}
use Rattle.disclosure.specs.Disclosure.{disclosable}
use Rattle.preference.specs.Preference.{lex_before, preferred, subsets}
use Rattle.preference.specs.Question.{candidates, chosen}
use Rattle.preference.specs.Weights.{total_in}
use Rattle.rounds.specs.Endings.{ending}
use Rattle.rounds.specs.Rounds.{opening, round, worked}
use Rattle.rounds.specs.RoundTest.{opening_tests, round_refusal, session_refusal}
use Rattle.marked.specs.Marked.{policy_a}
use Rattle.transcript.specs.Events.{events, input_records, round_events}
use Rattle.transcript.specs.Lines.{refused_line, round_line}
use Rattle.transcript.specs.Numerals.{ascii, decimal_in, digit, hexadecimal}
use Rattle.transcript.specs.Output.{output, printed}
use Rattle.transcript.specs.Theorems.{Theorems}
use Rattle.transcript.proofs.NumeralProofs as numerals
use Rattle.transcript.proofs.OutputLaws.{events_told, lines, outputs}
use Rattle.transcript.proofs.StepLaws.{bytes_events, bytes_output, ended_nothing, nothing_ended, output_more, output_stops, reads_output}

policy_A : output policy_a (0x10 ∷ 0x00 ∷ 0x00 ∷ 0x00 ∷ 0x00 ∷ 0x00 ∷ 0x03 ∷ 0x00 ∷ [])
    ≡ ascii "round 1 got 0000 ask 0004\nround 2 got 0000 ask 0003\nround 3 got 0003 grant\n"
unfolding ◌if◌not◌ disclose◌if◌ write_record bytes_of set_of little_endian read_record above stratum stratifiable first_failed relabelled tests_from
    policy_tests policy_refusal or_else records_from records_of of_kind rules_of reduct times pass_by closure_by consequences model disclosable unlocks ones_in size
    subsets lex_before preferred candidates chosen total_in weight_among ending worked opening_tests session_refusal round_refusal round run opening policy_a output printed events input_records
    round_events round_line refused_line decimal_in digit hexadecimal flat_map
policy_A = refl

pub theorems : Theorems
theorems = record {
  at_most = refl;
  numerals = numerals.theorems;
  steps = record {
    told = bytes_events;
    bytes = bytes_output;
    reads = reads_output;
    at_once = output_more;
    ended = ended_nothing;
    ends = nothing_ended;
    stops = output_stops;
  };
  lines = lines;
  events = events_told;
  outputs = outputs;
  policy_A = policy_A;
}
