-- The examples, computed from the definitions. Assumes nothing.
use mathlib.Core.Path.{◌≡◌, refl}
use mathlib.Core.List.{[], ◌++◌, ◌∷◌, flat_map}
use lib.Count.{ones_in}
use Rattle.encoding.specs.LittleEndian.{bytes_of, little_endian}
use Rattle.lists.specs.Runs.{run}
use Rattle.lists.specs.Sums.{sum}
use Rattle.validation.specs.Tests.{first_failed, relabelled}
use Rattle.atoms.specs.Sets.{set_of, size}
use Rattle.rules.specs.Model.{closure_by, consequences, model, pass_by, times}
use Rattle.rules.specs.Stable.{reduct}
use Rattle.rules.specs.Unlocking.{unlocks}
use Rattle.rules.specs.Weights.{weight_among}
use Rattle.strata.specs.Strata.{above, stratifiable, stratum}
use Rattle.records.specs.Records.{of_kind, read_record, records_from, records_of, rules_of}
use Rattle.records.specs.Writing.{◌if◌not◌, disclose◌if◌, write_record}
use Rattle.form.specs.PolicyTest.{policy_refusal, policy_tests, tests_from}
use Rattle.disclosure.specs.Disclosure.{disclosable}
use Rattle.preference.specs.Preference.{lex_before, preferred, subsets}
use Rattle.preference.specs.Question.{candidates, chosen}
use Rattle.preference.specs.Weights.{total_in}
use Rattle.rounds.specs.Endings.{ending}
use Rattle.rounds.specs.RoundTest.{round_refusal}
use Rattle.rounds.specs.Rounds.{round, worked}
use Rattle.marked.specs.Marked.{policy_a}
use Rattle.slots.specs.Openings.{open_at, opening_refusal}
use Rattle.slots.specs.RoundsAt.{refused_by, round_at, slot_round}
use Rattle.slots.specs.Slots.{unfinished, unfinished_of}
use Rattle.previews.specs.Previews.{preview_at, session_at}
use Rattle.transcript.specs.Numerals.{ascii, decimal_in, digit, hexadecimal}
use Rattle.station_lines.specs.Lines.{opening_line, preview_line, round_at_line}
use Rattle.station_lines.specs.Output.{acts_in, printed_by, station_output}

-- everything that an example computes with
computed : Unit {0}
unfolding ◌if◌not◌ disclose◌if◌ write_record bytes_of set_of little_endian read_record above stratum stratifiable first_failed relabelled tests_from policy_tests
    policy_refusal records_from records_of of_kind rules_of reduct times pass_by closure_by consequences model disclosable unlocks ones_in size subsets lex_before
    preferred candidates chosen total_in weight_among ending worked round_refusal round run sum unfinished_of unfinished opening_refusal open_at refused_by
    slot_round round_at policy_a acts_in printed_by station_output opening_line round_at_line preview_line preview_at session_at decimal_in digit hexadecimal flat_map
computed = tt

pub policy_A : station_output policy_a
    (1 ∷ 3 ∷ 7 ∷ 16 ∷ 0 ∷ 2 ∷ 3 ∷ 0 ∷ 0 ∷ 0 ∷ 1 ∷ 3 ∷ 8 ∷ 16 ∷ 0 ∷ 1 ∷ 64 ∷ 7 ∷ 16 ∷ 0 ∷ 2 ∷ 5 ∷ 0 ∷ 0 ∷ 0 ∷ 0 ∷ 3 ∷ 7 ∷ 16 ∷ 0 ∷ [])
    ≡ ascii "3 opened\n3 round 1 got 0000 ask 0004\n3 refused 15\n64 refused 14\n5 refused 8\n"
unfolding computed
policy_A = refl

pub previewed_A : station_output policy_a
    (1 ∷ 3 ∷ 7 ∷ 16 ∷ 0 ∷ 3 ∷ 3 ∷ 0 ∷ 0 ∷ 0 ∷ 3 ∷ 3 ∷ 0 ∷ 4 ∷ 0 ∷ 2 ∷ 3 ∷ 0 ∷ 0 ∷ 0 ∷ 3 ∷ 5 ∷ 0 ∷ 0 ∷ 0 ∷ 3 ∷ 64 ∷ 0 ∷ 0 ∷ 0 ∷ [])
    ≡ ascii "3 opened\n3 preview round 1 got 0000 ask 0004\n3 preview round 1 got 0004 grant\n3 round 1 got 0000 ask 0004\n"
    ++ ascii "5 preview refused 8\n64 preview refused 14\n"
unfolding computed
previewed_A = refl
