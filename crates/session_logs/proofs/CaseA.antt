-- Document 01's case (a) as a log: its rounds, and then their records, computed. Assumes nothing.
use mathlib.Core.Path.{◌∙◌, ◌≡◌, ap, refl}
use mathlib.Core.List.{List, [], ◌∷◌, flat_map, map}
use mathlib.Core.Option.{or_else}
use Prim.Native.Nat.{ℕ}
use lib.Count.{ones_in}
use Rattle.encoding.specs.LittleEndian.{bytes_of, little_endian}
use Rattle.lists.specs.Runs.{Turn, run}
use Rattle.validation.specs.Tests.{first_failed, relabelled}
use Rattle.atoms.specs.Sets.{set_of, size}
use Rattle.rules.specs.Model.{closure_by, consequences, model, pass_by, times}
use Rattle.rules.specs.Stable.{reduct}
use Rattle.rules.specs.Unlocking.{unlocks}
use Rattle.rules.specs.Weights.{weight_among}
use Rattle.strata.specs.Strata.{above, stratifiable, stratum}
use Rattle.records.specs.Records.{of_kind, read_record, records_from, records_of, rules_of}
use Rattle.records.specs.Writing.{◌if◌not◌, disclose◌if◌, write_record}
use Rattle.form.specs.PolicyTest.{policy_refusal, policy_tests, tests_from}
use Rattle.disclosure.specs.Disclosure.{disclosable}
use Rattle.preference.specs.Preference.{lex_before, preferred, subsets}
use Rattle.preference.specs.Question.{candidates, chosen}
use Rattle.preference.specs.Weights.{total_in}
use Rattle.rounds.specs.Endings.{ask, ending, grant}
use Rattle.rounds.specs.Moves.{Move, showing}
use Rattle.rounds.specs.Refusals.{number}
use Rattle.rounds.specs.RoundTest.{round_refusal, session_refusal}
use Rattle.rounds.specs.Rounds.{Answer, Outcome, ends, refused, round, rounds_of, worked}
use Rattle.rounds.specs.Sessions.{Phase, closed, granted, opened, waiting}
use Rattle.marked.specs.Marked.{policy_a}
use Rattle.logs.specs.Entries.{write_entry}
use Rattle.session_logs.specs.RoundRecords.{round_record}
use Rattle.session_logs.specs.SessionLogs.{log_of}

-- a round that showed p, with its answer, and the session's shown and declined set, count and phase after it
turn : ℕ → Answer → ℕ → ℕ → ℕ → Phase → Turn Move Outcome
turn p a P N n ph =
    record { takes = showing p; gives = record { answer = a; session = record { request = 16; shown = P; declined = N; count = n; phase = ph } } }

rounds : List (Turn Move Outcome)
rounds =
    turn 0 (ends (ask (record { asks = 4 }))) 0 0 1 (waiting (record { asks = 4 }))
    ∷ turn 0 (ends (ask (record { asks = 3 }))) 0 4 2 (waiting (record { asks = 3 }))
    ∷ turn 3 (ends grant) 3 4 3 (closed granted)
    ∷ turn 0 (refused (number 9)) 3 4 3 (closed granted)
    ∷ []

played : rounds_of policy_a (opened 16) (map showing (0x0000 ∷ 0x0000 ∷ 0x0003 ∷ 0x0000 ∷ [])) ≡ rounds
unfolding ◌if◌not◌ disclose◌if◌ write_record bytes_of set_of little_endian read_record above stratum stratifiable first_failed relabelled tests_from
    policy_tests policy_refusal or_else records_from records_of of_kind rules_of reduct times pass_by closure_by consequences model disclosable unlocks ones_in size
    subsets lex_before preferred candidates chosen total_in weight_among ending worked session_refusal round_refusal round run policy_a turn rounds
played = refl

recorded : log_of rounds
    ≡ 0x00
    ∷ 0x00
    ∷ 3
    ∷ 0x04
    ∷ 0x00
    ∷ 1
    ∷ 0
    ∷ 0
    ∷ 0x00
    ∷ 0x00
    ∷ 3
    ∷ 0x03
    ∷ 0x00
    ∷ 2
    ∷ 0
    ∷ 0
    ∷ 0x03
    ∷ 0x00
    ∷ 1
    ∷ 0x00
    ∷ 0x00
    ∷ 3
    ∷ 0
    ∷ 0
    ∷ []
unfolding rounds turn log_of flat_map round_record write_entry bytes_of
recorded = refl

pub policy_A : log_of (rounds_of policy_a (opened 16) (map showing (0x0000 ∷ 0x0000 ∷ 0x0003 ∷ 0x0000 ∷ [])))
    ≡ 0x00
    ∷ 0x00
    ∷ 3
    ∷ 0x04
    ∷ 0x00
    ∷ 1
    ∷ 0
    ∷ 0
    ∷ 0x00
    ∷ 0x00
    ∷ 3
    ∷ 0x03
    ∷ 0x00
    ∷ 2
    ∷ 0
    ∷ 0
    ∷ 0x03
    ∷ 0x00
    ∷ 1
    ∷ 0x00
    ∷ 0x00
    ∷ 3
    ∷ 0
    ∷ 0
    ∷ []
policy_A = ap log_of played ∙ recorded
