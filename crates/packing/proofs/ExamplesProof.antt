-- The cases from C, computed from the definitions. Assumes nothing.
use mathlib.Core.Path.{◌∙◌, ◌≡◌, ap, refl}
use mathlib.Core.List.{List, [], ◌∷◌, map}
use Prim.Native.Nat.{ℕ}
use lib.Count.{ones_in}
use Rattle.encoding.specs.LittleEndian.{bytes_of, little_endian}
use Rattle.lists.specs.Runs.{Turn, run}
use Rattle.validation.specs.Tests.{first_failed, relabelled}
use Rattle.atoms.specs.Sets.{set_of, size}
use Rattle.rules.specs.Model.{closure_by, consequences, model, pass_by, times}
use Rattle.rules.specs.Stable.{reduct}
use Rattle.rules.specs.Unlocking.{unlocks}
use Rattle.rules.specs.Weights.{weight_among}
use Rattle.strata.specs.Strata.{above, stratifiable, stratum}
use Rattle.records.specs.Records.{of_kind, read_record, records_from, records_of, rules_of}
use Rattle.records.specs.Writing.{◌if◌not◌, disclose◌if◌, write_record}
use Rattle.form.specs.PolicyTest.{policy_refusal, policy_tests, tests_from}
use Rattle.disclosure.specs.Disclosure.{disclosable}
use Rattle.preference.specs.Preference.{lex_before, preferred, subsets}
use Rattle.preference.specs.Question.{candidates, chosen}
use Rattle.preference.specs.Weights.{total_in}
use Rattle.rounds.specs.Endings.{ask, ending, grant}
use Rattle.rounds.specs.Moves.{showing}
use Rattle.rounds.specs.Refusals.{number}
use Rattle.rounds.specs.RoundTest.{opening_tests, round_refusal}
use Rattle.rounds.specs.Rounds.{Answer, Outcome, ends, opening, refused, round, worked}
use Rattle.rounds.specs.Sessions.{Phase, closed, granted, opened, waiting}
use Rattle.demands.specs.Promises.{Visit, under, visits_of}
use Rattle.marked.specs.Marked.{policy_a}
use Rattle.packing.specs.Examples.{Examples, fresh16, visits}
use Rattle.packing.specs.Exports.{calls_from, check_reply, open_call, round_call}
use Rattle.packing.specs.Packed.{packed, unpacked}
use Rattle.packing.specs.Theorems.{call_of}
use Rattle.packing.proofs.ListLaws.{calls}

-- ---- "(a) the three rounds above", and one more: the rounds, and then what they come to as calls

-- a round that showed p, with its answer, and the session's shown and declined set, count and phase after it
turn : ℕ → Answer → ℕ → ℕ → ℕ → Phase → Turn Visit Outcome
turn p a P N n ph = record {
  takes = under policy_a (showing p);
  gives = record { answer = a; session = record { request = 16; shown = P; declined = N; count = n; phase = ph } };
}

turns : List (Turn Visit Outcome)
turns =
    turn 0 (ends (ask (record { asks = 4 }))) 0 0 1 (waiting (record { asks = 4 }))
    ∷ turn 0 (ends (ask (record { asks = 3 }))) 0 4 2 (waiting (record { asks = 3 }))
    ∷ turn 3 (ends grant) 3 4 3 (closed granted)
    ∷ turn 0 (refused (number 9)) 3 4 3 (closed granted)
    ∷ []

abbrev shown : List Visit
shown = visits policy_a (0x0000 ∷ 0x0000 ∷ 0x0003 ∷ 0x0000 ∷ [])

visited : visits_of (opened 16) shown ≡ turns
unfolding ◌if◌not◌ disclose◌if◌ write_record bytes_of set_of little_endian read_record above stratum stratifiable first_failed relabelled tests_from policy_tests
    policy_refusal records_from records_of of_kind rules_of reduct times pass_by closure_by consequences model disclosable unlocks ones_in size subsets lex_before
    preferred candidates chosen total_in weight_among ending worked round_refusal round run policy_a turn turns
visited = refl

fresh_bytes : fresh16 ≡ packed (opened 16)
unfolding packed
fresh_bytes = refl

called : calls_from fresh16 shown ≡ map (λ (t : Turn Visit Outcome). call_of t.gives) turns
called =
    ap (λ (bytes : List ℕ). calls_from bytes shown) fresh_bytes
    ∙ calls (opened 16) shown
    ∙ ap (map (λ (t : Turn Visit Outcome). call_of t.gives)) visited

-- ---- all of them

pub examples : Examples
unfolding ◌if◌not◌ disclose◌if◌ write_record bytes_of set_of little_endian read_record above stratum stratifiable first_failed relabelled tests_from policy_tests
    policy_refusal records_from records_of of_kind rules_of reduct times pass_by closure_by consequences model disclosable unlocks ones_in size subsets lex_before
    preferred candidates chosen total_in weight_among ending worked round_refusal round run opening_tests opening policy_a packed unpacked check_reply open_call round_call calls_from
    turn turns
examples = record { opened = refl; unopened = refl; a = called; b = refl; f = refl; f_itself = refl; no_session = refl }
