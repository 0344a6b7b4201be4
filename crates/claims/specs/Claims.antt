-- The theorems of the gate that a customer reads, on one page; proofs/ClaimsProof has them all (the search for C, crate `probe`, has its own). What
-- they leave to belief is that the words in which they are stated say what the papers say. These are, crate by crate:
-- encoding: Bytes, bytes_of, little_endian
-- lists: Every, OneOf, Each, passed, Turn, run, last, reached, sum
-- validation: AllHold, FirstBroken, BrokenThere, DecideAll, relabelled, Unless, GivenExactly
-- atoms: Member, bit, Subset
-- rules: Rule, Policy, Headed, Levelled, Stratified, BodyHolds, ClosedBeside, Closed, Least, Stable, OneStable, Unlocks, Equivalent, by_level,
--   of_level, weight_among, weight_in, WeightTable, times
-- iteration: heads_of, atoms_added, after_passes, Idle, LeastIdle, ClosedIn, RulesClosedIn, ReachedIn, Counts, and what Examples names
-- strata: Levelable, level_of, SizedBody, Over64; Uses, DependsIn, NegatedLoop
-- records: Record, read_record, record_at, records_before, records_of, rules_of, policy_of, unweighted, Sized, write_records, with_record, ◌if◌not◌,
--   disclose◌if◌, credential◌weighing◌
-- levels: level_at, Low, Levels, Fine
-- form: Refusal, PolicyNumber; the statements that PolicyForm lists, WellFormed, PolicyRefused; and Tested, Numbers, Written, RecordAllowed,
--   SecondWeight, Faulty, Ragged, Unlevelled, which say the same without the list; Weighs, Weights; Gives
-- arrays: rules_in, Placed, KeepLevels, LaidOut, evaluated
-- disclosure: Disclosable, Askable, Discloses, GivesDisclosable
-- model: GivesModel
-- preference: Question, Lighter, Preferred, PreferredOf, keys_by, candidates, preferred_in; Before, First, Searched, Result, place, cost_of, weight_of,
--   weights_of, WeightsListed, total, LightestOf, subset_of, question_at, question_for; Members, Different, taken, switched
-- relevance: Follows, Bearing, Relevant, SameOn, kept, kept_levels, KeptIn, SameAnswer
-- lane_table: lane, EachLane
-- lane_fixpoint: LanesClosedIn, EachClosedIn
-- rounds: Session, Move, showing, Ending, Refusal, Answer, Outcome; Service, SoundSession, SixteenBit, Finished, with their parts; opened, rounds_of;
--   the statements that RoundForm lists, and RoundNumbers, which says the same without the list
-- demands: Round, accepted_of, SomeRound, SomeNext, Asks, Final, Over, ByRound; Demand1; Missing, FirstMissing, DeniedWhen, Demand2; Responds,
--   session_from and the other clauses of Demand3, askable_count, lacked_count, Licensed, Client, Admitted; FreshFor, Opening, AcceptedRound,
--   RoundPromise, SoundAndFits, OpeningMeets, RoundMeets; Visit, Fitting, under, visits_of, AlwaysSound; policy_on, visit_on, changing, asked, AtMost;
--   policy_c, held, shown_first, unlocking, turns_c, asking; SameButQuestions
-- marked: policy_a, policy_b, unlocks_by, turns, answers, lines, asking; three_ways, asked_in_turn
-- former: level; the statements that FormerForm lists, FormerlyWellFormed, FormerlyRefused, FormerlyTested; former_model, former_disclosable,
--   former_round, former_rounds, Unchanged
-- slots: Slot, slot_at, InTable, Unfinished, HoldsUnfinished, Free, UnfinishedOf, FallingBelow, Owns, Fits; the statements that OpeningForm and
--   RoundAtForm list, and OpeningNumbers, RoundAtNumbers, which say the same without the lists; Reply, OpeningAtMeets, RoundAtMeets
-- operations: Operation, named, Answered, operate, Step, steps_of, Fitting, AllEmpty, AtMostFour, SoundSlot; rounds_at, turns_at, moves_at, NotOpened, OnePolicy,
--   OneSession, and what Examples names
-- previews: Preview, session_at, preview_slot, PreviewMeets, RoundAfter; Act, Told, act, Acted, acts_of, slots_after, operations_in, steps_in, Between, and
--   what Examples names
-- table_calls: Call, left_by, step_of, operation_of, Calls, Kept
-- preview_calls: Call, left_by, Kept, Calls, left_after, without_previews
-- replay: Calls, turn_of, moves_of
-- packing: Packable, packed, unpacked, ten_bytes, Call, open_call, round_call, calls_from, check_reply, set_reply, set_after, reply_for, call_of, Told with
--   its parts, asked_in, and what Examples names
-- slot_packing: packed_slot, unpacked_slot, packed_table, open_at_call, round_at_call, preview_at_call, table_calls, PackableSlot, twelve_at, There, NoSlot, Reads,
--   OthersKept, before_others, open_reply_for, answered_for, call_for, FourInBytes, Previewed
-- transcript: ascii, Says, Hexadecimal, Decimal; Event, events, input_records; printed, output, records_output, refused_line, round_line, round_lines;
--   Reader, begun, is_ended, byte_step, bytes_run, read_step, reads_run, told_by, printed_by
-- console: Calls, turn_of, input_of, told_in, reader_after, reader_of, events_of, step_of
-- lines: text_of, Prints, Printing, calls_in, text_in, Printings
-- station_table: empty_table, count_at
-- station_lines: opening_line, round_at_line, preview_line; acts_in, printed_by, station_output; record_step, Does, Calls, input_of, text_in
-- logs: Entry, read_entry, write_entry, entry_at, entries_of, FitsEntry, SaidAt; HasEntry, Whole, SoundEntry, SoundLog, UnsoundLog; Agree, Agreeing,
--   AgreeAt, DifferAt, EndsAt, PartAt, compared, Compares, and what Examples names
-- session_logs: round_record, ending_entry, Recordable, RecordBytes, SameRound; log_of, LogSays, Played; Said, said_of, endings_of, Meets, BreaksBy,
--   AnswersOtherwise, ImplementationsCompared; record_call, Recorded, comparison_reply, place_after
-- recording: event_record, logged, event_notice, noticed, recorded_log, recorded_notice, Writes; written_of, Writing, WrittenAs, Writings, calls_of, log_in,
--   notice_in
-- recorder: logged_of
-- and the cases of the types among them, and the maps from the program's types (specs/Types of records, policy, disclosure, model, search, question,
-- session, slot_steps, slot_preview, occupancy, station_table, replay, entries, log_comparison and recorder; specs/Steps of console). What a word computes is no
-- matter of belief where a theorem here says what it gives: the operations on sets, the closure, the model, the disclosable set, the tests, the
-- preferred question, the sets shown and declined, the digits. That bytes lent for reading are not written says the type of the parameter, `&`, in each
-- function that a host or a client calls. Demands 1 and 2 of each call stand in the contracts of `open`, `round`, `open_at`, `round_at` and `preview_at`,
-- demand 3 of a whole list in that of `replay`, and that an event's line says its text in that of `of_event`. Assumes nothing.
use Rattle.std.specs.Prelude.{◌≡◌, List, ◌<◌, ◌^◌, ℕ}
use Rattle.encoding.specs.LittleEndian.{Bytes}
use Rattle.encoding.specs.Theorems as encoding
use Rattle.lists.specs.Lists.{Every}
use Rattle.lists.specs.Theorems as run
use Rattle.validation.specs.Unless.{given}
use Rattle.validation.specs.Theorems as validation
use Rattle.atoms.specs.Meaning.{Meaning}
use Rattle.rules.specs.Theorems as rules
use Rattle.iteration.specs.Examples.{Examples}
use Rattle.iteration.specs.Theorems as iteration
use Rattle.strata.specs.Theorems as strata
use Rattle.records.specs.Theorems as records
use Rattle.form.specs.Theorems as form
use Rattle.policy.specs.Theorems as policy
use Rattle.arrays.specs.Theorems as arrays
use Rattle.layout.specs.Theorems as layout
use Rattle.disclosure.specs.Theorems as disclosure
use Rattle.model.specs.Theorems as model
use Rattle.preference.specs.Theorems as preference
use Rattle.preference.specs.OrderTheorems.{OrderTheorems}
use Rattle.preference.specs.Switching.{SwitchTheorems}
use Rattle.relevance.specs.Theorems as relevance
use Rattle.lane_fixpoint.specs.Theorems as lane-fixpoint
use Rattle.search.specs.Theorems as search
use Rattle.question.specs.Theorems as question
use Rattle.rounds.specs.Moves.{Move}
use Rattle.rounds.specs.Rounds.{opening, round}
use Rattle.rounds.specs.Sessions.{Session}
use Rattle.rounds.specs.Theorems as rounds
use Rattle.demands.specs.Admittance.{Admittance}
use Rattle.demands.specs.Demand1.{Demand1}
use Rattle.demands.specs.Demand3.{Demand3Holds}
use Rattle.demands.specs.Lists.{ListsMean}
use Rattle.demands.specs.Longest.{Longest}
use Rattle.demands.specs.Promises.{AlwaysSound, Fitting, Opening, RoundPromise, RoundsKeepSound, Visit, VisitsMean}
use Rattle.demands.specs.Weights.{WeightsAside}
use Rattle.marked.specs.Marked.{Marked}
use Rattle.marked.specs.Weighted.{Weighted}
use Rattle.former.specs.Theorems as former
use Rattle.slots.specs.Theorems as slots
use Rattle.operations.specs.Theorems as operations
use Rattle.previews.specs.Theorems as previews
use Rattle.session.specs.Theorems as session
use Rattle.slot_steps.specs.Theorems as slot_steps
use Rattle.slot_preview.specs.Theorems as slot_preview
use Rattle.occupancy.specs.Theorems as occupancy
use Rattle.table_calls.specs.Theorems as table_calls
use Rattle.preview_calls.specs.Theorems as preview_calls
use Rattle.replay.specs.Theorems as replay
use Rattle.packing.specs.Theorems as packing
use Rattle.slot_packing.specs.Theorems as slot_packing
use Rattle.transcript.specs.Theorems as transcript
use Rattle.console.specs.Theorems as console
use Rattle.lines.specs.Theorems as lines
use Rattle.station_lines.specs.Theorems as station_lines
use Rattle.logs.specs.Theorems as logs
use Rattle.session_logs.specs.Theorems as session_logs
use Rattle.entries.specs.Theorems as entries
use Rattle.log_comparison.specs.Theorems as log
use Rattle.recorder.specs.Theorems as recorder
use Rattle.recording.specs.Theorems as recording
use Rattle.claims.specs.Constants.{Constants}

pub record Claims : Type 1 where
  -- the papers' numbers
  pub constants : Constants
  -- numbers as bytes
  pub bytes : encoding.Theorems
  -- tests in order: the first that fails is the first statement that does not hold
  pub tests : validation.Theorems
  -- sets of atoms as numbers: what each operation means
  pub sets : Meaning
  -- the closure is the least closed set, and the model the one stable set, also level by level; what it is to unlock
  pub models : rules.Theorems
  -- passes until one adds nothing: there is a first that is idle, for every list of rules and every set, and how soon it comes; counts of chosen cases
  pub passes : iteration.Theorems
  pub pass_counts : Examples
  -- document 02, R-4: whether rules have levels at all, and which; a loop through a negation is what leaves none
  pub levels : strata.Theorems
  -- what a record's writer writes is what its reader reads
  pub encoding : records.Theorems
  -- demand 1, of the policy's test; an accepted policy has one stable set over every set of credentials; and what credentials weigh under it
  pub policies : form.Theorems
  -- what the answers of the policy's test mean is one-to-one
  pub checks : policy.Theorems
  -- rules in arrays, laid out by any levels that they keep, have the model, and so have the policy's
  pub arrays : arrays.Theorems
  pub laid_out : layout.Theorems
  -- the disclosable set of a policy, or its refusal; the askable credentials, which d and u count
  pub disclosures : disclosure.Theorems
  -- the model of a policy, or its refusal
  pub answers : model.Theorems
  -- the preferred question: which one it is, and that rules in arrays and weights in a table prefer the same
  pub preferred : preference.Theorems
  -- candidates by number: their order by cost, their places, what a search with a limit answers, and that the first by cost is the preferred question
  pub orders : OrderTheorems
  -- what a candidate tries
  pub switches : SwitchTheorems
  -- rules that bear on no answer may be left out
  pub relevances : relevance.Theorems
  -- 256 sets closed at once: what the count of passes says, lane by lane
  pub lanes : lane-fixpoint.Theorems
  -- what the answers of the search and of the question mean is one-to-one
  pub searches : search.Theorems
  pub questions : question.Theorems
  -- the tests of a session; demand 1 number by number, without the lists; what a round does to a session
  pub sessions : rounds.Theorems
  -- what the program's sessions and outcomes mean
  pub types : session.Theorems
  -- what opening gives for each request, a 16-bit number
  pub opens : (r : ℕ) → r < 2 ^ 16 → Opening r (opening r)
  -- demand 1, and demand 2 with what an accepted round does to the session, of a round of any session
  pub demand1 : (bytes : List ℕ) → Bytes bytes → (s : Session) (m : Move) → m.shows < 2 ^ 16 → Demand1 bytes s m (round bytes s m)
  pub demand2 : (bytes : List ℕ) → Bytes bytes → (s : Session) (m : Move) → m.shows < 2 ^ 16 → RoundPromise bytes s m (round bytes s m)
  -- demand 3 of the definitions; what its lists say; and what holds of lists and runs, step by step
  pub demand3 : Demand3Holds
  pub lists : ListsMean
  pub runs : run.Theorems
  -- demand 3's last sentence is not empty: a client that meets its premise only by what it shows first
  pub admittance : Admittance
  -- demand 3 of the program's calls, and which lists of calls it is about
  pub program : replay.Theorems
  -- "Every session that opening and rounds give is sound": of one round under any policy, accepted or not
  pub stays_sound : RoundsKeepSound
  -- "Every session that opening and rounds give is sound, also when policies are changed between rounds. The longest sessions have 17 rounds."
  pub always_sound : (r : ℕ) (s : Session) → opening r ≡ given s → (vs : List Visit) → Every Fitting vs → AlwaysSound s vs
  -- "The longest sessions have 17 rounds.": 17 are reached, and no smaller number bounds them all
  pub longest : Longest
  -- which list of turns those visits are, each under its own policy
  pub visits : VisitsMean
  -- the record of ten bytes and the replies from C, and demand 3 of calls from there
  pub exported : packing.Theorems
  pub marked : Marked
  -- document 02, R-2: examples of weights, and what weights leave as it is
  pub weighted : Weighted
  pub weights_aside : WeightsAside
  -- document 02, R-4: policies accepted before keep their models, and every other answer
  pub former : former.Theorems
  -- what the bench program prints, from the bytes of two files, and that its steps print this
  pub printed : transcript.Theorems
  pub steps : console.Theorems
  -- and that the lines of the calls are the output
  pub lines : lines.Theorems
  -- document 02, R-1: log records, and what the comparison of two logs answers
  pub logs : logs.Theorems
  -- the log of a list of rounds, what a comparison says of two implementations, and both from C
  pub recorded : session_logs.Theorems
  -- what the program's log record, the answer of a comparison and the record of a round mean is one-to-one
  pub log_records : entries.Theorems
  pub comparisons : log.Theorems
  pub round_records : recorder.Theorems
  -- what the program that records a session's log writes
  pub recording : recording.Theorems
  -- document 02, R-5: slots, and when an opening and a round at one are answered how
  pub slots : slots.Theorems
  -- every list of openings and rounds: four of an owner's at most, sound sessions, what is never read, and demand 3 at a slot
  pub operations : operations.Theorems
  -- what the program's slots, lists of them and answers mean is one-to-one
  pub slot_types : slot_steps.Theorems
  pub tables : occupancy.Theorems
  -- four at most, sound sessions and demand 3 at a slot, of lists of calls of the program's functions
  pub table_calls_lem : table_calls.Theorems
  -- document 02, R-6: what a preview gives, the round afterwards, and previews among openings and rounds
  pub previews : previews.Theorems
  -- what the program's previews mean is one-to-one
  pub preview_types : slot_preview.Theorems
  -- previews among calls of the program's functions
  pub preview_calls : preview_calls.Theorems
  -- tables of slots in bytes: each slot's twelve bytes, what each call from C replies and leaves, and lists of calls
  pub packed_tables : slot_packing.Theorems
  -- what the station program prints, from the bytes of two files, and that the lines of its calls are this
  pub station : station_lines.Theorems
