-- Every theorem of specs/Claims. Assumes nothing.
use mathlib.Core.Path.{refl}
use Rattle.encoding.proofs.TheoremsProof as encoding
use Rattle.lists.proofs.TheoremsProof as run
use Rattle.validation.proofs.TheoremsProof as validation
use Rattle.atoms.proofs.MeaningProof.{meaning}
use Rattle.rules.proofs.TheoremsProof as rules
use Rattle.iteration.proofs.ExamplesProof.{examples}
use Rattle.iteration.proofs.TheoremsProof as iteration
use Rattle.strata.proofs.TheoremsProof as strata
use Rattle.records.proofs.TheoremsProof as records
use Rattle.form.proofs.TheoremsProof as form
use Rattle.policy.proofs.TheoremsProof as policy
use Rattle.arrays.proofs.TheoremsProof as arrays
use Rattle.layout.proofs.TheoremsProof as layout
use Rattle.disclosure.proofs.TheoremsProof as disclosure
use Rattle.model.proofs.TheoremsProof as model
use Rattle.preference.proofs.TheoremsProof as preference
use Rattle.preference.proofs.OrderTheoremsProof as order
use Rattle.preference.proofs.SwitchLaws as switching
use Rattle.relevance.proofs.TheoremsProof as relevance
use Rattle.lane_fixpoint.proofs.TheoremsProof as lane-fixpoint
use Rattle.search.proofs.TheoremsProof as search
use Rattle.question.proofs.TheoremsProof as question
use Rattle.rounds.proofs.TheoremsProof as rounds
use Rattle.demands.proofs.AdmittanceProof.{admittance}
use Rattle.demands.proofs.Demand1Proof.{demand1}
use Rattle.demands.proofs.Demand3Proof.{demand3_holds}
use Rattle.demands.proofs.ListLaws.{lists_mean}
use Rattle.demands.proofs.LongestProof.{longest}
use Rattle.demands.proofs.PromiseProof.{opening_promise, round_promise}
use Rattle.demands.proofs.VisitProof.{always_sound, rounds_keep_sound, visits_mean}
use Rattle.demands.proofs.WeightsProof.{weights_aside}
use Rattle.marked.proofs.MarkedCases.{marked}
use Rattle.marked.proofs.WeightedCases.{weighted}
use Rattle.former.proofs.TheoremsProof as former
use Rattle.slots.proofs.TheoremsProof as slots
use Rattle.operations.proofs.TheoremsProof as operations
use Rattle.previews.proofs.TheoremsProof as previews
use Rattle.session.proofs.TheoremsProof as session
use Rattle.slot_steps.proofs.TheoremsProof as slot-steps
use Rattle.slot_preview.proofs.TheoremsProof as slot-preview
use Rattle.occupancy.proofs.TheoremsProof as occupancy
use Rattle.table_calls.proofs.TheoremsProof as table_calls_lem
use Rattle.preview_calls.proofs.TheoremsProof as preview_calls
use Rattle.replay.proofs.TheoremsProof as replay
use Rattle.packing.proofs.TheoremsProof as packing
use Rattle.slot_packing.proofs.TheoremsProof as slot-packing
use Rattle.transcript.proofs.TheoremsProof as transcript
use Rattle.console.proofs.TheoremsProof as console
use Rattle.lines.proofs.TheoremsProof as lines
use Rattle.station_lines.proofs.TheoremsProof as station-lines
use Rattle.logs.proofs.TheoremsProof as logs
use Rattle.session_logs.proofs.TheoremsProof as session-logs
use Rattle.entries.proofs.TheoremsProof as entries
use Rattle.log_comparison.proofs.TheoremsProof as log
use Rattle.recorder.proofs.TheoremsProof as recorder
use Rattle.recording.proofs.TheoremsProof as recording
use Rattle.claims.specs.Claims.{Claims}

pub claims : Claims
claims = record {
  constants = record {
    last_credential_lem = refl;
    first_derived_lem = refl;
    last_derived_lem = refl;
    breach_mark = refl;
    access = refl;
    disclosure = refl;
    weight = refl;
    refused_6_at_0 = (refl, refl);
    refused_n_at_k = λ n k. (refl, refl);
    slots = refl;
    sessions = refl;
  };
  bytes = encoding.theorems;
  tests = validation.theorems;
  sets = meaning;
  models = rules.theorems;
  passes = iteration.theorems;
  pass_counts = examples;
  levels = strata.theorems;
  encoding = records.theorems;
  policies = form.theorems;
  checks = policy.theorems;
  arrays = arrays.theorems;
  laid_out = layout.theorems;
  disclosures = disclosure.theorems;
  answers = model.theorems;
  preferred = preference.theorems;
  orders = order.theorems;
  switches = switching.theorems;
  relevances = relevance.theorems;
  lanes = lane-fixpoint.theorems;
  searches = search.theorems;
  questions = question.theorems;
  sessions = rounds.theorems;
  types = session.theorems;
  opens = λ r l. opening_promise r;
  demand1 = λ bytes b s m l. demand1 bytes b s m;
  demand2 = λ bytes b s m l. round_promise bytes b s m;
  demand3 = demand3_holds;
  admittance = admittance;
  lists = lists_mean;
  runs = run.theorems;
  program = replay.theorems;
  stays_sound = rounds_keep_sound;
  always_sound = always_sound;
  longest = longest;
  visits = visits_mean;
  exported = packing.theorems;
  marked = marked;
  weighted = weighted;
  weights_aside = weights_aside;
  former = former.theorems;
  printed = transcript.theorems;
  steps = console.theorems;
  lines = lines.theorems;
  logs = logs.theorems;
  recorded = session-logs.theorems;
  log_records = entries.theorems;
  comparisons = log.theorems;
  round_records = recorder.theorems;
  recording = recording.theorems;
  slots = slots.theorems;
  operations = operations.theorems;
  slot_types = slot-steps.theorems;
  tables = occupancy.theorems;
  table_calls_lem = table_calls_lem.theorems;
  previews = previews.theorems;
  preview_types = slot-preview.theorems;
  preview_calls = preview_calls.theorems;
  packed_tables = slot-packing.theorems;
  station = station-lines.theorems;
}
