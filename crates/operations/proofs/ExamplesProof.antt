-- The examples, computed from the definitions. Assumes nothing.
use mathlib.Core.Path.{◌≡◌, refl, sym}
use mathlib.Core.Logic.{◌≢◌, inl}
use mathlib.Core.List.{List, [], ◌++◌, ◌∷◌}
use mathlib.Core.Option.{none, some}
use Prim.Native.Nat.{suc, zero, ℕ}
use lib.Count.{ones_in}
use lib.ListN.{replicate}
use native.Mathlib.Omega.{arith}
use Rattle.encoding.specs.LittleEndian.{Bytes, bytes_of, little_endian}
use Rattle.lists.specs.Lists.{Every}
use Rattle.lists.specs.Runs.{last, run}
use Rattle.lists.specs.Sums.{sum}
use Rattle.validation.specs.Tests.{first_failed, relabelled}
use Rattle.atoms.specs.Sets.{set_of, size}
use Rattle.rules.specs.Model.{closure_by, consequences, model, pass_by, times}
use Rattle.rules.specs.Stable.{reduct}
use Rattle.rules.specs.Unlocking.{unlocks}
use Rattle.rules.specs.Weights.{weight_among}
use Rattle.strata.specs.Strata.{above, stratifiable, stratum}
use Rattle.records.specs.Records.{of_kind, read_record, records_from, records_of, rules_of}
use Rattle.records.specs.Writing.{◌if◌not◌, disclose◌if◌, write_record}
use Rattle.form.specs.PolicyTest.{policy_refusal, policy_tests, tests_from}
use Rattle.disclosure.specs.Disclosure.{disclosable}
use Rattle.preference.specs.Preference.{lex_before, preferred, subsets}
use Rattle.preference.specs.Question.{candidates, chosen}
use Rattle.preference.specs.Weights.{total_in}
use Rattle.rounds.specs.Moves.{Move}
use Rattle.rounds.specs.Endings.{ending}
use Rattle.rounds.specs.Refusals.{Refusal, number}
use Rattle.rounds.specs.RoundTest.{round_refusal}
use Rattle.rounds.specs.Rounds.{round, worked}
use Rattle.rounds.proofs.AnswerLaws.{clash}
use Rattle.demands.proofs.SeventeenProof.{byte_test, test_bytes}
use Rattle.marked.specs.Marked.{policy_a, turns}
use Rattle.slots.specs.Openings.{open_at, opening_refusal}
use Rattle.slots.specs.RoundsAt.{refused_by, round_at, slot_round}
use Rattle.slots.specs.Slots.{unfinished, unfinished_of, vacant}
use Rattle.operations.specs.AtSlot.{NotOpened, OnePolicy, rounds_at, turns_at}
use Rattle.operations.specs.Examples.{Examples, after, answers_of, before, both, during, opener, slots_after}
use Rattle.operations.specs.Operations.{AllEmpty, Answered, Fitting, opening, opens, plays, steps_of}
use Rattle.operations.proofs.AtSlotLaws.{slots_meet_demand3}

-- everything that an example computes with
computed : Unit {0}
unfolding ◌if◌not◌ disclose◌if◌ write_record bytes_of set_of little_endian read_record above stratum stratifiable first_failed relabelled tests_from policy_tests
    policy_refusal records_from records_of of_kind rules_of reduct times pass_by closure_by consequences model disclosable unlocks ones_in size subsets lex_before
    preferred candidates chosen total_in weight_among ending worked round_refusal round run last sum unfinished_of unfinished opening_refusal open_at refused_by
    slot_round round_at rounds_at policy_a turns answers_of slots_after
computed = tt

-- ---- two slots

bytes_A : Bytes policy_a
unfolding computed byte_test
bytes_A = test_bytes policy_a refl

steps : steps_of (vacant ∷ vacant ∷ []) both ≡ before ++ (opener ∷ (during ++ after))
unfolding computed
steps = refl

rounds : turns_at 0 during ≡ turns policy_a (0x0000 ∷ 0x0000 ∷ 0x0003 ∷ 0x0000 ∷ [])
unfolding computed
rounds = refl

-- an operation is an opening or a round, at one slot
not_both : (b : List ℕ) (k : ℕ) (m : Move) (i o r : ℕ) → plays b k m ≡ opens i o r → ⊥
not_both b k m i o r e = clash (cc)

played : (b : List ℕ) (k : ℕ) (m : Move) (a : Answered) (o r : ℕ) → plays b k m ≡ opens 0 o r → a ≢ opening none
played b k m a o r e = absurd (not_both b k m 0 o r e)

refused_one : (f : Refusal) → opening (some f) ≢ opening none
refused_one f e = clash (cc)

opened_1 : (p q : ℕ) (a : Answered) (o r : ℕ) → opens 1 p q ≡ opens 0 o r → a ≢ opening none
opened_1 p q a o r e = let z : ◌≡◌ {A = ℕ} 1 0 = cc in absurd (omega arith)

not_opened : Every (NotOpened 0) during
not_opened =
    (played _ _ _ _, (played _ _ _ _, (λ o r e. refused_one (number 15), (played _ _ _ _, (opened_1 _ _ _, (played _ _ _ _, (played _ _ _ _, (played _ _ _ _, (played _ _ _ _, tt)))))))))

at_0 : (m : Move) (b : List ℕ) (n : Move) → plays policy_a 0 m ≡ plays b 0 n → b ≡ policy_a
at_0 m b n e = cc

at_1 : (c : List ℕ) (m : Move) (b : List ℕ) (n : Move) → plays c 1 m ≡ plays b 0 n → b ≡ policy_a
at_1 c m b n e = let z : ◌≡◌ {A = ℕ} 1 0 = cc in absurd (omega arith)

no_round : (k o r : ℕ) (b : List ℕ) (n : Move) → opens k o r ≡ plays b 0 n → b ≡ policy_a
no_round k o r b n e = absurd (not_both b 0 n k o r (sym e))

one_policy : Every (OnePolicy policy_a 0) during
one_policy = (at_0 _, (at_1 _ _, (no_round _ _ _, (at_0 _, (no_round _ _ _, (at_0 _, (at_1 _ _, (at_1 _ _, (at_0 _, tt)))))))))

fits : Every Fitting both
fits =
    let b = bytes_A in
    (tt, (tt, ((b, omega arith), ((b, omega arith), (tt, ((b, omega arith), (tt, ((b, omega arith), ((tt, omega arith), (((omega arith, tt), omega arith), ((b, omega arith), (tt, tt))))))))))))

-- as many empty slots as you like
empty : (n : ℕ) → AllEmpty (replicate n vacant)
empty zero = tt
empty (suc n) = (refl, empty n)

pub examples : Examples
unfolding computed
examples = record {
  all_empty = empty 5;
  all_empty_65 = empty 65;
  crowded = refl;
  left = refl;
  four_owned = record {
    numbers = 4 ∷ 3 ∷ 2 ∷ 1 ∷ [];
    different = (omega arith, (omega arith, (omega arith, (omega arith, tt))));
    each = ((refl, inl refl), ((refl, inl refl), ((refl, inl refl), ((refl, inl refl), tt))));
    counted = refl;
  };
  last_slot = refl;
  past_it = refl;
  not_counted = refl;
  counted = refl;
  waiting_counted = refl;
  closed_not_counted = refl;
  unsound_counted = refl;
  unsound_taken = refl;
  unsound_kept = refl;
  interleaved = record {
    fits = fits;
    steps = steps;
    not_opened = not_opened;
    one_policy = one_policy;
    one_session = slots_meet_demand3 (vacant ∷ vacant ∷ []) both fits before opener during after steps 0 9 16 refl refl not_opened;
    rounds = rounds;
  };
}
