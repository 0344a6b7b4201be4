-- `slot_steps::round::slot_round` meets its contract: an empty slot by the policy's test and 8, a held one by its session's round. Assumes nothing.
use mathlib.Core.Path.{◌∙◌, ap}
use native.Mathlib.Omega.{arith}
use Rattle.encoding.proofs.ByteLaws.{slice_bytes}
use Rattle.form.specs.PolicyTest.{policy_refusal}
use Rattle.rounds.specs.Rounds.{refused}
use Rattle.session.specs.Types.{move_of, outcome_of}
use Rattle.slots.specs.RoundsAt.{policy_or}
use Rattle.slot_steps.specs.Types.{Typed, answer_of, holding_of, refusal_of, slot_of}
use Rattle.slot_steps.proofs.FitLaws.{slot_fits}
use Rattle.slot_steps.proofs.StepLaws.{by_number, held_round, vacant_round}
use Rattle.slot_steps.proofs.round.slot_round.Goals as goal

pub returns-in-None : goal.returns-in-None
returns-in-None c =
    let a = c.args in
    let g = c.well_formed in
    let typed : Typed a.policy.now (slot_of a.slot) (move_of a.taken) = record {
      policy = slice_bytes a.policy.now c.type_inv.policy;
      slot = slot_fits a.slot _ g.0;
      shows = omega (arith, g.1.1.0);
    } in (
      vacant_round a.policy.now (slot_of a.slot) (move_of a.taken) (answer_of c.refused_by.result)
          (ap holding_of c.in-None.is)
          (by_number a.policy.now 8 _
          (c.refused_by.ensures.0 ∙ ap (λ f. refused (policy_or (policy_refusal a.policy.now) (refusal_of f))) c.into.ensures)),
      typed,
    )

pub returns-in-Some : goal.returns-in-Some
returns-in-Some c =
    let a = c.args in
    let g = c.well_formed in
    let typed : Typed a.policy.now (slot_of a.slot) (move_of a.taken) = record {
      policy = slice_bytes a.policy.now c.type_inv.policy;
      slot = slot_fits a.slot _ g.0;
      shows = omega (arith, g.1.1.0);
    } in (
      c.turn_of.ensures
          ∙ held_round a.policy.now (slot_of a.slot) (move_of a.taken) _ _ (outcome_of c.round.result)
          (ap holding_of c.in-Some.is) c.round.ensures.answer,
      typed,
    )
