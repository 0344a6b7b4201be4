-- An opening at a slot: when it is refused, and what it leaves. Assumes nothing.
use mathlib.Core.Path.{◌∙◌, ◌≡◌, ap, refl, sym}
use mathlib.Core.Logic.{◌↔◌}
use mathlib.Core.List.{List}
use mathlib.Core.Option.{Option, none, some}
use Prim.Native.Nat.{ℕ}
use lib.ListN.{set}
use Rattle.validation.specs.Statements.{AllHold, DecideAll, FirstBroken}
use Rattle.validation.specs.Tests.{relabelled}
use Rattle.validation.proofs.FirstLaws.{decide_relabelled, first_none, first_some, hold_relabelled}
use Rattle.rounds.specs.Refusals.{Refusal, number}
use Rattle.rounds.specs.Sessions.{opened}
use Rattle.rounds.proofs.AnswerLaws.{clash}
use Rattle.rounds.proofs.SessionLaws.{decides_service}
use Rattle.slots.specs.Meanings.{OpeningAtMeets}
use Rattle.slots.specs.Openings.{Reply, open_at, opening_refusal, slot_opening_tests, taken_unless}
use Rattle.slots.specs.SlotForm.{OpeningForm}
use Rattle.slots.specs.Slots.{Slot, held, most_unfinished, slot_at, slot_limit}
use Rattle.slots.proofs.CountLaws.{decides_fewer}
use Rattle.slots.proofs.FreeLaws.{decides_free, decides_in_table}

module _ (xs : List Slot) (i o r : ℕ) where
  -- ---- the tests decide the form

  decide_opening : DecideAll (slot_opening_tests xs i o r) (OpeningForm xs i o r)
  decide_opening = (
    decides_service r,
    refl,
    (decides_in_table xs i, refl, (decides_free (slot_at xs i), refl, (decides_fewer o xs slot_limit most_unfinished, refl, tt))),
  )

  decide_relabel : DecideAll (relabelled number (slot_opening_tests xs i o r)) (relabelled number (OpeningForm xs i o r))
  decide_relabel = decide_relabelled number (slot_opening_tests xs i o r) (OpeningForm xs i o r) decide_opening

  pub opening_none : (opening_refusal xs i o r ≡ none) ↔ AllHold (OpeningForm xs i o r)
  unfolding opening_refusal
  opening_none =
      let d = first_none (relabelled number (slot_opening_tests xs i o r)) (relabelled number (OpeningForm xs i o r)) decide_relabel in
      let h = hold_relabelled number (OpeningForm xs i o r) in
      (λ e. h.0 (d.0 e), λ x. d.1 (h.1 x))

  opening_some : (f : Refusal) → (opening_refusal xs i o r ≡ some f) ↔ FirstBroken (relabelled number (OpeningForm xs i o r)) f
  unfolding opening_refusal
  opening_some = first_some (relabelled number (slot_opening_tests xs i o r)) (relabelled number (OpeningForm xs i o r)) decide_relabel

  -- ---- an opening is refused, or takes the slot

  data OpeningCase (g : Reply (Option Refusal)) : Type 0 where
    turned : (f : Refusal) → opening_refusal xs i o r ≡ some f → g ≡ record { answer = some f; table = xs } → OpeningCase g
    takes : opening_refusal xs i o r ≡ none → g ≡ record { answer = none; table = set xs i (held o (opened r)) } → OpeningCase g

  opening_case : OpeningCase (open_at xs i o r)
  unfolding open_at
  opening_case = go (opening_refusal xs i o r) refl
    where
      go : (x : Option Refusal) → opening_refusal xs i o r ≡ x → OpeningCase (taken_unless x xs i (held o (opened r)))
      go none e = takes e refl
      go (some f) e = turned f e refl

  answer_is : (open_at xs i o r).answer ≡ opening_refusal xs i o r
  answer_is = go opening_case
    where
      go : OpeningCase (open_at xs i o r) → (open_at xs i o r).answer ≡ opening_refusal xs i o r
      go (turned f e is) = ap (λ (g : Reply (Option Refusal)). g.answer) is ∙ sym e
      go (takes e is) = ap (λ (g : Reply (Option Refusal)). g.answer) is ∙ sym e

  pub accepts_iff : ((open_at xs i o r).answer ≡ none) ↔ AllHold (OpeningForm xs i o r)
  accepts_iff = (λ e. opening_none.0 (sym answer_is ∙ e), λ h. answer_is ∙ opening_none.1 h)

  pub refuses_iff : (f : Refusal) → ((open_at xs i o r).answer ≡ some f) ↔ FirstBroken (relabelled number (OpeningForm xs i o r)) f
  refuses_iff f = (λ e. (opening_some f).0 (sym answer_is ∙ e), λ h. answer_is ∙ (opening_some f).1 h)

  refused_leaves : (f : Refusal) → (open_at xs i o r).answer ≡ some f → (open_at xs i o r).table ≡ xs
  refused_leaves f a = go opening_case
    where
      go : OpeningCase (open_at xs i o r) → (open_at xs i o r).table ≡ xs
      go (turned g e is) = ap (λ (g : Reply (Option Refusal)). g.table) is
      go (takes e is) = clash (cc)

  opened_takes : (open_at xs i o r).answer ≡ none → (open_at xs i o r).table ≡ set xs i (held o (opened r))
  opened_takes a = go opening_case
    where
      go : OpeningCase (open_at xs i o r) → (open_at xs i o r).table ≡ set xs i (held o (opened r))
      go (turned g e is) = clash (cc)
      go (takes e is) = ap (λ (g : Reply (Option Refusal)). g.table) is

  pub opening_meets : OpeningAtMeets xs i o r (open_at xs i o r)
  opening_meets = record {
    accepts = accepts_iff;
    refuses = refuses_iff;
    unchanged = refused_leaves;
    taken = λ e. (opened r, (record { request = refl; shown = refl; declined = refl; count = refl; phase = refl }, opened_takes e));
  }
