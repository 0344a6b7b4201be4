-- What happens at other slots leaves a slot as it was. Assumes nothing.
use mathlib.Core.Path.{◌∙◌, ◌≡◌, refl, subst, sym}
use mathlib.Core.Logic.{◌≢◌}
use mathlib.Core.List.{List, [], ◌∷◌}
use mathlib.Core.Option.{Option}
use Prim.Native.Nat.{ℕ}
use lib.Seq.{get_or-set_other}
use Rattle.lists.specs.Lists.{Every}
use Rattle.lists.specs.Runs.{run}
use Rattle.lists.proofs.ListLaws.{every_imp}
use Rattle.rounds.specs.Refusals.{Refusal}
use Rattle.rounds.specs.Rounds.{Answer}
use Rattle.slots.specs.Openings.{Reply, open_at}
use Rattle.slots.specs.RoundsAt.{round_at}
use Rattle.slots.specs.Slots.{Slot, slot_at, vacant}
use Rattle.slots.proofs.TableLaws.{OpeningCase, RoundAtCase, inside, opening_case, outside, round_at-case, taken, turned_away_lem}
use Rattle.operations.specs.Operations.{Operation, named, operate, opens, plays, steps_of}

elsewhere : (xs : List Slot) (k : ℕ) (x : Operation) → named x ≢ k → slot_at (operate xs x).table k ≡ slot_at xs k
elsewhere xs k (opens i o r) n = go (opening_case xs i o r)
  where
    go : OpeningCase xs i o r (open_at xs i o r) → slot_at (open_at xs i o r).table k ≡ slot_at xs k
    go (turned_away_lem f is) = subst (λ (g : Reply (Option Refusal)). slot_at g.table k ≡ slot_at xs k) (sym is) refl
    go (taken s t m is) =
        subst (λ (g : Reply (Option Refusal)). slot_at g.table k ≡ slot_at xs k) (sym is) (get_or-set_other xs i k _ vacant (λ e. n (sym e)))
elsewhere xs k (plays bytes i m) n = go (round_at-case bytes xs i m)
  where
    go : RoundAtCase bytes xs i m (round_at bytes xs i m) → slot_at (round_at bytes xs i m).table k ≡ slot_at xs k
    go (outside is) = subst (λ (g : Reply Answer). slot_at g.table k ≡ slot_at xs k) (sym is) refl
    go (inside t is) = subst (λ (g : Reply Answer). slot_at g.table k ≡ slot_at xs k) (sym is) (get_or-set_other xs i k _ vacant (λ e. n (sym e)))

pub apart : (xs : List Slot) (k : ℕ) (ops : List Operation) → Every (λ x. named x ≢ k) ops
    → Every (λ t. slot_at t.gives.table k ≡ slot_at xs k) (steps_of xs ops)
unfolding run
apart xs k [] h = tt
apart xs k (x ∷ ops) h =
    let e = elsewhere xs k x h.0 in
    (e, every_imp _ _ (λ t d. d ∙ e) (steps_of (operate xs x).table ops) (apart (operate xs x).table k ops h.1))
