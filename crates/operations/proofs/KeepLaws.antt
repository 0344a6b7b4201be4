-- What every step keeps, from an all-empty list: no owner has more than four unfinished sessions, and every session is sound. Assumes nothing.
use mathlib.Core.Path.{◌∙◌, ◌≡◌, refl, subst, sym}
use mathlib.Core.Logic.{◌⊎◌, inl}
use mathlib.Core.List.{List, [], ◌∷◌}
use mathlib.Core.Option.{Option}
use Prim.Native.Nat.{◌<◌, ◌^◌, ◌≤◌, ℕ}
use lib.ListN.{set}
use lib.Seq.{get_or-set_other}
use native.Mathlib.Omega.{arith}
use Rattle.encoding.specs.LittleEndian.{Bytes}
use Rattle.lists.specs.Lists.{Every}
use Rattle.lists.proofs.ListLaws.{every_imp}
use Rattle.lists.proofs.RunLaws.{run_every}
use Rattle.rounds.specs.Moves.{Move}
use Rattle.rounds.specs.Refusals.{Refusal}
use Rattle.rounds.specs.Rounds.{Answer}
use Rattle.rounds.specs.Sessions.{opened}
use Rattle.rounds.proofs.SoundLaws.{opened_sound}
use Rattle.demands.proofs.VisitProof.{rounds_keep_sound}
use Rattle.slots.specs.Openings.{Reply, open_at}
use Rattle.slots.specs.RoundsAt.{round_at, slot_round}
use Rattle.slots.specs.Slots.{InTable, Slot, held, slot_at, slot_limit, unfinished, unfinished_of, vacant}
use Rattle.slots.proofs.CountLaws.{counted}
use Rattle.slots.proofs.TableLaws.{OpeningCase, RoundAtCase, count_none, count_rest, every_set, every_slot, inside, keeps_four, opening_case, opening_fewer}
use Rattle.slots.proofs.TableLaws.{outside, round_at-case, round_fewer, taken, turned_away_lem}
use Rattle.operations.specs.Operations.{AllEmpty, Answered, Fitting, Operation, operate, opens, plays, steps_of}
use Rattle.operations.specs.Theorems.{AtMostFour, SoundSlot}

-- ---- the count

-- no owner has more than four in the first 64 slots, and the others are empty
record Kept (xs : List Slot) : Type 0 where
  most : (o : ℕ) → unfinished o xs slot_limit ≤ 4
  rest : (k : ℕ) → slot_limit ≤ k → slot_at xs k ≡ vacant

kept_four : (xs : List Slot) → Kept xs → AtMostFour xs
kept_four xs h o n many owns = omega (arith, (counted o xs n many).1 owns, count_rest o xs slot_limit h.rest n, h.most o)

empty_kept : (xs : List Slot) → AllEmpty xs → Kept xs
empty_kept xs e =
    let at : (k : ℕ) → slot_at xs k ≡ vacant = every_slot (λ x. x ≡ vacant) refl xs e in
    record { most = λ o. omega (arith, count_none o xs slot_limit (λ k l. at k)); rest = λ k l. at k }

set_kept : (xs : List Slot) (i : ℕ) (v : Slot) → InTable xs i → Kept xs
    → ((o : ℕ) → (unfinished_of o v ≤ unfinished_of o (slot_at xs i)) ⊎ (unfinished o xs slot_limit < 4)) → Kept (set xs i v)
set_kept xs i v l h fewer = record {
  most = λ o. keeps_four o xs i v l.0 slot_limit l.1 (h.most o) (fewer o);
  rest = λ k past. get_or-set_other xs i k v vacant (λ e. omega (arith, e, l.1, past)) ∙ h.rest k past;
}

step_kept : (xs : List Slot) (x : Operation) → Unit {0} → Kept xs → Kept (operate xs x).table
step_kept xs (opens i o r) _ h = go (opening_case xs i o r)
  where
    go : OpeningCase xs i o r (open_at xs i o r) → Kept (open_at xs i o r).table
    go (turned_away_lem f is) = subst (λ (g : Reply (Option Refusal)). Kept g.table) (sym is) h
    go (taken s l m is) =
        subst (λ (g : Reply (Option Refusal)). Kept g.table) (sym is)
        (set_kept xs i (held o (opened r)) l h (λ p. opening_fewer xs i o r m p (opened r)))
step_kept xs (plays bytes i m) _ h = go (round_at-case bytes xs i m)
  where
    go : RoundAtCase bytes xs i m (round_at bytes xs i m) → Kept (round_at bytes xs i m).table
    go (outside is) = subst (λ (g : Reply Answer). Kept g.table) (sym is) h
    go (inside l is) =
        subst (λ (g : Reply Answer). Kept g.table) (sym is)
        (set_kept xs i (slot_round bytes (slot_at xs i) m).slot l h (λ o. inl (round_fewer bytes (slot_at xs i) m o)))

any_fits : (ops : List Operation) → Every (λ x. Unit {0}) ops
any_fits [] = tt
any_fits (x ∷ ops) = (tt, any_fits ops)

pub four : (xs : List Slot) → AllEmpty xs → (ops : List Operation) → Every (λ t. AtMostFour t.gives.table) (steps_of xs ops)
four xs e ops =
    every_imp _ _ (λ t h. kept_four t.gives.table h) (steps_of xs ops)
    (run_every operate (λ (g : Reply Answered). g.table) Kept (λ x. Unit {0}) step_kept xs (empty_kept xs e) ops (any_fits ops))

-- ---- soundness

round_sound : (bytes : List ℕ) → Bytes bytes → (x : Slot) (m : Move) → m.shows < 2 ^ 16 → SoundSlot x → SoundSlot (slot_round bytes x m).slot
unfolding slot_round
round_sound bytes b vacant m l h = tt
round_sound bytes b (held o s) m l h = rounds_keep_sound bytes b s m l h

step_sound : (xs : List Slot) (x : Operation) → Fitting x → Every SoundSlot xs → Every SoundSlot (operate xs x).table
step_sound xs (opens i o r) f h = go (opening_case xs i o r)
  where
    go : OpeningCase xs i o r (open_at xs i o r) → Every SoundSlot (open_at xs i o r).table
    go (turned_away_lem f is) = subst (λ (g : Reply (Option Refusal)). Every SoundSlot g.table) (sym is) h
    go (taken s l m is) =
        let k = opened_sound r s in
        subst (λ (g : Reply (Option Refusal)). Every SoundSlot g.table) (sym is)
        (every_set SoundSlot xs i (held o (opened r)) (record { sound = k.sound; fits = k.sets }) h)
step_sound xs (plays bytes i m) f h = go (round_at-case bytes xs i m)
  where
    go : RoundAtCase bytes xs i m (round_at bytes xs i m) → Every SoundSlot (round_at bytes xs i m).table
    go (outside is) = subst (λ (g : Reply Answer). Every SoundSlot g.table) (sym is) h
    go (inside l is) =
        subst (λ (g : Reply Answer). Every SoundSlot g.table) (sym is)
        (every_set SoundSlot xs i (slot_round bytes (slot_at xs i) m).slot
        (round_sound bytes f.0 (slot_at xs i) m f.1 (every_slot SoundSlot tt xs h i)) h)

pub sound : (xs : List Slot) → AllEmpty xs → (ops : List Operation) → Every Fitting ops → Every (λ t. Every SoundSlot t.gives.table) (steps_of xs ops)
sound xs e =
    run_every operate (λ (g : Reply Answered). g.table) (Every SoundSlot) Fitting step_sound xs
    (every_imp _ SoundSlot (λ x v. subst SoundSlot (sym v) tt) xs e)
