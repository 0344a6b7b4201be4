-- Calls one after another on one record. Assumes nothing.
use mathlib.Core.Path.{◌∙◌, ◌≡◌, ap, refl, sym}
use mathlib.Core.List.{List, map, map-map}
use Prim.Native.Nat.{ℕ}
use native.Mathlib.Omega.{arith}
use Rattle.lists.specs.Runs.{Turn}
use Rattle.lists.proofs.RunLaws.{run_beside}
use Rattle.validation.specs.Unless.{Unless, given, withheld}
use Rattle.rounds.specs.Refusals.{Refusal}
use Rattle.rounds.specs.Rounds.{Outcome, opening, rounds_of}
use Rattle.rounds.specs.Sessions.{Service, Session, opened}
use Rattle.demands.specs.Promises.{Visit, under, visit, visits_of}
use Rattle.demands.proofs.Demand3Proof.{demand3_holds}
use Rattle.demands.proofs.PromiseProof.{opened_service, opening_promise}
use Rattle.demands.proofs.VisitProof.{visits_mean}
use Rattle.packing.specs.Exports.{Call, calls_from, open_call, visit_call}
use Rattle.packing.specs.Packed.{packed}
use Rattle.packing.specs.Theorems.{CallsMeetDemand3, call_of}
use Rattle.packing.proofs.SessionLaws.{one_call, opens, unopened}

-- each call goes beside a round
pub calls : (s : Session) (vs : List Visit) → calls_from (packed s) vs ≡ map (λ (t : Turn Visit Outcome). call_of t.gives) (visits_of s vs)
unfolding calls_from
calls = run_beside visit (λ (o : Outcome). o.session) visit_call (λ (c : Call). c.leaves) packed call_of (λ s v. one_call v.policy s v.takes) (λ o. refl)

-- where opening replies 0, the request is a service
served : (r : ℕ) (before : List ℕ) → (open_call r before).reply ≡ 0 → Service r
served r before e = go (opening r) refl
  where
    go : (o : Unless Refusal Session) → opening r ≡ o → Service r
    go (given s) is = (((opening_promise r).values s).0 is).0
    go (withheld f) is =
        let replies = unopened r before (((opening_promise r).refusals f).0 is).0 in absurd (omega (arith, sym (ap (λ c. c.reply) replies) ∙ e))

pub demand3 : CallsMeetDemand3
demand3 policy b w r before e ms l =
    let v = served r before e in
    let visits = map (under policy) ms in (
      rounds_of policy (opened r) ms,
      demand3_holds policy b w r (opened r) (opened_service r v) ms l,
      ap (λ c. calls_from c.leaves visits) (opens r before v) ∙ calls (opened r) visits
          ∙ ap (map (λ (t : Turn Visit Outcome). call_of t.gives)) (visits_mean.one_policy policy (opened r) ms)
          ∙ map-map _ _ (rounds_of policy (opened r) ms),
    )
