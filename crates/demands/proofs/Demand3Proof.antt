-- Demand 3: each clause is a fact on one round and those before it. Assumes nothing.
use mathlib.Core.Path.{◌∙◌, ◌≡◌, ap, refl, subst, sym}
use mathlib.Core.Logic.{◌≢◌, inl}
use mathlib.Core.List.{List, [], ◌∷◌}
use Prim.Native.Nat.{◌+◌, suc, ℕ}
use lib.ListN.{length}
use native.Mathlib.Omega.{arith}
use Rattle.encoding.specs.LittleEndian.{Bytes}
use Rattle.lists.specs.Each.{Each, Past}
use Rattle.lists.specs.Lists.{Every}
use Rattle.lists.specs.Runs.{Turn}
use Rattle.lists.proofs.EachLaws.{each_both, each_imp, each_length, each_past}
use Rattle.atoms.specs.Sets.{difference, size}
use Rattle.rules.specs.Policy.{Policy}
use Rattle.records.specs.Policies.{policy_of}
use Rattle.form.proofs.PolicyLaws.{disclosure_heads}
use Rattle.form.specs.WrittenForm.{WellFormed}
use Rattle.disclosure.proofs.DisclosureLaws.{Low}
use Rattle.disclosure.specs.Disclosure.{askable}
use Rattle.rounds.specs.Moves.{Move}
use Rattle.rounds.specs.Endings.{deny, grant}
use Rattle.rounds.specs.Rounds.{Outcome, rounds_of}
use Rattle.rounds.specs.Sessions.{Service, Session, opened}
use Rattle.demands.specs.Demand2.{Demand2, DeniedWhen}
use Rattle.demands.specs.Demand3.{Admitted, AllRespond, Client, Demand3, Demand3Holds, SessionsSay}
use Rattle.demands.specs.Lists.{ByRound, Final, Round, accepted_of, declined_by, phase_from, session_from, shown_by}
use Rattle.demands.proofs.AnswerProof.{demand2, denied_when, licensed_test}
use Rattle.demands.proofs.ClientLaws.{LicensedTest, Replies, admitted_last, admitted_length, never_denied}
use Rattle.demands.proofs.EndLaws.{ends_within, over_granted}
use Rattle.demands.proofs.PromiseProof.{opened_by}
use Rattle.demands.proofs.RoundLaws.{Genuine, bounded_last, bounded_length, once}
use Rattle.demands.proofs.AcceptedLaws.{Given, Whole, whole}

from_count : (r : ℕ) (past : List (Round Move)) → (session_from r past).count ≡ length past
unfolding session_from
from_count r past = refl

module _ (bytes : List ℕ) (b : Bytes bytes) (w : WellFormed bytes) (r : ℕ) (service : Service r) (ms : List Move) where
  abbrev pol : Policy
  pol = policy_of bytes

  abbrev low : Every Low (policy_of bytes).disclosure
  low = disclosure_heads bytes b w

  abbrev ts : List (Turn Move Outcome)
  ts = rounds_of bytes (opened r) ms

  abbrev rounds : List (Round Move)
  rounds = accepted_of ts

  all : Whole bytes b w r service [] [] ts
  unfolding session_from phase_from shown_by declined_by accepted_of Past
  all = whole bytes b w r service [] [] refl tt ms

  responding : AllRespond pol r ts
  responding = each_imp (Given bytes b w r service) _ (λ before t g. g.responds) [] ts all.given

  sessions : SessionsSay r ts
  sessions = each_imp (Given bytes b w r service) _ (λ before t g. g.session) [] ts all.given

  -- a round that the definitions give, with such rounds before it
  abbrev Real : List (Round Move) → Round Move → Type 0
  Real past t = Past (Genuine pol low r) (t ∷ past)

  real : Each Real [] rounds
  unfolding Past
  real = each_past (Genuine pol low r) [] rounds tt all.genuine

  -- ---- the bound d + 1

  abbrev most_asked : ℕ
  most_asked = suc (size (askable pol))

  bounded : ByRound most_asked Final rounds
  bounded = record {
    most = omega (arith, each_length most_asked [] rounds (omega arith) (each_imp Real _ (bounded_length pol low r) [] rounds real));
    last = each_imp Real _ (bounded_last pol low r) [] rounds real;
  }

  -- ---- the client

  module _ (H I S : ℕ) (c : LicensedTest pol r H I S) (e : Client H I rounds) where
    abbrev Held : List (Round Move) → Round Move → Type 0
    Held past t = Real past t × Past (Replies pol low r H I S c) (t ∷ past)

    abbrev most_lacked : ℕ
    most_lacked = 2 + size (difference (askable pol) H)

    client : Each Held [] rounds
    unfolding Past
    client =
        let replies = each_past (Replies pol low r H I S c) [] rounds tt e in
        each_both Real (λ past t. Past (Replies pol low r H I S c) (t ∷ past)) [] rounds real replies

    never : Each (λ past t. t.ended ≢ deny) [] rounds
    never = each_imp Held _ (λ past t g. never_denied pol low r H I S c past t g.0 g.1) [] rounds client

    granted_by : ByRound most_lacked (λ e. e ≡ grant) rounds
    granted_by = record {
      most = omega (
        arith,
        each_length most_lacked [] rounds (omega arith)
            (each_imp Held _ (λ past t g. admitted_length pol low r H I S c past t g.0 g.1) [] rounds client),
      );
      last = each_imp Held _ (λ past t g. admitted_last pol low r H I S c past t g.0 g.1) [] rounds client;
    }

    admitted : Admitted pol H ts
    admitted = record {
      never_denied = never;
      granted_by = granted_by;
      granted = λ l. over_granted [] rounds never
          (ends_within pol r ts responding most_lacked (λ e. e ≡ grant) (λ e p. inl p) (omega arith) granted_by l);
    }

  -- ---- the demand

  demand : Demand3 bytes r (opened r) ms ts
  demand = record {
    defined = refl;
    responds = responding;
    sessions = sessions;
    counted = each_imp _ _ (λ before t e. ap (λ (s : Session). s.count) e ∙ from_count r (accepted_of (t ∷ before))) [] ts sessions;
    answered = each_imp (Genuine pol low r) _ (λ past t g. subst (Demand2 pol r (shown_by (t ∷ past)) (declined_by (t ∷ past))) (sym g.given)
        (demand2 bytes b w r (shown_by (t ∷ past)) (declined_by (t ∷ past)))) [] rounds all.genuine;
    once = each_imp (Genuine pol low r) _ (once pol low r) [] rounds all.genuine;
    bounded = bounded;
    ended = λ l. ends_within pol r ts responding most_asked Final (λ e p. p) (omega arith) bounded l;
    denies = each_imp (Genuine pol low r) _ (λ past t g. subst (DeniedWhen pol r (shown_by (t ∷ past)) (declined_by (t ∷ past))) (sym g.given)
        (denied_when bytes b w r (shown_by (t ∷ past)) (declined_by (t ∷ past)))) [] rounds all.genuine;
    admits = λ H I S c e. admitted H I S (licensed_test bytes b w r H I S c) e;
  }

-- the session is the one that opening gave
pub demand3_holds : Demand3Holds
demand3_holds bytes b w r s e ms l =
    let (service, is) = opened_by r s e in
    subst (λ (x : Session). Demand3 bytes r x ms (rounds_of bytes x ms)) is (demand bytes b w r service ms)
