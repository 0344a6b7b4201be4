-- Calls on a record: opening and a round. Assumes nothing.
use mathlib.Core.Path.{◌∙◌, ◌≡◌, ap, refl, sym}
use mathlib.Core.Logic.{◌≢◌}
use mathlib.Core.List.{List}
use mathlib.Core.Option.{Option, none, some}
use Prim.Native.Nat.{◌%◌, ℕ}
use lib.ListN.{length}
use Rattle.encoding.specs.LittleEndian.{Bytes}
use Rattle.records.specs.Policies.{policy_of}
use Rattle.form.specs.WrittenForm as W
use Rattle.form.proofs.TheoremsProof as policies
use Rattle.rounds.specs.Sessions.{Service, Session, opened}
use Rattle.rounds.specs.RoundTest.{round_refusal}
use Rattle.rounds.specs.Moves.{Move, showing}
use Rattle.rounds.specs.Rounds.{Answer, ends, refused, respond, round}
use Rattle.rounds.specs.Refusals.{Refusal, number}
use Rattle.demands.proofs.PromiseProof.{opened_service, opening_promise}
use Rattle.packing.specs.Exports.{left_by, open_call, played_call, round_call}
use Rattle.packing.specs.Packed.{packed, unpacked}
use Rattle.packing.specs.Replies.{answer_reply, policy_reply}
use Rattle.packing.specs.Theorems.{call_of}
use Rattle.packing.proofs.RecordLaws.{stands, unpacks_packed}
use Rattle.packing.proofs.ReplyLaws.{ending_clear, replied}

-- ---- opening

pub opens : (r : ℕ) (before : List ℕ) → Service r → open_call r before ≡ record { reply = 0; leaves = packed (opened r) }
unfolding open_call
opens r before v = rw (opened_service r v)

pub unopened : (r : ℕ) (before : List ℕ) → (Service r → ⊥) → open_call r before ≡ record { reply = 7; leaves = before }
unfolding open_call
unopened r before n = rw (((opening_promise r).refusals (number 7)).1 (n, refl))

-- ---- a round

module _ (policy before : List ℕ) (p : ℕ) where
  pub left : (round_call policy before p).reply % 256 ≢ 0 → (round_call policy before p).leaves ≡ before
  unfolding round_call
  left n = go (unpacked before) n
    where
      of_answer : (a : Answer) (s : Session) → answer_reply a % 256 ≢ 0 → left_by a before s ≡ before
      of_answer (ends e) s n = absurd (n (ending_clear e))
      of_answer (refused f) s n = refl

      go : (o : Option Session) → (played_call policy before p o).reply % 256 ≢ 0 → (played_call policy before p o).leaves ≡ before
      go none n = refl
      go (some s) n = of_answer (round policy s (showing p)).answer (round policy s (showing p)).session n

  module _ (none_in : unpacked before ≡ none) (b : Bytes policy) where
    pub no_session : W.WellFormed policy → round_call policy before p ≡ record { reply = 8; leaves = before }
    unfolding round_call
    no_session w = rw (none_in, ((policies.theorems).tested policy b).accepts.1 w)

    pub untested : (f : W.Refusal) → W.PolicyRefused policy f → round_call policy before p ≡ record { reply = policy_reply f; leaves = before }
    unfolding round_call
    untested f h = rw (none_in, (((policies.theorems).tested policy b).refuses f).1 h)

-- a refused round leaves the session, and so its bytes
left_packed : (policy : List ℕ) (s : Session) (m : Move)
    → left_by (round policy s m).answer (packed s) (round policy s m).session ≡ packed (round policy s m).session
unfolding round
left_packed policy s m = go (round_refusal policy s m)
  where
    go : (o : Option Refusal) → let x = respond o (policy_of policy) s m in left_by x.answer (packed s) x.session ≡ packed x.session
    go none = refl
    go (some f) = refl

pub one_call : (policy : List ℕ) (s : Session) (m : Move)
    → round_call policy (packed s) m.shows ≡ call_of (round policy s m)
unfolding round_call
one_call policy s m = rw (unpacks_packed s, left_packed policy s m, replied (round policy s m).answer)

pub plays : (policy before : List ℕ) → Bytes before → length before ≡ 10 → (s : Session) (m : Move) → unpacked before ≡ some s
    → round_call policy before m.shows ≡ call_of (round policy s m)
plays policy before b ten s m e =
    ap (λ (bytes : List ℕ). round_call policy bytes m.shows) (sym ((stands before b ten s).0 e)) ∙ one_call policy s m
