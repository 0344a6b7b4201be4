-- What can be read off a reply, and off the record beside it. Assumes nothing.
use mathlib.Core.Path.{◌∙◌, ◌≡◌, ap, refl, sym}
use mathlib.Core.Logic.{◌↔◌, ◌≢◌}
use mathlib.Core.List.{List}
use mathlib.Core.Option.{Option, none, some}
use Prim.Native.Nat.{◌%◌, ◌*◌, ◌+◌, ◌/◌, ◌<◌, ◌≤◌, ℕ}
use native.Mathlib.Omega.{arith}
use Rattle.encoding.specs.LittleEndian.{Bytes}
use Rattle.records.specs.Policies.{policy_of}
use Rattle.form.proofs.NumberLaws.{small_number, small_place}
use Rattle.form.specs.WrittenForm.{PolicyRefused, Refusal, WellFormed, at, record_number, refusal_number}
use Rattle.form.specs.PolicyTest.{policy_refusal}
use Rattle.form.proofs.TheoremsProof as policies
use Rattle.preference.specs.Question.{Question}
use Rattle.rounds.specs.Sessions.{Session, question}
use Rattle.rounds.specs.RoundTest.{round_refusal}
use Rattle.rounds.specs.Moves.{Move}
use Rattle.rounds.specs.Rounds.{Answer, ends, phase_after, refused, respond, round, worked}
use Rattle.rounds.specs.Refusals.{number, of_policy}
use Rattle.rounds.specs.Endings.{Ending, ask, deny, grant}
use Rattle.rounds.specs.Refusals as S
use Rattle.rounds.proofs.RefusalLaws.{numbers as round_numbers}
use Rattle.packing.specs.Exports.{check_reply}
use Rattle.packing.specs.Packed.{packed}
use Rattle.packing.specs.Replies.{answer_reply, ending_reply, policy_reply, test_reply}
use Rattle.packing.specs.Theorems.{Told, ToldRefusal, call_of, reply_for}
use Rattle.packing.proofs.RecordLaws.{asked_in_lem}

-- ---- an ending

pub ending_clear : (e : Ending) → ending_reply e % 256 ≡ 0
ending_clear grant = refl
ending_clear deny = refl
ending_clear (ask q) = refl

pub replied : (a : Answer) → answer_reply a ≡ reply_for a
replied (ends grant) = refl
replied (ends deny) = refl
replied (ends (ask q)) = refl
replied (refused (of_policy f)) = refl
replied (refused (number n)) = refl

-- what is asked is what the session waits on
waits : (policy : List ℕ) (s : Session) (m : Move) (q : Question) → (round policy s m).answer ≡ ends (ask q)
    → question (round policy s m).session.phase ≡ q
unfolding round
waits policy s m q = go (round_refusal policy s m)
  where
    go : (o : Option S.Refusal) → let x = respond o (policy_of policy) s m in x.answer ≡ ends (ask q) → question x.session.phase ≡ q
    go none e = let asks : (worked (policy_of policy) s m).ended ≡ ask q = cc in ap (λ x. question (phase_after x)) asks
    go (some f) e = cc

-- ---- a policy's refusal

low_part : (n k : ℕ) → n < 256 → (n + 256 * k) % 256 ≡ n
low_part n k l = omega (arith, l)

middle_part : (n k : ℕ) → n < 256 → k < 256 → (n + 256 * k) / 256 % 256 ≡ k
middle_part n k l m = omega (arith, l, m)

module _ (policy : List ℕ) (b : Bytes policy) where
  place_lt : (n k : ℕ) → PolicyRefused policy (at n k) → k < 256
  place_lt = small_place policy

  number_in : (n k : ℕ) → PolicyRefused policy (at n k) → (1 ≤ n) × (n ≤ 13)
  number_in = small_number policy

  policy_told : (n k : ℕ) → PolicyRefused policy (at n k)
      → (policy_reply (at n k) % 256 ≢ 0) × ToldRefusal (of_policy (at n k)) (policy_reply (at n k))
  policy_told n k h =
      let small : n < 256 = omega (arith, (number_in n k h).1) in
      let is = low_part n k small in
      (λ z. omega (arith, (number_in n k h).0, is, z), (is, middle_part n k small (place_lt n k h)))

  -- ---- the policy's test

  pub accepts : (check_reply policy ≡ 0) ↔ WellFormed policy
  unfolding check_reply
  accepts = go (policy_refusal policy) refl
    where
      go : (o : Option Refusal) → policy_refusal policy ≡ o → (test_reply o ≡ 0) ↔ WellFormed policy
      go none e = (λ z. ((policies.theorems).tested policy b).accepts.0 e, λ w. refl)
      go (some (at n k)) e =
          let n-in = number_in n k ((((policies.theorems).tested policy b).refuses (at n k)).0 e) in (
            λ z. absurd (omega (arith, n-in.0, z)),
            λ w. ap test_reply (sym e ∙ ((policies.theorems).tested policy b).accepts.1 w),
          )

  pub refuses : (f : Refusal) → PolicyRefused policy f → check_reply policy ≡ refusal_number f + 0x100 * record_number f
  unfolding check_reply
  refuses f h = ap test_reply ((((policies.theorems).tested policy b).refuses f).1 h)

  -- ---- a round's answer

  pub told : (s : Session) (m : Move) → Told (round policy s m).answer (call_of (round policy s m))
  told s m = go (round policy s m).answer refl
    where
      go : (a : Answer) → (round policy s m).answer ≡ a → Told a (record { reply = reply_for a; leaves = packed (round policy s m).session })
      go (ends grant) e = (refl, refl)
      go (ends deny) e = (refl, refl)
      go (ends (ask q)) e = ((refl, refl), asked_in_lem (round policy s m).session ∙ ap (λ x. x.asks) (waits policy s m q e))
      go (refused (of_policy (at n k))) e = policy_told n k (((round_numbers policy b s m).policy (at n k)).0 e)
      go (refused (number n)) e = let l = (round_numbers policy b s m).only n e in (λ z. omega (arith, l.0, l.1, z), omega (arith, l.1))
