-- The theorems of sessions and rounds: the tests say what document 01 does. Demands 1 to 3 are in crate `demands`. Assumes nothing.
use Rattle.std.specs.Prelude.{◌≡◌, ◌↔◌, true, List, [], ◌∷◌, ◌≤◌, suc, ℕ}
use Rattle.encoding.specs.LittleEndian.{Bytes}
use Rattle.form.specs.WrittenForm as W
use Rattle.form.specs.WrittenForm.{PolicyRefused, WellFormed, at}
use Rattle.rounds.specs.Endings.{Ending}
use Rattle.rounds.specs.Moves.{Move, showing}
use Rattle.rounds.specs.Refusals.{Refusal, number, of_policy, refusal_number}
use Rattle.rounds.specs.Rounds.{Outcome, ends, refused, round, rounds_of}
use Rattle.rounds.specs.Sessions.{Finished, Service, Session, SoundSession, is_closed, is_service, is_sound}

-- When a round of the session s, with the outcome o, is answered how.
pub record RoundNumbers (bytes : List ℕ) (s : Session) (o : Outcome) : Type 0 where
  -- "By the policy's writer, with a record number counted from 0"
  pub policy : (f : W.Refusal) → (o.answer ≡ refused (of_policy f)) ↔ PolicyRefused bytes f
  -- "7: request outside 16 to 62, at opening or in a round."
  pub request : (o.answer ≡ refused (number 7)) ↔ (WellFormed bytes × (Service s.request → ⊥))
  -- "8: session not sound."
  pub unsound : (o.answer ≡ refused (number 8)) ↔ (WellFormed bytes × (Service s.request × (SoundSession s → ⊥)))
  -- "9: round in a sound closed session."
  pub finished : (o.answer ≡ refused (number 9)) ↔ (WellFormed bytes × (SoundSession s × Finished s))
  -- every other one "ends in grant, deny or a question"
  pub accepted : ((e : Ending) × (o.answer ≡ ends e)) ↔ (WellFormed bytes × (SoundSession s × (Finished s → ⊥)))
  -- beside the policy's refusals there are only 7, 8 and 9
  pub only : (n : ℕ) → o.answer ≡ refused (number n) → (7 ≤ n) × (n ≤ 9)

pub record Theorems : Type 0 where
  pub round_numbers : (bytes : List ℕ) → Bytes bytes → (s : Session) (m : Move) → RoundNumbers bytes s (round bytes s m)
  -- "the request is 16 to 62"
  pub service : (r : ℕ) → (is_service r ≡ true) ↔ ((16 ≤ r) × (r ≤ 62))
  -- "A session is sound if"
  pub sound : (s : Session) → (is_sound s ≡ true) ↔ SoundSession s
  -- "closed with grant or deny"
  pub finished : (s : Session) → (is_closed s.phase ≡ true) ↔ Finished s
  -- "the count rises by 1"
  pub counted : (bytes : List ℕ) (s : Session) (m : Move) (e : Ending) → (round bytes s m).answer ≡ ends e
      → (round bytes s m).session.count ≡ suc s.count
  -- "The session comes back as it went in"
  pub unchanged : (bytes : List ℕ) (s : Session) (m : Move) (f : Refusal) → (round bytes s m).answer ≡ refused f → (round bytes s m).session ≡ s
  -- "The first round gets the fresh session, every later one the session that the one before gave back, refused or not"
  pub no_round : (bytes : List ℕ) (s : Session) → rounds_of bytes s [] ≡ []
  pub one_more_round : (bytes : List ℕ) (s : Session) (m : Move) (ms : List Move)
      → rounds_of bytes s (m ∷ ms) ≡ record { takes = m; gives = round bytes s m } ∷ rounds_of bytes (round bytes s m).session ms
  -- what a move shows
  pub shows : (p : ℕ) → (showing p).shows ≡ p
  -- the papers' number of each refusal
  pub numbers : (n : ℕ) → refusal_number (number n) ≡ n
  pub of_policy_lem : (n k : ℕ) → refusal_number (of_policy (at n k)) ≡ n
