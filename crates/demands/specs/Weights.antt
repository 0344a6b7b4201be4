-- Document 02, R-2: what weights leave as it is. Assumes nothing.
use Rattle.std.specs.Prelude.{◌≡◌, ◌↔◌, ◌⊎◌, ◌≢◌, List, ◌*◌, ◌+◌, ◌<◌, ◌^◌, ◌≤◌, ℕ, length}
use Rattle.encoding.specs.LittleEndian.{Bytes}
use Rattle.atoms.specs.Sets.{size}
use Rattle.rules.specs.Model.{model}
use Rattle.records.specs.Policies.{policy_of, unweighted}
use Rattle.records.specs.Records.{record_at, records_of, weight_kind}
use Rattle.form.specs.WrittenForm.{WellFormed}
use Rattle.disclosure.specs.Disclosure.{askable, disclosable}
use Rattle.preference.specs.Question.{Preferred, Question}
use Rattle.rounds.specs.Endings.{ask, deny, grant}
use Rattle.rounds.specs.Moves.{Move}
use Rattle.rounds.specs.Refusals.{Refusal}
use Rattle.rounds.specs.Rounds.{ends, refused, round}
use Rattle.rounds.specs.Sessions.{Session}

-- Two policies that differ by weights alone: neither model nor disclosable set nor what is askable depends on these, nor whether a round of a session
-- grants, denies or asks.
pub record SameButQuestions (bytes others : List ℕ) : Type 0 where
  pub models : (C : ℕ) → model (policy_of bytes).access C ≡ model (policy_of others).access C
  pub disclosables : (P : ℕ) → disclosable (policy_of bytes) P ≡ disclosable (policy_of others) P
  pub askables : askable (policy_of bytes) ≡ askable (policy_of others)
  pub grants : (s : Session) (m : Move) → ((round bytes s m).answer ≡ ends grant) ↔ ((round others s m).answer ≡ ends grant)
  pub denies : (s : Session) (m : Move) → ((round bytes s m).answer ≡ ends deny) ↔ ((round others s m).answer ≡ ends deny)
  pub refusals : (s : Session) (m : Move) (f : Refusal) → ((round bytes s m).answer ≡ refused f) ↔ ((round others s m).answer ≡ refused f)
  -- only another set may be asked
  pub asks : (s : Session) (m : Move) (q : Question) → (round bytes s m).answer ≡ ends (ask q) → (x : Question) × ((round others s m).answer ≡ ends (ask x))

pub record WeightsAside : Type 0 where
  -- the same records but for those of kind 3, of which either may have none
  pub aside : (bytes others : List ℕ) → Bytes bytes → Bytes others → WellFormed bytes → WellFormed others
      → unweighted (records_of bytes) ≡ unweighted (records_of others) → SameButQuestions bytes others
  -- without records of kind 3 it is as before: "The preferred set has the fewest credentials, counted as one bits; among those, the smallest as a
  -- number."
  pub as_before : (bytes : List ℕ) → WellFormed bytes → ((j : ℕ) → 18 * j + 18 ≤ length bytes → (record_at bytes j).kind ≢ weight_kind)
      → (q x : Question) → q.asks < 2 ^ 16 → x.asks < 2 ^ 16
      → Preferred (policy_of bytes) q x ↔ ((size q.asks < size x.asks) ⊎ ((size q.asks ≡ size x.asks) × (q.asks < x.asks)))
