-- The theorems of the disclosable set. Assumes nothing.
use Rattle.std.specs.Prelude.{◌≡◌, ◌↔◌, ◌⊎◌, List, ◌*◌, ◌+◌, ◌<◌, ◌^◌, ◌≤◌, ℕ, length, Result}
use Rattle.encoding.specs.LittleEndian.{Bytes}
use Rattle.validation.specs.Unless.{Unless}
use Rattle.atoms.specs.Atoms.{last_credential}
use Rattle.atoms.specs.Sets.{Member, Subset}
use Rattle.rules.specs.Stable.{Closed, Least}
use Rattle.records.specs.Policies.{policy_of}
use Rattle.records.specs.Records.{disclosure_kind, record_at}
use Rattle.form.specs.Answers.{Gives}
use Rattle.form.specs.WrittenForm as W
use Rattle.policy.specs.declared.refusal.Refusal.{Refusal}
use Rattle.disclosure.specs.Answers.{disclosable_answer}
use Rattle.disclosure.specs.Disclosure.{Askable, Disclosable, askable, disclosable}
use Rattle.disclosure.specs.Types.{disclosed_of}

-- "the least set that holds P and is closed under the disclosure rules"
abbrev pub GivesDisclosable : List ℕ → ℕ → Unless W.Refusal ℕ → Type 0
GivesDisclosable bytes P = Gives bytes (Least (Closed (policy_of bytes).disclosure P))

-- record j discloses credential k
pub record Discloses (bytes : List ℕ) (k j : ℕ) : Type 0 where
  pub inside : 18 * j + 18 ≤ length bytes
  pub kind : (record_at bytes j).kind ≡ disclosure_kind
  pub head : (record_at bytes j).rule.head ≡ k

-- What holds of every policy of the written form.
pub record OfWellFormed (bytes : List ℕ) : Type 0 where
  -- "the least set that holds P and is closed under the disclosure rules"
  pub disclosable_iff : (P k : ℕ) → Member k (disclosable (policy_of bytes) P) ↔ Disclosable (policy_of bytes) P k
  -- "A credential is askable if it heads some disclosure rule."
  pub askable_iff : (k : ℕ) → Member k (askable (policy_of bytes)) ↔ Askable (policy_of bytes) k
  pub askable_means : (k : ℕ) → Askable (policy_of bytes) k ↔ ((j : ℕ) × Discloses bytes k j)
  pub askable_credential : (k : ℕ) → Askable (policy_of bytes) k → k ≤ last_credential
  -- what is shown is disclosable; more is where more is shown; and what is disclosable and not shown is askable
  pub shown : (P : ℕ) → Subset P (disclosable (policy_of bytes) P)
  pub grows : (P Q : ℕ) → Subset P Q → Subset (disclosable (policy_of bytes) P) (disclosable (policy_of bytes) Q)
  pub adds : (P k : ℕ) → Member k (disclosable (policy_of bytes) P) → Member k P ⊎ Askable (policy_of bytes) k
  -- "a set of credentials is a 16-bit number"
  pub credentials : (P : ℕ) → P < 2 ^ 16 → disclosable (policy_of bytes) P < 2 ^ 16

pub record Theorems : Type 0 where
  pub accepted : (bytes : List ℕ) → Bytes bytes → W.WellFormed bytes → OfWellFormed bytes
  pub disclosables : (bytes : List ℕ) → Bytes bytes → (P : ℕ) → GivesDisclosable bytes P (disclosable_answer bytes P)
  -- what the program's answer means is one-to-one, so that a contract through this map fixes the answer
  pub one_to_one : (x y : Result ℕ Refusal) → disclosed_of x ≡ disclosed_of y → x ≡ y
