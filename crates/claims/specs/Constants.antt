-- The papers' own numbers, held against the names that stand for them. Assumes nothing.
use Rattle.std.specs.Prelude.{◌≡◌, ℕ}
use Rattle.atoms.specs.Atoms.{first_derived, last_credential, last_derived, violation}
use Rattle.records.specs.Records.{access_kind, disclosure_kind, weight_kind}
use Rattle.form.specs.WrittenForm.{at, record_number, refusal_number}
use Rattle.slots.specs.Slots.{most_unfinished, slot_limit}

pub record Constants : Type 0 where
  -- "Atoms 0 to 15 are credentials, 16 to 62 derived (roles and services), 63 is the breach mark."
  pub last_credential_lem : last_credential ≡ 15
  pub first_derived_lem : first_derived ≡ 16
  pub last_derived_lem : last_derived ≡ 62
  pub breach_mark : violation ≡ 63
  -- "Byte 0 is the kind: 1 access, 2 disclosure."
  pub access : access_kind ≡ 1
  pub disclosure : disclosure_kind ≡ 2
  -- "A record of kind 3 gives a credential (head) a weight"
  pub weight : weight_kind ≡ 3
  -- "its number, and for the policy "at" with its record number, as "refused 6 at 0""
  pub refused_6_at_0 : (refusal_number (at 6 0) ≡ 6) × (record_number (at 6 0) ≡ 0)
  pub refused_n_at_k : (n k : ℕ) → (refusal_number (at n k) ≡ n) × (record_number (at n k) ≡ k)
  -- "A lent list of at most 64 seats", "No owner has more than four unfinished sessions"
  pub slots : slot_limit ≡ 64
  pub sessions : most_unfinished ≡ 4
