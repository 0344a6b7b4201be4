-- Document 01, "Atoms and records": the atoms. Assumes nothing.
use Rattle.std.specs.Prelude.{ℕ}

-- "Atoms are numbered 0 to 63. Atoms 0 to 15 are credentials, 16 to 62 derived (roles and services), 63 is the breach mark."
abbrev pub last_credential : ℕ
last_credential = 15

abbrev pub first_derived : ℕ
first_derived = 16

abbrev pub last_derived : ℕ
last_derived = 62

-- the breach mark: what the field calls the head of an integrity constraint
abbrev pub violation : ℕ
violation = 63
