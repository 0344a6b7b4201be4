-- Document 02, R-1, byte for byte: logs held against each other, and what is answered. Assumes nothing.
use Rattle.std.specs.Prelude.{◌≡◌, List, [], ◌++◌, ◌∷◌, ℕ}
use Rattle.std.proofs.Math.Option.{none, some}
use Rattle.validation.specs.Unless.{given, withheld}
use Rattle.logs.specs.Comparison.{compared}

-- ---- records: shown set, answer, asked set, count, two zeros

-- "3 ask": credential 2, in round 1
abbrev pub asks2 : List ℕ
asks2 = 0x00 ∷ 0x00 ∷ 3 ∷ 0x04 ∷ 0x00 ∷ 1 ∷ 0 ∷ 0 ∷ []

-- the same answer, with another shown set and another count
abbrev pub asks2_too : List ℕ
asks2_too = 0x34 ∷ 0x12 ∷ 3 ∷ 0x04 ∷ 0x00 ∷ 200 ∷ 0 ∷ 0 ∷ []

-- credential 10: the two bytes of credential 2's set, the other way round
abbrev pub asks10 : List ℕ
asks10 = 0x00 ∷ 0x00 ∷ 3 ∷ 0x00 ∷ 0x04 ∷ 1 ∷ 0 ∷ 0 ∷ []

-- "1 grant", "2 deny"
abbrev pub grants : List ℕ
grants = 0x04 ∷ 0x00 ∷ 1 ∷ 0x00 ∷ 0x00 ∷ 2 ∷ 0 ∷ 0 ∷ []

abbrev pub denies : List ℕ
denies = 0x04 ∷ 0x00 ∷ 2 ∷ 0x00 ∷ 0x00 ∷ 2 ∷ 0 ∷ 0 ∷ []

-- one of each fault of 11
abbrev pub faults : List (List ℕ)
faults =
    (0x00 ∷ 0x00 ∷ 0 ∷ 0x00 ∷ 0x00 ∷ 1 ∷ 0 ∷ 0 ∷ [])
    ∷ (0x00 ∷ 0x00 ∷ 4 ∷ 0x00 ∷ 0x00 ∷ 1 ∷ 0 ∷ 0 ∷ [])
    ∷ (0x00 ∷ 0x00 ∷ 4 ∷ 0x01 ∷ 0x00 ∷ 1 ∷ 0 ∷ 0 ∷ [])
    ∷ (0x00 ∷ 0x00 ∷ 1 ∷ 0x00 ∷ 0x00 ∷ 1 ∷ 1 ∷ 0 ∷ [])
    ∷ (0x00 ∷ 0x00 ∷ 1 ∷ 0x00 ∷ 0x00 ∷ 1 ∷ 0 ∷ 1 ∷ [])
    ∷ (0x01 ∷ 0x00 ∷ 3 ∷ 0x00 ∷ 0x00 ∷ 1 ∷ 0 ∷ 0 ∷ [])
    ∷ (0x00 ∷ 0x00 ∷ 1 ∷ 0x01 ∷ 0x00 ∷ 1 ∷ 0 ∷ 0 ∷ [])
    ∷ (0x00 ∷ 0x00 ∷ 2 ∷ 0x00 ∷ 0x80 ∷ 1 ∷ 0 ∷ 0 ∷ [])
    ∷ []

-- the record is at fault alone, and as the last one of the second log, after the logs have parted
pub record Fault (bad : List ℕ) : Type 0 where
  pub alone : compared bad [] ≡ withheld 11
  pub after_parting : compared (asks2 ++ grants) (grants ++ asks2 ++ bad) ≡ withheld 11
  -- "10 before 11"
  pub too_long : compared (bad ++ (0 ∷ [])) [] ≡ withheld 10
  -- "The first log is tested first"
  pub first_first : compared bad (0 ∷ []) ≡ withheld 11
  pub second_next : compared asks2 (bad ++ (0 ∷ [])) ≡ withheld 10

abbrev pub AllFaults : List (List ℕ) → Type 0
AllFaults [] = Unit {0}
AllFaults (x ∷ xs) = Fault x × AllFaults xs

pub record Examples : Type 0 where
  -- "or agreement": by answer and asked set alone
  pub nothing : compared [] [] ≡ given none
  pub agree : compared (asks2 ++ grants) (asks2_too ++ grants) ≡ given none
  -- "the first record, from 0, where they part"
  pub at_0 : compared (grants ++ asks2) (denies ++ asks2) ≡ given (some 0)
  pub at_1 : compared (asks2 ++ asks2 ++ grants) (asks2_too ++ asks10 ++ denies) ≡ given (some 1)
  pub at_2 : compared (asks2 ++ asks10 ++ asks2) (asks2_too ++ asks10 ++ grants) ≡ given (some 2)
  -- "the shorter log's end counts"
  pub first_ends : compared asks2 (asks2 ++ grants) ≡ given (some 1)
  pub second_ends : compared (asks2 ++ asks10 ++ grants) (asks2 ++ asks10) ≡ given (some 2)
  pub no_first : compared [] grants ≡ given (some 0)
  pub no_second : compared grants [] ≡ given (some 0)
  -- "10, a log's length is no multiple of 8"
  pub short : compared (0x00 ∷ 0x00 ∷ 1 ∷ 0x00 ∷ 0x00 ∷ 1 ∷ 0 ∷ []) grants ≡ withheld 10
  pub half : compared grants (0x00 ∷ 0x00 ∷ 1 ∷ 0x00 ∷ []) ≡ withheld 10
  pub long : compared (grants ++ (0 ∷ [])) grants ≡ withheld 10
  -- 11
  pub faulty : AllFaults faults
