-- Document 01's cases as calls from C, byte for byte: the records and replies that include/gate.h describes. Assumes nothing.
use Rattle.std.specs.Prelude.{◌≡◌, List, [], ◌++◌, ◌∷◌, map, ℕ}
use Rattle.records.specs.Writing.{◌if◌not◌}
use Rattle.rounds.specs.Moves.{showing}
use Rattle.demands.specs.Promises.{Visit, under}
use Rattle.marked.specs.Marked.{policy_a}
use Rattle.packing.specs.Exports.{calls_from, check_reply, open_call}

-- rounds under one policy, with the set shown in each
abbrev pub visits : List ℕ → List ℕ → List Visit
visits policy ps = map (λ p. under policy (showing p)) ps

-- bytes of no session
abbrev pub junk : List ℕ
junk = 0xff ∷ 0xff ∷ 0xff ∷ 0xff ∷ 0xff ∷ 0xff ∷ 0xff ∷ 0xff ∷ 0xff ∷ 0xff ∷ []

-- a fresh session for service 16
abbrev pub fresh16 : List ℕ
fresh16 = 0x10 ∷ 0x00 ∷ 0x00 ∷ 0x00 ∷ 0x00 ∷ 0x00 ∷ 0 ∷ 0 ∷ 0x00 ∷ 0x00 ∷ []

pub record Examples : Type 0 where
  pub opened : open_call 16 junk ≡ record { reply = 0; leaves = fresh16 }
  pub unopened : open_call 15 junk ≡ record { reply = 7; leaves = junk }
  -- "(a) the three rounds above", and one more, which is refused 9
  pub a : calls_from fresh16 (visits policy_a (0x0000 ∷ 0x0000 ∷ 0x0003 ∷ 0x0000 ∷ []))
      ≡ record { reply = 0x0300; leaves = 0x10 ∷ 0x00 ∷ 0x00 ∷ 0x00 ∷ 0x00 ∷ 0x00 ∷ 1 ∷ 1 ∷ 0x04 ∷ 0x00 ∷ [] }
      ∷ record { reply = 0x0300; leaves = 0x10 ∷ 0x00 ∷ 0x00 ∷ 0x00 ∷ 0x04 ∷ 0x00 ∷ 2 ∷ 1 ∷ 0x03 ∷ 0x00 ∷ [] }
      ∷ record { reply = 0x0100; leaves = 0x10 ∷ 0x00 ∷ 0x03 ∷ 0x00 ∷ 0x04 ∷ 0x00 ∷ 3 ∷ 2 ∷ 0x00 ∷ 0x00 ∷ [] }
      ∷ record { reply = 9; leaves = 0x10 ∷ 0x00 ∷ 0x03 ∷ 0x00 ∷ 0x04 ∷ 0x00 ∷ 3 ∷ 2 ∷ 0x00 ∷ 0x00 ∷ [] }
      ∷ []
  -- "(b) empty policy, request 16: deny in round 1", with credentials 13 and 15 shown
  pub b : calls_from fresh16 (visits [] (0xa000 ∷ []))
      ≡ record { reply = 0x0200; leaves = 0x10 ∷ 0x00 ∷ 0x00 ∷ 0xa0 ∷ 0x00 ∷ 0x00 ∷ 1 ∷ 3 ∷ 0x00 ∷ 0x00 ∷ [] } ∷ []
  -- "Case (f) is now accepted; a rule "17 if not 17" is refused.", with the count of records: here both come after a record that is accepted by itself
  pub f : check_reply ((16 if [] not []) ++ (17 if [] not (24 ∷ []))) ≡ 0
  pub f_itself : check_reply ((16 if [] not []) ++ (17 if [] not (17 ∷ []))) ≡ 0x0206
  -- what is no session
  pub no_session : calls_from junk (visits policy_a (0x0000 ∷ [])) ≡ record { reply = 8; leaves = junk } ∷ []
