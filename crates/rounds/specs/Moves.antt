-- Document 01, "Sessions": what the client brings to a round. Assumes nothing.
use Rattle.std.specs.Prelude.{ℕ}

-- "a set p of credentials": what a round takes beside the policy and the session
pub record Move : Type 0 where
  pub shows : ℕ

abbrev pub showing : ℕ → Move
showing p = record { shows = p }
