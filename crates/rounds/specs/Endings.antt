-- Document 01, "Sessions": how a round that is not refused ends, once P is shown and N declined. Assumes nothing.
use Rattle.std.specs.Prelude.{Bool, false, true, ℕ}
use Rattle.std.proofs.Math.Option.{Option, none, some}
use Rattle.atoms.specs.Sets.{difference}
use Rattle.rules.specs.Policy.{Policy}
use Rattle.rules.specs.Unlocking.{unlocks}
use Rattle.disclosure.specs.Disclosure.{disclosable}
use Rattle.preference.specs.Question.{Question, chosen}

-- "D is the disclosable set of P without P and without N"
abbrev pub obtainable : Policy → ℕ → ℕ → ℕ
obtainable pol P N = difference (difference (disclosable pol P) P) N

-- "grant", "deny", or "the preferred one is asked"
pub data Ending : Type 0 where
  grant deny : Ending
  ask : Question → Ending

-- "if P unlocks the request, grant, closed; otherwise"; "the preferred one is asked and becomes Q; if there is none, deny, closed"
abbrev pub conclude : Bool → Option Question → Ending
conclude true m = grant
conclude false none = deny
conclude false (some q) = ask q

-- of a request, once P is shown and N declined
unfoldable pub ending : Policy → ℕ → ℕ → ℕ → Ending
ending pol r P N = let m = chosen pol r P (obtainable pol P N) in conclude (unlocks pol r P) m
