-- The search with weights and a limit, as a number. Assumes nothing.
use Rattle.std.specs.Prelude.{◌≡◌, Bool, ◌&&◌, cond, true, List, ◌*◌, ◌+◌, ◌^◌, ◌≤◌, ℕ, leb}
use Rattle.std.proofs.Math.Option.{Option, none, some}
use Rattle.atoms.specs.Atoms.{first_derived, last_derived, violation}
use Rattle.atoms.specs.Sets.{difference, disjoint, size}
use Rattle.rules.specs.Policy.{Policy}
use Rattle.rules.specs.Unlocking.{unlocks}
use Rattle.records.specs.Policies.{policy_of}
use Rattle.form.specs.WrittenForm.{Refusal}
use Rattle.form.specs.PolicyTest.{policy_refusal}
use Rattle.policy.specs.Types.{AcceptedWith}
use Rattle.preference.specs.Order.{Result, cost_of, found, nothing, searched, spent}
use Rattle.preference.specs.OrderTheorems.{question_at}
use Rattle.preference.specs.Question.{Question, opens_with}
use Rattle.preference.specs.Subsets.{subset_of}

-- what the search answers, where candidate n asks for `asks n`: its place and that set; how many were tried in vain; or that the limit came first
abbrev pub result_reply : (ℕ → ℕ) → Result → ℕ
result_reply asks (found n place) = 256 * place + 2 ^ 32 * asks n
result_reply asks (nothing tried) = 1 + 256 * tried
result_reply asks spent = 2

-- the search over the subsets of D that pass a test, where member j of D, counted from the lowest, weighs weight j
unfoldable pub found_reply : (Question → Bool) → ℕ → List ℕ → ℕ → ℕ
found_reply test D weights limit = result_reply (subset_of D) (searched (cost_of weights) (λ n. test (question_at D n)) (2 ^ size D) limit)

-- 0 where the shown set P alone unlocks the request r; else the search for what unlocks it with P
unfoldable pub accepted_reply : Policy → ℕ → ℕ → ℕ → List ℕ → ℕ → ℕ
accepted_reply pol r P D weights limit = cond (unlocks pol r P) 0 (found_reply (opens_with pol r P) D weights limit)

-- an accepted policy with levels, a request that is an atom, and nothing of what may be asked shown
pub record ProbeInput (policy levels : List ℕ) (request shown within : ℕ) : Type 0 where
  pub form : AcceptedWith policy levels
  pub atom : request ≤ violation
  pub apart : disjoint shown within ≡ true

-- 3 where the policy is refused or the request is not 16 to 62
abbrev pub refused_reply : ℕ
refused_reply = 3

abbrev pub tested_reply : Option Refusal → Bool → ℕ → ℕ
tested_reply none service reply = cond service reply refused_reply
tested_reply (some f) service reply = refused_reply

-- of a policy's bytes: what may be asked is D, the set `within` without P
unfoldable pub search_reply : List ℕ → ℕ → ℕ → ℕ → List ℕ → ℕ → ℕ
search_reply bytes r P within weights limit =
    tested_reply (policy_refusal bytes) (leb first_derived r && leb r last_derived)
    (accepted_reply (policy_of bytes) r P (difference within P) weights limit)
