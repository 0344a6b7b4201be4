-- Demand 3: one statement about a policy, a request and a whole list of rounds. Shown and declined are read from the list, never from the session.
-- Assumes nothing.
use Rattle.std.specs.Prelude.{◌≡◌, ◌≢◌, List, [], ◌∷◌, ◌+◌, ◌<◌, ◌^◌, ◌≤◌, suc, ℕ, length}
use Rattle.encoding.specs.LittleEndian.{Bytes}
use Rattle.lists.specs.Each.{Each}
use Rattle.lists.specs.Lists.{Every}
use Rattle.lists.specs.Runs.{Turn}
use Rattle.validation.specs.Unless.{given}
use Rattle.atoms.specs.Sets.{Member, Subset, difference, size, union}
use Rattle.rules.specs.Policy.{Policy}
use Rattle.rules.specs.Unlocking.{Unlocks}
use Rattle.records.specs.Policies.{policy_of}
use Rattle.form.specs.WrittenForm.{WellFormed}
use Rattle.disclosure.specs.Disclosure.{Disclosable, askable}
use Rattle.rounds.specs.Moves.{Move}
use Rattle.rounds.specs.Endings.{deny, ending, grant}
use Rattle.rounds.specs.Refusals.{number}
use Rattle.rounds.specs.Rounds.{Answer, Outcome, ends, opening, refused, rounds_of}
use Rattle.rounds.specs.Sessions.{Session}
use Rattle.demands.specs.Demand2.{Demand2, DeniedWhen}
use Rattle.demands.specs.Lists.{Asks, ByRound, Final, Over, Round, SomeRound, accepted_of}
use Rattle.demands.specs.Lists.{declined_by, declined_next, reply, session_from, shown_by, shown_next}

-- ---- the clauses, each of all rounds of the list or of the accepted ones

-- how a round that took m is answered after the accepted rounds `past`: "all are until the session closes, and then each is refused 9"
pub record Responds (pol : Policy) (r : ℕ) (past : List (Round Move)) (m : Move) (a : Answer) : Type 0 where
  pub while_open : (Over past → ⊥) → a ≡ ends (ending pol r (shown_next past m) (declined_next past m))
  pub once_closed : Over past → a ≡ refused (number 9)

abbrev pub AllRespond : Policy → ℕ → List (Turn Move Outcome) → Type 0
AllRespond pol r ts = Each (λ before t. Responds pol r (accepted_of before) t.takes t.gives.answer) [] ts

-- the session after each round, refused or not, is the one that the list says: request, shown by, declined by, count and phase
abbrev pub SessionsSay : ℕ → List (Turn Move Outcome) → Type 0
SessionsSay r ts = Each (λ before t. t.gives.session ≡ session_from r (accepted_of (t ∷ before))) [] ts

-- after each round, refused or not
abbrev pub CountsRounds : List (Turn Move Outcome) → Type 0
CountsRounds ts = Each (λ before t. t.gives.session.count ≡ length (accepted_of (t ∷ before))) [] ts

-- each accepted round meets demand 2 with what the list says is shown and declined by it
abbrev pub MeetsDemand2 : Policy → ℕ → List (Round Move) → Type 0
MeetsDemand2 pol r rounds = Each (λ past t. Demand2 pol r (shown_by (t ∷ past)) (declined_by (t ∷ past)) t.ended) [] rounds

-- "Asked twice is a credential in the asked sets of two rounds."
abbrev pub NothingTwice : List (Round Move) → Type 0
NothingTwice rounds = Each (λ past t. (k : ℕ) → SomeRound (λ u. Asks u.ended k) past → Asks t.ended k → ⊥) [] rounds

abbrev pub DeniesExactly : Policy → ℕ → List (Round Move) → Type 0
DeniesExactly pol r rounds = Each (λ past t. DeniedWhen pol r (shown_by (t ∷ past)) (declined_by (t ∷ past)) t.ended) [] rounds

-- "d counting all credentials that the disclosure rules can ask for"
abbrev pub askable_count : Policy → ℕ
askable_count pol = size (askable pol)

-- "u counting the credentials that the disclosure rules can ask for and it lacks": those outside H
abbrev pub lacked_count : Policy → ℕ → ℕ
lacked_count pol H = size (difference (askable pol) H)

-- ---- the client that holds H, all of it credentials, and shows I first

-- "if some held set S, all disclosable from I, unlocks the service together with every part of its holding"
pub record Licensed (pol : Policy) (r H I S : ℕ) : Type 0 where
  -- "What the client holds is one set of credentials for the whole list"
  pub holding : H < 2 ^ 16
  pub first : Subset I H
  pub held : Subset S H
  pub disclosed : (k : ℕ) → Member k S → Disclosable pol I k
  pub opens : (T : ℕ) → Subset T H → Unlocks pol r (union S T)

-- "A client that shows in round 1 a part I of what it holds, and answers each question with exactly the asked ones it holds"
abbrev pub Client : ℕ → ℕ → List (Round Move) → Type 0
Client H I rounds = Each (λ past t. t.takes.shows ≡ reply H I past) [] rounds

pub record Admitted (pol : Policy) (H : ℕ) (ts : List (Turn Move Outcome)) : Type 0 where
  -- "is never denied"
  pub never_denied : Each (λ past t. t.ended ≢ deny) [] (accepted_of ts)
  -- "and has grant by round 2 + u at the latest"
  pub granted_by : ByRound (2 + lacked_count pol H) (λ e. e ≡ grant) (accepted_of ts)
  -- "a list with k or more rounds, refused ones counted, thus has one that ends" so
  pub granted : 2 + lacked_count pol H ≤ length ts → SomeRound (λ t. t.ended ≡ grant) (accepted_of ts)

-- ---- demand 3, of the rounds ts that answered the list ms, beginning with the session s

pub record Demand3 (bytes : List ℕ) (r : ℕ) (s : Session) (ms : List Move) (ts : List (Turn Move Outcome)) : Type 0 where
  -- "each answer is the one that document 01 defines for that list": as the definitions run, and as the list says
  pub defined : ts ≡ rounds_of bytes s ms
  pub responds : AllRespond (policy_of bytes) r ts
  pub answered : MeetsDemand2 (policy_of bytes) r (accepted_of ts)
  -- and so is each session
  pub sessions : SessionsSay r ts
  -- "nothing is asked twice"
  pub once : NothingTwice (accepted_of ts)
  -- "the count after it is the number of rounds accepted"
  pub counted : CountsRounds ts
  -- "the client has grant or deny by round d + 1"
  pub bounded : ByRound (suc (askable_count (policy_of bytes))) Final (accepted_of ts)
  -- "a list with k or more rounds, refused ones counted, thus has one that ends in grant or deny"
  pub ended : suc (askable_count (policy_of bytes)) ≤ length ts → Over (accepted_of ts)
  -- "An accepted round ends in deny exactly when no set of disclosable credentials, neither shown nor declined by that round, unlocks the service
  -- beside those shown by then."
  pub denies : DeniesExactly (policy_of bytes) r (accepted_of ts)
  -- "A client that shows in round 1 a part I of what it holds, and answers each question with exactly the asked ones it holds, is never denied and
  -- has grant by round 2 + u at the latest", "if some held set S, all disclosable from I, unlocks the service together with every part of its holding"
  pub admits : (H I S : ℕ) → Licensed (policy_of bytes) r H I S → Client H I (accepted_of ts) → Admitted (policy_of bytes) H ts

-- "Demand 3 is a single claim about a policy, a request and a whole list of rounds": opening has given s for the request r, and each p of the list is a
-- set of credentials
abbrev pub Demand3Holds : Type 0
Demand3Holds =
    (bytes : List ℕ) → Bytes bytes → WellFormed bytes → (r : ℕ) (s : Session) → opening r ≡ given s
    → (ms : List Move) → Every (λ m. m.shows < 2 ^ 16) ms → Demand3 bytes r s ms (rounds_of bytes s ms)
