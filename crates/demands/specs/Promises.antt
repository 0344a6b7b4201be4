-- What opening, a single round, and rounds under changing policies promise beside the three demands. Assumes nothing.
use Rattle.std.specs.Prelude.{◌≡◌, ◌↔◌, List, [], ◌∷◌, map, ◌<◌, ◌^◌, ◌≤◌, suc, ℕ, length}
use Rattle.encoding.specs.LittleEndian.{Bytes}
use Rattle.lists.specs.Lists.{Every}
use Rattle.lists.specs.Runs.{Turn, run}
use Rattle.validation.specs.Unless.{GivenExactly, Unless, given}
use Rattle.atoms.specs.Sets.{Member, difference, empty, union}
use Rattle.records.specs.Policies.{policy_of}
use Rattle.form.specs.WrittenForm.{WellFormed}
use Rattle.preference.specs.Question.{Question}
use Rattle.rounds.specs.Moves.{Move}
use Rattle.rounds.specs.Endings.{Ending, ask, deny, grant}
use Rattle.rounds.specs.Refusals.{Refusal, number}
use Rattle.rounds.specs.Rounds.{Outcome, ends, round, rounds_of}
use Rattle.rounds.specs.Sessions.{Finished, Service, Session, SixteenBit, SoundSession, closed, denied, fresh, granted, question, waiting}
use Rattle.demands.specs.Demand1.{Demand1}
use Rattle.demands.specs.Demand2.{Demand2}
use Rattle.demands.specs.Lists.{accepted_of}

-- "Opening gives a fresh one: P and N empty, count 0."
pub record FreshFor (r : ℕ) (s : Session) : Type 0 where
  pub request : s.request ≡ r
  pub shown : s.shown ≡ empty
  pub declined : s.declined ≡ empty
  pub count : s.count ≡ 0
  pub phase : s.phase ≡ fresh

-- "opening gives only 7 and then no session"
abbrev pub Opening : ℕ → Unless Refusal Session → Type 0
Opening r u = GivenExactly (Service r) (FreshFor r) (λ f. (Service r → ⊥) × (f ≡ number 7)) u

-- an accepted round of the session s, which ended in e
pub record AcceptedRound (bytes : List ℕ) (s : Session) (m : Move) (o : Outcome) (e : Ending) : Type 0 where
  pub answer : o.answer ≡ ends e
  -- demand 2 of this round
  pub answered : Demand2 (policy_of bytes) s.request o.session.shown o.session.declined e
  pub request : o.session.request ≡ s.request
  -- "P becomes P with p"
  pub shown : o.session.shown ≡ union s.shown m.shows
  -- "N becomes N with those of Q not in p (Q is empty when fresh)"
  pub declined : o.session.declined ≡ union s.declined (difference (question s.phase).asks m.shows)
  -- "A credential declined and later shown counts as shown and stays in N."
  pub stays_declined : (k : ℕ) → Member k s.declined → Member k m.shows → Member k o.session.shown × Member k o.session.declined
  -- "the count rises by 1"
  pub count : o.session.count ≡ suc s.count
  -- "grant, closed", "deny, closed", "is asked and becomes Q"
  pub grant_closes : e ≡ grant → o.session.phase ≡ closed granted
  pub deny_closes : e ≡ deny → o.session.phase ≡ closed denied
  pub ask_waits : (q : Question) → e ≡ ask q → o.session.phase ≡ waiting q

-- every round of a sound open session under an accepted policy is one
abbrev pub RoundPromise : List ℕ → Session → Move → Outcome → Type 0
RoundPromise bytes s m o = WellFormed bytes → SoundSession s → (Finished s → ⊥) → (e : Ending) × AcceptedRound bytes s m o e

-- a sound session whose sets are sets of credentials
pub record SoundAndFits (s : Session) : Type 0 where
  pub sound : SoundSession s
  -- "a set of credentials is a 16-bit number"
  pub fits : SixteenBit s

-- ---- what the program's two functions promise of each call, in their contracts

-- u is what opening gives for the request r
pub record OpeningMeets (r : ℕ) (u : Unless Refusal Session) : Type 0 where
  pub promise : Opening r u
  -- "Every session that opening and rounds give is sound"
  pub sound : (s : Session) → u ≡ given s → SoundAndFits s

-- o is the outcome of a round of the session s, whatever the policy and the session
pub record RoundMeets (bytes : List ℕ) (s : Session) (m : Move) (o : Outcome) : Type 0 where
  pub demand1 : Demand1 bytes s m o
  -- demand 2, and what an accepted round does to the session
  pub demand2 : RoundPromise bytes s m o
  -- "Every session that opening and rounds give is sound, also when policies are changed between rounds."
  pub sound : SoundSession s → SoundAndFits o.session

-- ---- policies changed between rounds

-- a round that comes with a policy of its own, accepted or not
pub record Visit : Type 0 where
  pub policy : List ℕ
  pub takes : Move

-- a policy is a list of bytes, and a shown set a 16-bit number
abbrev pub Fitting : Visit → Type 0
Fitting v = Bytes v.policy × (v.takes.shows < 2 ^ 16)

-- the round of its move under its policy
abbrev pub visit : Session → Visit → Outcome
visit s v = round v.policy s v.takes

-- each gets the session that the one before gave back, refused or not
abbrev pub visits_of : Session → List Visit → List (Turn Visit Outcome)
visits_of = run visit (λ (o : Outcome). o.session)

-- "Every session that opening and rounds give is sound": of one round under any policy, accepted or not
abbrev pub RoundsKeepSound : Type 0
RoundsKeepSound =
    (bytes : List ℕ) → Bytes bytes → (s : Session) (m : Move) → m.shows < 2 ^ 16 → SoundAndFits s → SoundAndFits (round bytes s m).session

-- "Every session that opening and rounds give is sound, also when policies are changed between rounds. The longest sessions have 17 rounds."
pub record AlwaysSound (s : Session) (vs : List Visit) : Type 0 where
  pub opened_one : SoundSession s
  pub each_one : Every (λ t. SoundSession t.gives.session) (visits_of s vs)
  -- "a set of credentials is a 16-bit number"
  pub each_fits : Every (λ t. SixteenBit t.gives.session) (visits_of s vs)
  pub longest : length (accepted_of (visits_of s vs)) ≤ 17

-- a visit with this policy
abbrev pub under : List ℕ → Move → Visit
under bytes m = record { policy = bytes; takes = m }

-- Which list of turns the visits vs are from the session s. What a visit is, is spelled out: the round of its own move under its own policy.
pub record VisitsMean : Type 0 where
  -- of no visit nothing
  pub none : (s : Session) → visits_of s [] ≡ []
  -- of one more that it gave what the round gives under the policy that it came with, and that the others go on with "the session that the one before
  -- gave back, refused or not"
  pub one_more : (s : Session) (t : Turn Visit Outcome) (ts : List (Turn Visit Outcome)) (vs : List Visit)
      → (t ∷ ts ≡ visits_of s (t.takes ∷ vs))
      ↔ ((t.gives ≡ round t.takes.policy s t.takes.takes) × (ts ≡ visits_of t.gives.session vs))
  -- where all come with one policy they are the rounds of a list
  pub one_policy : (bytes : List ℕ) (s : Session) (ms : List Move)
      → visits_of s (map (under bytes) ms)
      ≡ map (λ (t : Turn Move Outcome). record { takes = under bytes t.takes; gives = t.gives }) (rounds_of bytes s ms)
