-- The rounds at one slot, from an opening there that was not refused to the next such: those of one session. Assumes nothing.
use mathlib.Core.Path.{◌∙◌, ◌≡◌, ap, refl, subst, sym}
use mathlib.Core.Logic.{◌≢◌}
use mathlib.Core.Bool.{Bool, cond, false, true}
use mathlib.Core.List.{List, [], ◌++◌, ◌∷◌, map}
use mathlib.Core.Option.{Option, none, some}
use Prim.Native.Nat.{◌<◌, ◌^◌, ℕ}
use lib.Dec.{eqb}
use lib.ListN.{length-set, set}
use lib.Seq.{get_or-set_other, get_or-set_same}
use borrow.Author.Tests.{eq-eqb, eqb-true, ne_eqb}
use native.Mathlib.Decide.{ℕ_discrete}
use Rattle.encoding.specs.LittleEndian.{Bytes}
use Rattle.lists.specs.Lists.{Every}
use Rattle.lists.specs.Runs.{Turn, run}
use Rattle.lists.proofs.ListLaws.{every_map, every_unmap}
use Rattle.validation.specs.Unless.{given}
use Rattle.form.specs.WrittenForm.{WellFormed}
use Rattle.rounds.specs.Moves.{Move}
use Rattle.rounds.specs.Refusals.{Refusal}
use Rattle.rounds.specs.Rounds as R
use Rattle.rounds.specs.Rounds.{Answer, Outcome, rounds_of}
use Rattle.rounds.specs.Sessions.{Session, opened}
use Rattle.rounds.proofs.AnswerLaws.{clash}
use Rattle.demands.specs.Demand3.{Demand3}
use Rattle.demands.specs.Promises as P
use Rattle.demands.specs.Promises.{Visit, under, visits_of}
use Rattle.demands.proofs.Demand3Proof.{demand3_holds}
use Rattle.demands.proofs.PromiseProof.{opened_service}
use Rattle.demands.proofs.VisitProof.{always_sound, visits_mean}
use Rattle.slots.specs.Openings.{Reply, open_at}
use Rattle.slots.specs.RoundsAt.{held_by, put_back, round_at, slot_round}
use Rattle.slots.specs.Slots.{InTable, Slot, held, slot_at, vacant}
use Rattle.slots.proofs.RoundAtLaws.{round_held}
use Rattle.slots.proofs.TableLaws.{OpeningCase, RoundAtCase, inside, opening_case, outside, round_at-case, taken, turned_away_lem}
use Rattle.operations.specs.AtSlot.{NotOpened, OnePolicy, OneSession, RoundsAtMean, SlotsMeetDemand3, add_round_at, moves_at, rounds_at, session_in, turns_at}
use Rattle.operations.specs.Operations.{Answered, Fitting, Operation, Step, operate, opening, opens, plays, round, steps_of}

-- ---- which rounds are at a slot

cond_same : (i : ℕ) {A : Type 0} (x y : A) → cond (eqb i i) x y ≡ x
cond_same i x y = ap (λ (b : Bool). cond b x y) (eq-eqb i i refl)

cond_other : (k i : ℕ) → k ≢ i → {A : Type 0} (x y : A) → cond (eqb k i) x y ≡ y
cond_other k i n x y = ap (λ (b : Bool). cond b x y) (ne_eqb k i n)

there : (i : ℕ) (bytes : List ℕ) (m : Move) (a : Answer) (ys : List Slot) (o : ℕ) (s : Session) → slot_at ys i ≡ held o s
    → (ts : List (Turn Visit Outcome))
    → add_round_at i (plays bytes i m) (round a) ys ts ≡ record { takes = under bytes m; gives = record { answer = a; session = s } } ∷ ts
there i bytes m a ys o s h ts =
    cond_same i _ ts ∙ ap (λ (x : Slot). record { takes = under bytes m; gives = record { answer = a; session = session_in x } } ∷ ts) h

elsewhere : (i k : ℕ) → k ≢ i → (bytes : List ℕ) (m : Move) (a : Answered) (ys : List Slot) (ts : List (Turn Visit Outcome))
    → add_round_at i (plays bytes k m) a ys ts ≡ ts
elsewhere i k n bytes m (opening f) ys ts = refl
elsewhere i k n bytes m (round a) ys ts = cond_other k i n _ ts

pub rounds_at_lem : RoundsAtMean
unfolding rounds_at
rounds_at_lem = record {
  none = λ i. refl;
  there = λ i bytes m a ys o s ts h. there i bytes m a ys o s h (rounds_at i ts);
  elsewhere = λ i k n bytes m g ts. elsewhere i k n bytes m g.answer g.table (rounds_at i ts);
  no_opening = λ i k o r g ts. refl;
}

-- ---- a slot that holds a session, after a step

-- slot i holds the session s of the owner o
record Holds (i o : ℕ) (s : Session) (xs : List Slot) : Type 0 where
  within : InTable xs i
  holds : slot_at xs i ≡ held o s

set_within : (xs : List Slot) (i k : ℕ) (v : Slot) → InTable xs i → InTable (set xs k v) i
set_within xs i k v (l, b) = (subst (λ (n : ℕ). i < n) (sym (length-set xs k v)) l, b)

set_holds : (i o : ℕ) (s : Session) (xs : List Slot) (k : ℕ) (v : Slot) → k ≢ i → Holds i o s xs → Holds i o s (set xs k v)
set_holds i o s xs k v n h = record {
  within = set_within xs i k v h.within;
  holds = get_or-set_other xs k i v vacant (λ e. n (sym e)) ∙ h.holds;
}

-- an opening elsewhere, or refused
opening_holds : (i o : ℕ) (s : Session) (xs : List Slot) (k p r : ℕ) → (k ≡ i → (open_at xs k p r).answer ≢ none) → Holds i o s xs
    → Holds i o s (open_at xs k p r).table
opening_holds i o s xs k p r n h = go (opening_case xs k p r) (ℕ_discrete k i)
  where
    go : OpeningCase xs k p r (open_at xs k p r) → Dec (k ≡ i) → Holds i o s (open_at xs k p r).table
    go (turned_away_lem f is) d = subst (λ (g : Reply (Option Refusal)). Holds i o s g.table) (sym is) h
    go (taken v l m is) (yes e) = absurd (n e (ap (λ (g : Reply (Option Refusal)). g.answer) is))
    go (taken v l m is) (no d) =
        subst (λ (g : Reply (Option Refusal)). Holds i o s g.table) (sym is) (set_holds i o s xs k (held p (opened r)) d h)

-- a round elsewhere
round_holds : (i o : ℕ) (s : Session) (xs : List Slot) (bytes : List ℕ) (k : ℕ) (m : Move) → k ≢ i → Holds i o s xs
    → Holds i o s (round_at bytes xs k m).table
round_holds i o s xs bytes k m n h = go (round_at-case bytes xs k m)
  where
    go : RoundAtCase bytes xs k m (round_at bytes xs k m) → Holds i o s (round_at bytes xs k m).table
    go (outside is) = subst (λ (g : Reply Answer). Holds i o s g.table) (sym is) h
    go (inside l is) =
        subst (λ (g : Reply Answer). Holds i o s g.table) (sym is) (set_holds i o s xs k (slot_round bytes (slot_at xs k) m).slot n h)

-- a round there
module _ (i o : ℕ) (s : Session) (xs : List Slot) (h : Holds i o s xs) (bytes : List ℕ) (m : Move) where
  abbrev outcome : Outcome
  outcome = R.round bytes s m

  round_is : round_at bytes xs i m ≡ put_back xs i (held_by o outcome)
  round_is = round_held bytes xs i m o s h.within h.holds

  round_next_lem : Holds i o outcome.session (round_at bytes xs i m).table
  round_next_lem =
      subst (λ (g : Reply Answer). Holds i o outcome.session g.table) (sym round_is)
      (record {
        within = set_within xs i i (held o outcome.session) h.within;
        holds = get_or-set_same xs i (held o outcome.session) vacant h.within.0;
      })

  -- as a round of the session
  round_added : (ts : List (Turn Visit Outcome)) → add_round_at i (plays bytes i m) (round (round_at bytes xs i m).answer) (round_at bytes xs i m).table ts
      ≡ record { takes = under bytes m; gives = outcome } ∷ ts
  round_added ts =
      there i bytes m (round_at bytes xs i m).answer (round_at bytes xs i m).table o outcome.session round_next_lem.holds ts
      ∙ ap (λ (g : Reply Answer). record { takes = under bytes m; gives = record { answer = g.answer; session = outcome.session } } ∷ ts) round_is

-- ---- the rounds there are the session's

visits_at : ℕ → List Step → List Visit
visits_at i ts = map (λ (t : Turn Visit Outcome). t.takes) (rounds_at i ts)

-- some rounds are those of the session s, each with what fits
record SessionRun (s : Session) (ts : List (Turn Visit Outcome)) : Type 0 where
  run_of : ts ≡ visits_of s (map (λ (t : Turn Visit Outcome). t.takes) ts)
  fitting : Every P.Fitting (map (λ (t : Turn Visit Outcome). t.takes) ts)

more : (s : Session) (v : Visit) → P.Fitting v → (ts : List (Turn Visit Outcome)) → SessionRun (R.round v.policy s v.takes).session ts
    → SessionRun s (record { takes = v; gives = R.round v.policy s v.takes } ∷ ts)
unfolding run
more s v f ts h = record {
  run_of = ap (◌∷◌ (record { takes = v; gives = R.round v.policy s v.takes })) h.run_of;
  fitting = (f, h.fitting);
}

module _ (i o : ℕ) where
  one_session : (ops : List Operation) → Every Fitting ops → (xs : List Slot) (s : Session) → Holds i o s xs → Every (NotOpened i) (steps_of xs ops)
      → SessionRun s (rounds_at i (steps_of xs ops))
  unfolding run rounds_at
  one_session [] f xs s h n = record { run_of = refl; fitting = tt }
  one_session (opens k p r ∷ ops) f xs s h n =
      one_session ops f.1 (open_at xs k p r).table s (opening_holds i o s xs k p r unopened h) n.1
    where
      unopened : k ≡ i → (open_at xs k p r).answer ≢ none
      unopened e a = n.0 p r (ap (λ (j : ℕ). opens j p r) e) (ap opening a)
  one_session (plays bytes k m ∷ ops) f xs s h n =
      go (λ t g. one_session ops f.1 (round_at bytes xs k m).table t g n.1) (ℕ_discrete k i)
    where
      Next : ℕ → Type 0
      Next j = (t : Session) → Holds i o t (round_at bytes xs j m).table → SessionRun t (rounds_at i (steps_of (round_at bytes xs j m).table ops))

      Now : ℕ → Type 0
      Now j = SessionRun s (rounds_at i (steps_of xs (plays bytes j m ∷ ops)))

      here : Next i → Now i
      here ih =
          let ts = rounds_at i (steps_of (round_at bytes xs i m).table ops) in
          subst (SessionRun s) (sym (round_added i o s xs h bytes m ts))
          (more s (under bytes m) f.0 ts (ih (R.round bytes s m).session (round_next_lem i o s xs h bytes m)))

      go : Next k → Dec (k ≡ i) → Now k
      go ih (yes e) = subst (λ (j : ℕ). Next j → Now j) (sym e) here ih
      go ih (no d) =
          subst (SessionRun s) (sym (elsewhere i k d bytes m (round (round_at bytes xs k m).answer) (round_at bytes xs k m).table _))
          (ih s (round_holds i o s xs bytes k m d h))

-- ---- a list of steps that is cut

-- some steps from the list ys are those of some operations
record Steps (ys : List Slot) (ts : List Step) : Type 0 where
  ops : List Operation
  fits : Every Fitting ops
  are : ts ≡ steps_of ys ops

-- the first one of them, and the others
record First (ys : List Slot) (t : Step) (ts : List Step) : Type 0 where
  gives : t.gives ≡ operate ys t.takes
  fits : Fitting t.takes
  others : Steps t.gives.table ts

first : (ys : List Slot) (t : Step) (ts : List Step) → Steps ys (t ∷ ts) → First ys t ts
unfolding run
first ys t ts h = go h.ops h.fits h.are
  where
    go : (ops : List Operation) → Every Fitting ops → t ∷ ts ≡ steps_of ys ops → First ys t ts
    go [] f e = clash (cc)
    go (x ∷ ops) f e =
        let is : t ≡ record { takes = x; gives = operate ys x } = cc in
        let rest : ts ≡ steps_of (operate ys x).table ops = cc in
        let took : x ≡ t.takes = sym (ap (λ (u : Step). u.takes) is) in
        let gave : t.gives ≡ operate ys x = ap (λ (u : Step). u.gives) is in
        record {
          gives = gave ∙ ap (operate ys) took;
          fits = subst Fitting took f.0;
          others = record { ops = ops; fits = f.1; are = rest ∙ ap (λ (g : Reply Answered). steps_of g.table ops) (sym gave) };
        }

-- those after some
later : (before : List Step) (ts : List Step) (ys : List Slot) → Steps ys (before ++ ts) → (zs : List Slot) × Steps zs ts
later [] ts ys h = (ys, h)
later (t ∷ before) ts ys h = later before ts t.gives.table (first ys t (before ++ ts) h).others

-- and those before some
sooner : (during after : List Step) (ys : List Slot) → Steps ys (during ++ after) → Steps ys during
unfolding run
sooner [] after ys h = record { ops = []; fits = tt; are = refl }
sooner (t ∷ during) after ys h =
    let f = first ys t (during ++ after) h in
    let s = sooner during after t.gives.table f.others in
    record {
      ops = t.takes ∷ s.ops;
      fits = (f.fits, s.fits);
      are = ap (◌∷◌ t) s.are
          ∙ ap (λ (g : Reply Answered). record { takes = t.takes; gives = g } ∷ steps_of g.table s.ops) f.gives;
    }

-- ---- under one policy

module _ (bytes : List ℕ) (i : ℕ) where
  abbrev bare : Turn Visit Outcome → Turn Move Outcome
  bare t = record { takes = t.takes.takes; gives = t.gives }

  abbrev dressed : Turn Move Outcome → Turn Visit Outcome
  dressed t = record { takes = under bytes t.takes; gives = t.gives }

  bare_dressed : (ts : List (Turn Move Outcome)) → map bare (map dressed ts) ≡ ts
  bare_dressed [] = refl
  bare_dressed (t ∷ ts) = ap (◌∷◌ t) (bare_dressed ts)

  -- the visits there are those of the moves, under this policy
  one_policy : (ts : List Step) → Every (OnePolicy bytes i) ts → visits_at i ts ≡ map (under bytes) (moves_at i ts)
  unfolding rounds_at visits_at
  one_policy [] h = refl
  one_policy (t ∷ ts) h = go t.takes t.gives.answer h.0 (one_policy ts h.1)
    where
      moves : List (Turn Visit Outcome) → List Move
      moves us = map (λ (u : Turn Move Outcome). u.takes) (map bare us)

      Same : List (Turn Visit Outcome) → Type 0
      Same us = map (λ (u : Turn Visit Outcome). u.takes) us ≡ map (under bytes) (moves us)

      go : (x : Operation) (a : Answered) → ((b : List ℕ) (m : Move) → x ≡ plays b i m → b ≡ bytes) → Same (rounds_at i ts)
          → Same (add_round_at i x a t.gives.table (rounds_at i ts))
      go (opens k o r) a n ih = ih
      go (plays b k m) (opening f) n ih = ih
      go (plays b k m) (round a) n ih = at (eqb k i) (λ e. n b m (ap (λ (j : ℕ). plays b j m) (eqb-true k i e)))
        where
          at : (q : Bool) → (q ≡ true → b ≡ bytes)
              → Same (cond q (record { takes = under b m; gives = record { answer = a; session = session_in (slot_at t.gives.table i) } } ∷ rounds_at i ts) (rounds_at i ts))
          at true p =
              ap (λ (c : List ℕ). under c m ∷ map (λ (u : Turn Visit Outcome). u.takes) (rounds_at i ts)) (p refl)
              ∙ ap (◌∷◌ (under bytes m)) ih
          at false p = ih

  turns_are : (s : Session) (ts : List Step) → rounds_at i ts ≡ visits_of s (visits_at i ts) → Every (OnePolicy bytes i) ts
      → turns_at i ts ≡ rounds_of bytes s (moves_at i ts)
  turns_are s ts e h =
      ap (map bare) (e ∙ ap (visits_of s) (one_policy ts h) ∙ visits_mean.one_policy bytes s (moves_at i ts))
      ∙ bare_dressed (rounds_of bytes s (moves_at i ts))

-- ---- from an opening that was not refused

module _ (i o r : ℕ) (during : List Step) where
  demand_3 : R.opening r ≡ given (opened r) → SessionRun (opened r) (rounds_at i during) → (bytes : List ℕ) → Bytes bytes → WellFormed bytes
      → Every (OnePolicy bytes i) during → Demand3 bytes r (opened r) (moves_at i during) (turns_at i during)
  unfolding visits_at
  demand_3 e h bytes b w p =
      subst (Demand3 bytes r (opened r) (moves_at i during)) (sym (turns_are bytes i (opened r) during h.run_of p))
      (demand3_holds bytes b w r (opened r) e (moves_at i during) fit)
    where
      fit : Every (λ m. m.shows < 2 ^ 16) (moves_at i during)
      fit = every_map (λ t. t.takes.shows < 2 ^ 16) _ _ (λ t l. l) (turns_at i during)
          (every_map (λ t. P.Fitting t.takes) _ _ (λ t f. f.1) (rounds_at i during) (every_unmap P.Fitting _ (rounds_at i during) h.fitting))

  at_slot : (ys : List Slot) → (open_at ys i o r).answer ≡ none → Steps (open_at ys i o r).table during → Every (NotOpened i) during
      → OneSession i r during
  at_slot ys a steps n = go (opening_case ys i o r)
    where
      holds : InTable ys i → Holds i o (opened r) (set ys i (held o (opened r)))
      holds l = record { within = set_within ys i i (held o (opened r)) l; holds = get_or-set_same ys i (held o (opened r)) vacant l.0 }

      are_rounds : Holds i o (opened r) (open_at ys i o r).table → SessionRun (opened r) (rounds_at i during)
      are_rounds h =
          subst (λ (ts : List Step). SessionRun (opened r) (rounds_at i ts)) (sym steps.are)
          (one_session i o steps.ops steps.fits (open_at ys i o r).table (opened r) h (subst (Every (NotOpened i)) steps.are n))

      go : OpeningCase ys i o r (open_at ys i o r) → OneSession i r during
      go (turned_away_lem f is) =
          let e : some f ≡ none = sym (ap (λ (g : Reply (Option Refusal)). g.answer) is) ∙ a in
          clash (cc)
      go (taken v l m is) =
          let h = are_rounds (subst (λ (g : Reply (Option Refusal)). Holds i o (opened r) g.table) (sym is) (holds l)) in
          let e = opened_service r v in
          record {
            opened_one = e;
            rounds = h.run_of;
            sound = always_sound r (opened r) e _ h.fitting;
            demand3 = demand_3 e h;
          }

pub slots_meet_demand3 : SlotsMeetDemand3
slots_meet_demand3 xs ops f before t during after e i o r took answer n =
    let (ys, steps) = later before (t ∷ (during ++ after)) xs (record { ops = ops; fits = f; are = sym e }) in
    let h = first ys t (during ++ after) steps in
    let gave : t.gives ≡ operate ys (opens i o r) = h.gives ∙ ap (operate ys) took in
    let said : opening (open_at ys i o r).answer ≡ opening none = sym (ap (λ (g : Reply Answered). g.answer) gave) ∙ answer in
    at_slot i o r during ys (cc)
    (subst (λ (g : Reply Answered). Steps g.table during) gave (sooner during after t.gives.table h.others)) n
