-- Every session that opening and rounds give is sound, also where each round comes with a policy of its own. Assumes nothing.
use mathlib.Core.Path.{◌≡◌, refl, subst, sym}
use mathlib.Core.List.{List, [], ◌∷◌}
use Prim.Native.Nat.{◌+◌, ◌<◌, ◌^◌, ◌≤◌, ℕ}
use lib.ListN.{length}
use native.Mathlib.Omega.{arith}
use Rattle.encoding.specs.LittleEndian.{Bytes}
use Rattle.lists.specs.Lists.{Every}
use Rattle.lists.specs.Runs.{run}
use Rattle.lists.proofs.ListLaws.{every_imp}
use Rattle.lists.proofs.RunLaws.{run_every, run_map, run_more}
use Rattle.validation.specs.Unless.{given}
use Rattle.rounds.specs.Moves.{Move}
use Rattle.rounds.specs.Rounds.{Outcome, opening, round}
use Rattle.rounds.specs.Sessions.{Service, Session, SixteenBit, opened}
use Rattle.rounds.proofs.RefusalLaws.{RoundCase, goes, round_case, turned}
use Rattle.rounds.proofs.SoundLaws.{SoundSixteenBit, opened_sound, round_sound, seventeen}
use Rattle.demands.specs.Lists.{Round, accepted_of, add_round}
use Rattle.demands.specs.Promises.{AlwaysSound, Fitting, OpeningMeets, RoundMeets, RoundsKeepSound, SoundAndFits, Visit, VisitsMean}
use Rattle.demands.specs.Promises.{visit, visits_of}
use Rattle.demands.proofs.Demand1Proof.{demand1}
use Rattle.demands.proofs.PromiseProof.{opened_by, opening_promise, round_promise}

-- which list the visits are: by the laws of runs
pub visits_mean : VisitsMean
unfolding run
visits_mean = record {
  none = λ s. refl;
  one_more = λ s t ts vs. run_more visit (λ (o : Outcome). o.session) s t ts vs;
  one_policy = λ bytes s ms. run_map visit (λ (o : Outcome). o.session) _ s ms;
}

-- one round under any policy
pub rounds_keep_sound : RoundsKeepSound
rounds_keep_sound bytes b s m l h =
    let k = round_sound bytes b s m l (record { sound = h.sound; sets = h.fits }) in
    record { sound = k.sound; fits = k.sets }

pub opening_meets : (r : ℕ) → OpeningMeets r (opening r)
opening_meets r = record {
  promise = opening_promise r;
  sound = λ s e.
      let (service, is) = opened_by r s e in
      let h = opened_sound r service in
      subst SoundAndFits is (record { sound = h.sound; fits = h.sets });
}

pub round_meets : (bytes : List ℕ) → Bytes bytes → (s : Session) → SixteenBit s → (m : Move) → m.shows < 2 ^ 16
    → RoundMeets bytes s m (round bytes s m)
round_meets bytes b s f m l = record {
  demand1 = demand1 bytes b s m;
  demand2 = round_promise bytes b s m;
  sound = λ h. rounds_keep_sound bytes b s m l (record { sound = h; fits = f });
}

visit_sound : (s : Session) (v : Visit) → Fitting v → SoundSixteenBit s → SoundSixteenBit (visit s v).session
visit_sound s v f h = round_sound v.policy f.0 s v.takes f.1 h

-- the count and the accepted rounds rise together
counts : (s : Session) (v : Visit) (rs : List (Round Visit)) (n : ℕ) → length rs + (visit s v).session.count ≤ n
    → length (add_round v (visit s v).answer rs) + s.count ≤ n
counts s v rs n l = go (round_case v.policy s v.takes)
  where
    Most : Outcome → Type 0
    Most o = length rs + o.session.count ≤ n → length (add_round v o.answer rs) + s.count ≤ n

    go : RoundCase v.policy s v.takes (visit s v) → length (add_round v (visit s v).answer rs) + s.count ≤ n
    go (turned f e is) = subst Most (sym is) (λ h. h) l
    go (goes e is) = subst Most (sym is) (λ h. omega arith) l

at_most : (s : Session) → SoundSixteenBit s → (vs : List Visit) → Every Fitting vs → length (accepted_of (visits_of s vs)) + s.count ≤ 17
unfolding run accepted_of
at_most s h [] f = omega (arith, seventeen s h)
at_most s h (v ∷ vs) f =
    let o = visit s v in
    counts s v (accepted_of (visits_of o.session vs)) 17 (at_most o.session (visit_sound s v f.0 h) vs f.1)

all_sound : (r : ℕ) → Service r → (vs : List Visit) → Every Fitting vs → AlwaysSound (opened r) vs
all_sound r v vs f =
    let h = opened_sound r v in
    let each = run_every visit (λ (o : Outcome). o.session) SoundSixteenBit Fitting visit_sound (opened r) h vs f in
    record {
      opened_one = h.sound;
      each_one = every_imp _ _ (λ t g. g.sound) (visits_of (opened r) vs) each;
      each_fits = every_imp _ _ (λ t g. g.sets) (visits_of (opened r) vs) each;
      longest = omega (arith, at_most (opened r) h vs f);
    }

-- the session is the one that opening gave
pub always_sound : (r : ℕ) (s : Session) → opening r ≡ given s → (vs : List Visit) → Every Fitting vs → AlwaysSound s vs
always_sound r s e vs f =
    let (service, is) = opened_by r s e in
    subst (λ (x : Session). AlwaysSound x vs) is (all_sound r service vs f)
