-- A list of rounds that the program runs is the list that the definitions run, so that demand 3 holds of it. Assumes nothing.
use mathlib.Core.Path.{◌∙◌, ◌≡◌, ap, refl, subst, sym}
use mathlib.Core.List.{List, [], ◌++◌, ◌∷◌, map}
use mathlib.Core.Option.{Option, none, some}
use Prim.Native.Nat.{◌<◌, ◌^◌, ◌≤◌, suc, ℕ}
use lib.ListN.{get_or, length, take}
use lib.Seq.{take_all, take-suc}
use native.Mathlib.Omega.{arith}
use mir.Syntax.{w16, w8}
use mir.Val.{Fits}
use Rattle.encoding.proofs.ByteLaws.{slice_bytes}
use Rattle.encoding.specs.LittleEndian.{Bytes}
use Rattle.lists.specs.Lists.{Every}
use Rattle.lists.specs.Runs.{Turn, last, reached, run}
use Rattle.lists.proofs.ListLaws.{every_map, map_append}
use Rattle.lists.proofs.RunLaws.{last_one, run_later}
use Rattle.validation.specs.Unless.{Unless, given, withheld}
use Rattle.rounds.specs.Moves.{Move, showing}
use Rattle.rounds.specs.Refusals.{Refusal}
use Rattle.rounds.specs.Rounds.{Outcome, opening, round, rounds_of}
use Rattle.rounds.specs.Sessions.{Session}
use Rattle.demands.proofs.Demand3Proof.{demand3_holds}
use Rattle.replay.specs.Replay.{Replayed, Replays, after_opening, after_rounds, begun, one_more, played, replayed}

-- ---- one round after another

module _ (bytes : List ℕ) where
  opened_none : (o : Unless Refusal Session) → after_opening bytes [] o ≡ begun o
  unfolding run last
  opened_none (withheld f) = refl
  opened_none (given s) = refl

  -- after the last round, if there was one
  rounds_more : (s : Session) (m : Move) (l : Option (Turn Move Outcome))
      → played (round bytes (reached (λ (o : Outcome). o.session) s l) m) ≡ one_more bytes (after_rounds s l) m
  rounds_more s m none = refl
  rounds_more s m (some t) = refl

  opened_more : (ms : List Move) (m : Move) (o : Unless Refusal Session) → after_opening bytes (ms ++ (m ∷ [])) o ≡ one_more bytes (after_opening bytes ms o) m
  opened_more ms m (withheld f) = refl
  opened_more ms m (given s) =
      ap (λ (ts : List (Turn Move Outcome)). after_rounds s (last ts)) (run_later (round bytes) (λ (o : Outcome). o.session) s ms m)
      ∙ ap (after_rounds s) (last_one (rounds_of bytes s ms) _)
      ∙ rounds_more s m (last (rounds_of bytes s ms))

-- ---- demand 3

replays : (bytes : List ℕ) → Bytes bytes → (r : ℕ) (ms : List Move) → Every (λ m. m.shows < 2 ^ 16) ms
    → Replays bytes r ms (after_opening bytes ms (opening r))
unfolding last
replays bytes b r ms l = record {
  unopened_one = λ f e. ap (after_opening bytes ms) e;
  opened_one = λ s e. record {
    unplayed_one = λ h. is s e ∙ ap (λ (ts : List (Turn Move Outcome)). after_rounds s (last ts)) h;
    last_one = λ ts t h. is s e ∙ ap (λ (ts : List (Turn Move Outcome)). after_rounds s (last ts)) h ∙ ap (after_rounds s) (last_one ts t);
    demand3 = λ w. demand3_holds bytes b w r s e ms l;
  };
}
  where
    is : (s : Session) → opening r ≡ given s → after_opening bytes ms (opening r) ≡ after_rounds s (last (rounds_of bytes s ms))
    is s e = ap (after_opening bytes ms) e

-- what the checker knows of a slice of 16-bit numbers
slice_sets : (ps : List ℕ) → ((i : ℕ) → Fits w16 (get_or ps i 0)) → Every (λ p. p < 2 ^ 16) ps
slice_sets [] g = tt
slice_sets (p ∷ ps) g = ((g 0).fits, slice_sets ps (λ i. g (suc i)))

-- ---- the loop

-- x is where the first k rounds have come to
pub record Reached (bytes : List ℕ) (r : ℕ) (ps : List ℕ) (k : ℕ) (x : Replayed) : Type 0 where
  pub most : k ≤ length ps
  pub is : x ≡ replayed bytes r (take k ps)

pub reached_first : (bytes : List ℕ) (r : ℕ) (ps : List ℕ) (x : Replayed) → x ≡ begun (opening r) → Reached bytes r ps 0 x
unfolding replayed
reached_first bytes r ps x e = record { most = omega arith; is = e ∙ sym (opened_none bytes (opening r)) }

pub reached_next : (bytes : List ℕ) (r : ℕ) (ps : List ℕ) (k : ℕ) (x y : Replayed) → k < length ps → Reached bytes r ps k x
    → y ≡ one_more bytes x (showing (get_or ps k 0)) → Reached bytes r ps (suc k) y
unfolding replayed
reached_next bytes r ps k x y l h e = record {
  most = omega arith;
  is =
      e
      ∙ ap (λ (z : Replayed). one_more bytes z m) h.is
      ∙ sym (opened_more bytes (map showing (take k ps)) m (opening r))
      ∙ ap (λ (ms : List Move). after_opening bytes ms (opening r)) (sym (map_append showing (take k ps) (get_or ps k 0 ∷ [])))
      ∙ ap (λ (qs : List ℕ). after_opening bytes (map showing qs) (opening r)) (sym (take-suc ps k 0 l));
}
  where
    m : Move
    m = showing (get_or ps k 0)

-- no round is left: the list is replayed, and demand 3 holds of it
pub reached_last : (bytes : List ℕ) → ((i : ℕ) → Fits w8 (get_or bytes i 0)) → (r : ℕ) (ps : List ℕ) → ((i : ℕ) → Fits w16 (get_or ps i 0))
    → (k : ℕ) → length ps ≤ k → (x : Replayed) → Reached bytes r ps k x
    → (x ≡ replayed bytes r ps) × (Replays bytes r (map showing ps) x × ((bytes ≡ bytes) × (ps ≡ ps)))
unfolding replayed
reached_last bytes b r ps f k l x h = (is, (subst (Replays bytes r (map showing ps)) (sym is) meets, (refl, refl)))
  where
    is : x ≡ replayed bytes r ps
    is = h.is ∙ ap (replayed bytes r) (take_all k ps l)

    meets : Replays bytes r (map showing ps) (replayed bytes r ps)
    meets = replays bytes (slice_bytes bytes b) r (map showing ps) (every_map (λ p. p < 2 ^ 16) _ showing (λ p h. h) ps (slice_sets ps f))
