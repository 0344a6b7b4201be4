-- Passes until one is idle, for all lanes at once. Assumes nothing.
use mathlib.Core.Path.{◌∙◌, ◌≡◌, ap, ap₂, subst, sym}
use mathlib.Core.Logic.{◌≢◌}
use mathlib.Core.List.{List}
use Prim.Native.Nat.{◌%◌, ◌*◌, ◌+◌, ◌-◌, ◌/◌, ◌<◌, ◌≤◌, ℕ}
use lib.ListN.{get_or}
use native.Mathlib.Omega.{arith}
use Rattle.atoms.specs.Sets.{Member, bit, disjoint, member}
use Rattle.rules.specs.LevelByLevel.{pass_over, settle}
use Rattle.rules.specs.Rules.{Rule}
use Rattle.iteration.specs.IdlePasses.{heads_of}
use Rattle.iteration.proofs.LoopLaws.{Running, running_few, running_first, running_last, running_next}
use Rattle.iteration.proofs.RuleLaws.{closed_passes, closed_same, closed_settle, heads_atoms, over_adding}
use Rattle.arrays.specs.Arrays.{rules_in}
use Rattle.lane_table.specs.LaneSets.{EachLane}
use Rattle.lane_table.specs.Tables.{Added, lane}
use Rattle.lane_fixpoint.specs.Closure.{LanesClosedIn, LevelClosed, Reduced, lane_at, lane_pass_count}
use Rattle.lane_fixpoint.specs.Passes.{Covers, Passed, Says, Stale}
use Rattle.lane_fixpoint.specs.declared.passes.Progress.{Progress}

-- the set of lane (t, i) is one of the 256 sets side by side
pub lane_at_lem : (table : List ℕ) (t i : ℕ) → i < 64 → lane_at table (64 * t + i) ≡ lane table t i
lane_at_lem table t i l =
    let word_is : (64 * t + i) / 64 ≡ t = omega (arith, l) in
    let lane_is : (64 * t + i) % 64 ≡ i = omega (arith, l) in
    ap₂ (lane table) word_is lane_is

-- what holds of each lane holds of each set
pub each_at : (P : ℕ → ℕ → Type 0) → EachLane P → (j : ℕ) → j < 256 → P (j / 64) (j % 64)
each_at P h j l = h (j / 64) (j % 64) (omega (arith, l)) (omega arith)

-- where a lane has gained an atom, not all sets are as they were
not_same : (before after : List ℕ) → Added before after → ((j : ℕ) → j < 256 → lane_at after j ≡ lane_at before j) → ⊥
not_same before after a same =
    let e : lane after a.t a.i ≡ lane before a.t a.i
    = sym (lane_at_lem after a.t a.i a.in_lane) ∙ same (64 * a.t + a.i) (omega (arith, a.in_word, a.in_lane))
    ∙ lane_at_lem before a.t a.i a.in_lane in
    let gained : bit (lane before a.t a.i) a.atom ≡ 1 = subst (Member a.atom) e a.gained in
    omega (arith, gained, a.lacked)

-- ---- one level: n passes have been made, and none was idle
module _ (heads positive negated : List ℕ) (from n : ℕ) where
  abbrev rules : List Rule
  rules = rules_in heads positive negated from n

  abbrev pass_from : List ℕ → ℕ → ℕ → ℕ
  pass_from first j = pass_over (lane_at first j) rules

  pub record Closing (first table : List ℕ) (passes : ℕ) : Type 0 where
    pub says : EachLane (λ t i. Says negated table from n t i (lane first t i))
    pub running : Running 256 (pass_from first) (lane_at first) (lane_at table) passes

  -- and which rules the next pass may pass over
  pub record Progressing (to : ℕ) (first table : List ℕ) (progress : Progress) (initial passes : ℕ) : Type 0 where
    pub closing : Closing first table passes
    pub covers : Covers progress.possible table
    pub stale : Stale heads positive from to progress.added initial table

  -- no more than 64 passes add something
  pub closing_few : (first table : List ℕ) (passes : ℕ) → Closing first table passes → passes ≤ 64
  closing_few first table passes c =
      running_few 256 (pass_from first) (lane_at first) (heads_of rules) (heads_atoms rules) (λ j _. over_adding (lane_at first j) rules) (lane_at table) passes
      c.running

  -- one more pass for all lanes is one more for each
  module _ (first table after : List ℕ) (progress : Progress) (passes : ℕ) (c : Closing first table passes)
      (p : Passed heads positive from n table after progress) where
    next : (j : ℕ) → j < 256 → lane_at after j ≡ pass_from first j (lane_at table j)
    next =
        each_at (λ t i. lane after t i ≡ pass_over (lane first t i) rules (lane table t i))
        (λ t i l m. p.each negated (lane first t i) t i l m (c.says t i l m))

    pub closing_next : progress.added ≢ 0 → Closing first after (passes + 1)
    closing_next adds = record {
      says = λ t i l m k a b. ap (λ (x : ℕ). member i x) (p.kept t k l) ∙ c.says t i l m k a b;
      running =
          running_next 256 (pass_from first) (lane_at first) (lane_at table) (lane_at after) passes c.running next (not_same table after (p.adds adds));
    }

    -- the last pass is idle
    pub closing_idle : progress.added ≡ 0 → LanesClosedIn rules first after (passes + 1)
    closing_idle idle =
        running_last 256 (pass_from first) (lane_at first) (heads_of rules) (heads_atoms rules) (λ j _. over_adding (lane_at first j) rules)
        (lane_at table) (lane_at after) passes c.running next (each_at (λ t i. lane after t i ≡ lane table t i) (p.idle idle))

-- the rules of a pass are those up to `to`
pub stale_to : (heads positive : List ℕ) (from to delta initial : ℕ) (table : List ℕ) → from ≤ to
    → Stale heads positive from (from + (to - from)) delta initial table
    → Stale heads positive from to delta initial table
stale_to heads positive from to delta initial table low s = record { each = λ k a b. s.each k a (omega arith) }

-- at first every rule is to be looked at
pub stale_none : (heads positive : List ℕ) (from to delta : ℕ) (table : List ℕ) → Stale heads positive from to delta 1 table
stale_none heads positive from to delta table = record { each = λ k a b z. absurd (omega arith) }

-- what is negated is read of the sets as they were
module _ (heads positive negated : List ℕ) (from to : ℕ) (before first : List ℕ) (low : from ≤ to) (u : Reduced negated from to before first) where
  pub closing_first : Closing heads positive negated from (to - from) first first 0
  closing_first = record {
    says = λ t i l n k a b. u.says t i l n k a (omega arith) ∙ ap (disjoint (get_or negated k 0)) (sym (u.same t i l n));
    running = running_first 256 _ (lane_at first);
  }

  abbrev level : List Rule
  level = rules_in heads positive negated from (to - from)

  module _ (after : List ℕ) (passes : ℕ) (c : LanesClosedIn level first after passes) where
    -- the sets before the first pass are those before the reduct
    pub lanes_closed : LanesClosedIn level before after passes
    lanes_closed =
        closed_same 256 level (lane_at first) (lane_at before) (heads_of level) (lane_at after) passes
        (each_at (λ t i. lane first t i ≡ lane before t i) u.same) c

    pub lanes_passes : passes ≡ lane_pass_count level before
    unfolding lane_pass_count
    lanes_passes = closed_passes 256 level (lane_at before) (lane_at after) passes lanes_closed

    pub level_closed : (possible : ℕ) → Covers possible after → LevelClosed heads positive negated from (to - from) before after possible
    level_closed possible covers = record {
      covers = covers;
      each = λ t i l n.
          sym (lane_at_lem after t i n)
          ∙ closed_settle 256 level (lane_at before) (heads_of level) (lane_at after) passes lanes_closed (64 * t + i) (omega (arith, l, n))
          ∙ ap (settle level) (lane_at_lem before t i n);
    }

-- what the last pass, which is idle, leaves: the sets of each lane, and the count
module _ (heads positive negated : List ℕ) (from to : ℕ) (before first table after : List ℕ) (progress : Progress) (passes : ℕ) (low : from ≤ to)
    (u : Reduced negated from to before first) (c : Closing heads positive negated from (to - from) first table passes)
    (p : Passed heads positive from (to - from) table after progress) (idle : progress.added ≡ 0) where
  closed : LanesClosedIn (rules_in heads positive negated from (to - from)) first after (passes + 1)
  closed = closing_idle heads positive negated from (to - from) first table after progress passes c p idle

  level_is : LevelClosed heads positive negated from (to - from) before after progress.possible
  level_is = level_closed heads positive negated from to before first low u after (passes + 1) closed progress.possible p.covers

  pub idle_each : (t i : ℕ) → t < 4 → i < 64 → lane after t i ≡ settle (rules_in heads positive negated from (to - from)) (lane before t i)
  idle_each = level_is.each

  pub idle_passes : passes + 1 ≡ lane_pass_count (rules_in heads positive negated from (to - from)) before
  idle_passes = lanes_passes heads positive negated from to before first low u after (passes + 1) closed
