-- One pass for all lanes at once is a pass for each. Assumes nothing.
use mathlib.Core.Path.{◌∙◌, ◌≡◌, ap, refl, subst, sym}
use mathlib.Core.Logic.{◌≢◌, inl, inr}
use mathlib.Core.Bool.{◌&&◌, Bool, cond}
use mathlib.Core.List.{List}
use Prim.Native.Nat.{◌+◌, ◌-◌, ◌<◌, ◌≤◌, ℕ}
use lib.Bits.{bit_and, bit_or}
use lib.ListN.{get_or}
use native.Mathlib.Decide.{ℕ_discrete}
use native.Mathlib.Omega.{arith}
use Rattle.atoms.specs.Sets.{Member, Subset, disjoint, member, subset, union}
use Rattle.atoms.proofs.SetLaws.{inhabited, none_in_empty, none_is_empty, not_in, union_least, union_left, union_right}
use Rattle.rules.specs.LevelByLevel.{pass_over}
use Rattle.arrays.specs.Arrays.{OneAtom, rules_in}
use Rattle.arrays.proofs.ArrayLaws.{pass_done_at, pass_next_at}
use Rattle.arrays.proofs.HeadLaws.{one_some}
use Rattle.lane_table.specs.LaneSets.{EachLane}
use Rattle.lane_table.specs.Tables.{Added, Kept, Same, cell, lane}
use Rattle.lane_fixpoint.specs.Passes.{Covers, Moved, Passed, Satisfied, Says, Stale, Stepped}
use Rattle.lane_fixpoint.specs.declared.passes.Progress.{Progress}
use Rattle.lane_fixpoint.proofs.ReduceLaws.{below}
use Rattle.lane_fixpoint.proofs.SatisfiedLaws.{Grows, apart_less, satisfied_own, satisfied_still, step_grows}

-- the rules from place k on are left
module _ (heads positive : List ℕ) (from to delta initial : ℕ) where
  abbrev Rests : List ℕ → ℕ → Type 0
  Rests table j = Satisfied j (get_or heads j 0) (get_or positive j 0) table

  pub record Passing (before table : List ℕ) (progress : Progress) (k : ℕ) : Type 0 where
    pub kept : Kept before table
    pub covers : Covers progress.possible table
    -- of the rules before place k those rest whose bodies have nothing added; of the others, those whose bodies have nothing of delta either
    pub done : (j : ℕ) → from ≤ j → j < k → bit_and (get_or positive j 0) progress.added ≡ 0 → Rests table j
    pub left : (j : ℕ) → k ≤ j → j < to → initial ≡ 0 → bit_and (get_or positive j 0) (bit_or delta progress.added) ≡ 0 → Rests table j
    pub grows : Grows before table
    pub idle : progress.added ≡ 0 → Same before table
    pub adds : progress.added ≢ 0 → Added before table
    pub each : (negated : List ℕ) (B : ℕ) → EachLane (λ t i. Says negated before from (to - from) t i B
        → pass_over B (rules_in heads positive negated k (to - k)) (lane table t i)
        ≡ pass_over B (rules_in heads positive negated from (to - from)) (lane before t i))

  pub passing_first : (possible : ℕ) (table : List ℕ) → Covers possible table → Stale heads positive from to delta initial table
      → Passing table table (record { possible = possible; added = 0 }) from
  passing_first possible table c s = record {
    kept = λ t k l. refl;
    covers = c;
    done = λ j a b. absurd (omega arith);
    left = λ j a b z e. s.each j a b z (apart_less (get_or positive j 0) delta (bit_or delta 0) (union_left delta 0) e);
    grows = λ t i l n k m. m;
    idle = λ e t i l n. refl;
    adds = λ ne. absurd (ne refl);
    each = λ negated B t i l n says. refl;
  }

  pub passing_next : (before table after : List ℕ) (s r : Progress) (k : ℕ) → from ≤ k → k < to → OneAtom (get_or heads k 0)
      → Passing before table s k → Stepped k (get_or heads k 0) (get_or positive k 0) s r table after → Passing before after r (k + 1)
  passing_next before table after s r k low less one p f = record {
    kept = λ t j l. f.kept t j l ∙ p.kept t j l;
    covers = f.covers;
    done = λ j a b e. done j a b e (ℕ_discrete j k);
    left = λ j a b z e.
        still j (bit_or delta r.added) (union_right delta r.added) e
        (p.left j (omega arith) b z (apart_less (get_or positive j 0) _ (bit_or delta r.added) wider e));
    grows = λ t i l n j m. bigger t i l n j (p.grows t i l n j m);
    idle = λ e t i l n. same e t i l n ∙ p.idle (none_is_empty s.added (λ j m. none_in_empty j (subst (Member j) e (f.grows j m)))) t i l n;
    adds = λ ne. adds ne f.moved;
    each = λ negated B t i l n says.
        let S = lane table t i in
        let test : member i (cell table t (64 + k)) ≡ disjoint (get_or negated k 0) B
        = ap (λ (x : ℕ). member i x) (p.kept t k l) ∙ says k low (omega arith) in
        pass_next_at heads positive negated k to less one B S (lane after t i) _
        (f.each t i l n
        ∙ ap (λ (b : Bool). cond (b && subset (get_or positive k 0) S) (union S (get_or heads k 0)) S) test)
        (p.each negated B t i l n says);
  }
    where
      wider : Subset (bit_or delta s.added) (bit_or delta r.added)
      wider =
          union_least delta s.added (bit_or delta r.added) (union_left delta r.added)
          (λ j m. union_right delta r.added j (f.grows j m))

      still : (j x : ℕ) → Subset r.added x → bit_and (get_or positive j 0) x ≡ 0 → Rests table j → Rests after j
      still j x g e h = satisfied_still k (get_or heads k 0) (get_or positive k 0) s r table after f j (get_or heads j 0) (get_or positive j 0) x g e h

      done : (j : ℕ) → from ≤ j → j < k + 1 → bit_and (get_or positive j 0) r.added ≡ 0 → Dec (j ≡ k) → Rests after j
      done j a b e (yes q) = subst (Rests after) (sym q) (satisfied_own k (get_or heads k 0) (get_or positive k 0) s r table after f)
      done j a b e (no q) =
          still j r.added (λ i m. m) e (p.done j a (below j k b q) (apart_less (get_or positive j 0) s.added r.added f.grows e))

      bigger : Grows table after
      bigger = step_grows k (get_or heads k 0) (get_or positive k 0) s r table after f

      -- what was added stays, and what is added now was not there before
      adds : r.added ≢ 0 → Moved (get_or heads k 0) s r table after → Added before after
      adds ne (inl (_, e)) =
          let a = p.adds (λ z. ne (e ∙ z)) in record {
            t = a.t;
            i = a.i;
            atom = a.atom;
            in_word = a.in_word;
            in_lane = a.in_lane;
            lacked = a.lacked;
            gained = bigger a.t a.i a.in_word a.in_lane a.atom a.gained;
          }
      adds ne (inr (a, _)) = record {
        t = a.t;
        i = a.i;
        atom = a.atom;
        in_word = a.in_word;
        in_lane = a.in_lane;
        lacked = not_in (lane before a.t a.i) a.atom (λ m. out a (p.grows a.t a.i a.in_word a.in_lane a.atom m));
        gained = a.gained;
      }
        where
          out : (a : Added table after) → Member a.atom (lane table a.t a.i) → ⊥
          out a m = omega (arith, m, a.lacked)

      same : r.added ≡ 0 → Same table after
      same e = go f.moved
        where
          go : Moved (get_or heads k 0) s r table after → Same table after
          go (inl (h, _)) = h
          go (inr (_, h)) =
              let some : get_or heads k 0 ≢ 0 = λ z. omega (arith, one_some (get_or heads k 0) one) in
              let a = inhabited (get_or heads k 0) some in
              absurd (none_in_empty a.0 (subst (Member a.0) e (h a.0 a.1)))

  pub passing_done : (before table : List ℕ) (progress : Progress) (k : ℕ) → to ≤ k → Passing before table progress k
      → Passed heads positive from (to - from) before table progress
  passing_done before table progress k over p = record {
    kept = p.kept;
    covers = p.covers;
    stale = record { each = λ j a b z e. p.done j a (omega arith) e };
    idle = p.idle;
    adds = p.adds;
    each = λ negated B t i l n says. pass_done_at heads positive negated k to over B (lane table t i) _ (p.each negated B t i l n says);
  }
