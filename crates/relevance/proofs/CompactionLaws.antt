-- The rules that are left, each at its place: what the loop that moves them needs. Assumes nothing.
use mathlib.Core.Path.{◌∙◌, ◌≡◌, ap, ap₂, refl, subst, sym}
use mathlib.Core.Logic.{◌≢◌}
use mathlib.Core.Bool.{Bool, cond, false, true}
use mathlib.Core.List.{List, ◌∷◌}
use Prim.Native.Nat.{◌+◌, ◌-◌, ◌<◌, ◌≤◌, suc, zero, ℕ}
use lib.ListN.{get_or, length, set}
use lib.Seq.{get_or-set_other, get_or-set_same}
use native.Mathlib.Decide.{ℕ_discrete}
use native.Mathlib.Omega.{arith}
use borrow.Author.Tests.{eqb-false}
use Rattle.validation.proofs.TestLaws.{eqb_true}
use Rattle.atoms.specs.Sets.{Member, member}
use Rattle.rules.specs.Rules.{Rule}
use Rattle.arrays.specs.Arrays.{Heads, Ordered, Placed, Room, atom_of, levels_in, rule_at, rules_in}
use Rattle.arrays.proofs.HeadLaws.{room_put}
use Rattle.arrays.proofs.StartLaws.{start_le}
use Rattle.relevance.specs.Places.{KeptIn, StartsMoved, room, room_before}
use Rattle.relevance.specs.Relevance.{kept, kept_levels}
use Rattle.relevance.proofs.PlaceLaws.{before_le, before_lt, before_most, before_next, before_step, room_in, room_most, room_out}

-- the rules at places 0 to k whose heads are in R are in the arrays h, p, n, each at its place
abbrev pub Put : ℕ → List ℕ → List ℕ → List ℕ → List ℕ → List ℕ → List ℕ → ℕ → Type 0
Put R heads positive negated h p n k =
    (i : ℕ) → i < k → Member (atom_of (get_or heads i 0)) R → rule_at h p n (room_before R heads i) ≡ rule_at heads positive negated i

module _ (R : ℕ) (heads positive negated h p n : List ℕ) where
  -- ---- one rule more

  module _ (k place : ℕ) (at : place ≡ room_before R heads k) (a : place < length h) (b : place < length p) (c : place < length n) where
    abbrev H : List ℕ
    H = set h place (get_or heads k 0)

    abbrev P : List ℕ
    P = set p place (get_or positive k 0)

    abbrev N : List ℕ
    N = set n place (get_or negated k 0)

    other : (i : ℕ) → i ≢ place → rule_at H P N i ≡ rule_at h p n i
    other i e = λ j. record {
      head = atom_of (get_or-set_other h place i (get_or heads k 0) 0 e j);
      positive = get_or-set_other p place i (get_or positive k 0) 0 e j;
      negated = get_or-set_other n place i (get_or negated k 0) 0 e j;
    }

    own : rule_at H P N place ≡ rule_at heads positive negated k
    own = λ j. record {
      head = atom_of (get_or-set_same h place (get_or heads k 0) 0 a j);
      positive = get_or-set_same p place (get_or positive k 0) 0 b j;
      negated = get_or-set_same n place (get_or negated k 0) 0 c j;
    }

    pub put_one : Put R heads positive negated h p n k → Put R heads positive negated H P N (k + 1)
    put_one put i l m = go (ℕ_discrete i k)
      where
        go : Dec (i ≡ k) → rule_at H P N (room_before R heads i) ≡ rule_at heads positive negated i
        go (yes e) = ap (λ (x : ℕ). rule_at H P N (room_before R heads x)) e ∙ ap (rule_at H P N) (sym at) ∙ own ∙ ap (rule_at heads positive negated) (sym e)
        go (no d) =
            let below : i < k = omega arith in
            other (room_before R heads i) (λ e. omega (arith, before_lt R heads i k below m)) ∙ put i below m

  -- ---- all of them

  module _ (count : ℕ) (put : Put R heads positive negated h p n count) where
    places : (m a : ℕ) → a + m ≤ count
        → rules_in h p n (room_before R heads a) (room_before R heads (a + m) - room_before R heads a) ≡ kept R (rules_in heads positive negated a m)
    unfolding rules_in kept
    places zero a l =
        let e : a + 0 ≡ a = omega arith in
        let z : room_before R heads (a + 0) - room_before R heads a ≡ 0 = omega (arith, ap (room_before R heads) e) in
        ap (rules_in h p n (room_before R heads a)) z
    places (suc m) a l = go (member (atom_of (get_or heads a 0)) R) refl (places m (suc a) (omega arith))
      where
        e : a + suc m ≡ suc a + m
        e = omega arith

        rest : List Rule
        rest = kept R (rules_in heads positive negated (suc a) m)

        go : (b : Bool) → member (atom_of (get_or heads a 0)) R ≡ b
            → rules_in h p n (room_before R heads (suc a)) (room_before R heads (suc a + m) - room_before R heads (suc a)) ≡ rest
            → rules_in h p n (room_before R heads a) (room_before R heads (a + suc m) - room_before R heads a) ≡ cond b (rule_at heads positive negated a ∷ rest) rest
        go true t ih =
            let i : Member (atom_of (get_or heads a 0)) R = eqb_true _ _ t in
            let f : room_before R heads (suc a) ≡ suc (room_before R heads a) = omega (arith, before_next R heads a, room_in R (get_or heads a 0) i) in
            let g : room_before R heads (a + suc m) - room_before R heads a ≡ suc (room_before R heads (suc a + m) - room_before R heads (suc a))
            = omega (arith, ap (room_before R heads) e, before_le R heads (suc a) (suc a + m) (omega arith)) in
            ap (rules_in h p n (room_before R heads a)) g
            ∙ ap₂ (λ (r : Rule) (rs : List Rule). r ∷ rs) (put a (omega arith) i)
            (ap (λ (x : ℕ). rules_in h p n x (room_before R heads (suc a + m) - room_before R heads (suc a))) (sym f) ∙ ih)
        go false t ih =
            let f : room_before R heads (suc a) ≡ room_before R heads a = omega (arith, before_next R heads a, room_out R (get_or heads a 0) (eqb-false _ _ t)) in
            ap₂ (λ (x y : ℕ). rules_in h p n x (room_before R heads y - x)) (sym f) e ∙ ih

  module _ (levels : ℕ) (starts moved : List ℕ) (s : StartsMoved levels R heads starts moved) where
    -- each level has its rules that are left
    each_level : Ordered levels starts → Put R heads positive negated h p n (get_or starts levels 0)
        → (m l : ℕ) → l + m ≤ levels → levels_in h p n moved l m ≡ kept_levels R (levels_in heads positive negated starts l m)
    unfolding levels_in kept_levels
    each_level o put zero l i = refl
    each_level o put (suc m) l i = ap₂ (λ (x : List Rule) (y : List (List Rule)). x ∷ y) here (each_level o put m (suc l) (omega arith))
      where
        from : ℕ
        from = get_or starts l 0

        to : ℕ
        to = get_or starts (suc l) 0

        here : rules_in h p n (get_or moved l 0) (get_or moved (suc l) 0 - get_or moved l 0) ≡ kept R (rules_in heads positive negated from (to - from))
        here =
            let e : from + (to - from) ≡ to = omega (arith, o.rising l (omega arith)) in
            ap₂ (λ (x y : ℕ). rules_in h p n x (y - x)) (s.begins l (omega arith)) (s.begins (suc l) (omega arith) ∙ ap (room_before R heads) (sym e))
            ∙ places (get_or starts levels 0) put (to - from) from (omega (arith, start_le levels starts o (suc l) levels (omega arith) (omega arith)))

    kept_in : Placed levels heads starts → Heads h → Put R heads positive negated h p n (get_or starts levels 0)
        → KeptIn levels R heads positive negated starts h p n moved
    kept_in o singles put = record {
      placed = record { ordered = ordered; singles = singles };
      rules = each_level o.ordered put levels 0 (omega arith);
    }
      where
        ordered : Ordered levels moved
        ordered = record {
          rising = λ l i.
              let a = s.begins l (omega arith) in
              let b = s.begins (suc l) (omega arith) in
              let c = before_le R heads (get_or starts l 0) (get_or starts (suc l) 0) (o.ordered.rising l i) in
              omega arith;
          fits = omega (arith, s.begins levels (omega arith), before_most R heads (get_or starts levels 0), o.ordered.fits);
        }

-- ---- the loop: the rules before place k are put, and what stands at k goes to `place`

pub record Compacting (levels R : ℕ) (heads positive negated starts h p n moved : List ℕ) (place k : ℕ) : Type 0 where
  pub below : place ≤ k
  pub goes : place ≡ room_before R heads k
  pub wide : Room h p n
  pub begins : StartsMoved levels R heads starts moved
  pub put : Put R heads positive negated h p n k

module _ (levels R : ℕ) (heads positive negated starts h p n moved : List ℕ) (place k : ℕ) (o : Placed levels heads starts)
    (s : Compacting levels R heads positive negated starts h p n moved place k) where
  pub compacting_next : k < get_or starts levels 0 → (x : ℕ) → x ≡ place + room R (get_or heads k 0)
      → Compacting levels R heads positive negated starts (set h place (get_or heads k 0)) (set p place (get_or positive k 0)) (set n place (get_or negated k 0))
      moved x (k + 1)
  compacting_next l x e =
      let w = s.wide in
      let few = o.ordered.fits in
      let less = s.below in
      record {
        below = omega (arith, room_most R (get_or heads k 0));
        goes = before_step R heads k place x s.goes e;
        wide = room_put h p n place (get_or heads k 0) (get_or positive k 0) (get_or negated k 0) (omega arith) (o.singles k (omega arith)) w;
        begins = s.begins;
        put =
            put_one R heads positive negated h p n k place s.goes (omega (arith, w.head_places)) (omega (arith, w.positive_places))
            (omega (arith, w.negated_places)) s.put;
      }

  pub compacting_done : k ≡ get_or starts levels 0 → KeptIn levels R heads positive negated starts h p n moved
  compacting_done e = kept_in R heads positive negated h p n levels starts moved s.begins o s.wide.singles (subst (Put R heads positive negated h p n) e s.put)
