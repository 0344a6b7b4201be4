-- Loops through a negation, and nothing else, leave no levels. Assumes nothing.
use mathlib.Core.Path.{◌≡◌, refl, subst, sym}
use mathlib.Core.Logic.{◌↔◌, ◌⊎◌, inl, inr}
use mathlib.Core.Bool.{Bool, false, true}
use mathlib.Core.List.{List}
use Prim.Native.Nat.{◌<◌, ◌≤◌, suc, zero, ℕ}
use borrow.Author.Tests.{eqb-false}
use native.Mathlib.Omega.{arith}
use Rattle.lists.specs.Lists.{Every, OneOf}
use Rattle.lists.proofs.ListLaws.{every_one_of, one_of_every}
use Rattle.atoms.specs.Sets.{Member, bit, empty, single, size, union}
use Rattle.atoms.proofs.SetLaws.{bit_empty, in_or_out, inhabited, member_lowest, member_single, none_in_empty, single_own, union_cases, union_left, union_right}
use Rattle.atoms.proofs.SizeLaws.{size_lt, size_most}
use Rattle.rules.specs.Rules.{Levelled, Rule}
use Rattle.rules.proofs.ClosureLaws.{KeepsHeaded, closure_by-within_headed}
use Rattle.strata.specs.Loops.{DependsIn, NegatedLoop, Uses}
use Rattle.strata.specs.Strata.{Levelable, above, hangs, stratifiable, stratum}
use Rattle.strata.specs.Theorems.{SizedBody}
use Rattle.strata.proofs.StrataLaws.{Meets, exists, hangs_on, none}

-- ---- no levels: a loop, since there are no 65 different atoms

module _ (rs : List Rule) where
  -- atom k depends on more than n atoms, or a loop is found
  record Many (n k : ℕ) : Type 0 where
    atoms : ℕ
    more : n < size atoms
    reached : (h : ℕ) → Member h atoms → (s : ℕ) × DependsIn rs s k h

  abbrev LoopOr : ℕ → ℕ → Type 0
  LoopOr n k = NegatedLoop rs ⊎ Many n k

  -- a step more at the beginning
  stepped : (n a c : ℕ) → Uses rs a c → LoopOr n c → LoopOr n a
  unfolding DependsIn
  stepped n a c u (inl o) = inl o
  stepped n a c u (inr m) = inr (record {
    atoms = m.atoms;
    more = m.more;
    reached = λ h i. let (s, d) = m.reached h i in (suc s, (c, (u, d)));
  })

  -- a rule negates an atom that depends on more than n atoms: its head is one of them, or one more
  module _ (r : Rule) (i : OneOf r rs) (low : r.head ≤ 63) (c : ℕ) (neg : Member c r.negated) where
    uses : Uses rs r.head c
    uses = record { rule = r; listed = i; head = refl; body = inr neg }

    negated_more : (n : ℕ) → LoopOr n c → LoopOr (suc n) r.head
    unfolding DependsIn
    negated_more n (inl o) = inl o
    negated_more n (inr m) = go (in_or_out m.atoms r.head)
      where
        reached : (h : ℕ) → Member h m.atoms ⊎ Member h (single r.head) → (s : ℕ) × DependsIn rs s r.head h
        reached h (inl j) = let (s, d) = m.reached h j in (suc s, (c, (uses, d)))
        reached h (inr j) = (0, sym (member_single r.head h j))

        go : Member r.head m.atoms ⊎ (bit m.atoms r.head ≡ 0) → LoopOr (suc n) r.head
        go (inl j) =
            let (s, d) = m.reached r.head j in
            inl (record { rule = r; listed = i; atom = c; negated = neg; steps = s; back = d })
        go (inr z) =
            let own = union_right m.atoms (single r.head) r.head (single_own r.head low) in
            let grows = size_lt m.atoms (union m.atoms (single r.head)) r.head (omega arith) (union_left m.atoms (single r.head)) own z in
            inr (record {
              atoms = union m.atoms (single r.head);
              more = omega (arith, grows, m.more);
              reached = λ h j. reached h (union_cases m.atoms (single r.head) h j);
            })

  many : (n k : ℕ) → Member k (stratum rs n) → LoopOr n k
  unfolding stratum above DependsIn
  many zero k m =
      let low : k < 64 = (member_lowest 64 k).0 m in
      let one = size_lt 0 (single k) k low (λ h j. absurd (none_in_empty h j)) (single_own k (omega arith)) (bit_empty k) in
      inr (record { atoms = single k; more = omega (arith, one); reached = λ h j. (0, sym (member_single k h j)) })
  many (suc n) k m = closure_by-within_headed (hangs (stratum rs n)) (LoopOr (suc n)) rs empty (λ k m. absurd (none_in_empty k m))
      (one_of_every (KeepsHeaded (hangs (stratum rs n)) (LoopOr (suc n))) rs (λ r i. step (many n) r i)) k m
    where
      step : ((k : ℕ) → Member k (stratum rs n) → LoopOr n k) → (r : Rule) → OneOf r rs → KeepsHeaded (hangs (stratum rs n)) (LoopOr (suc n)) r
      step ih r i l S f e = go (hangs_on (stratum rs n) r S e)
        where
          go : Meets r.negated (stratum rs n) ⊎ Meets r.positive S → LoopOr (suc n) r.head
          go (inl (c, m)) = negated_more r i l c m.0 n (ih c m.1)
          go (inr (c, m)) = stepped (suc n) r.head c (record { rule = r; listed = i; head = refl; body = inl m.0 }) (f c m.1)

  pub found_loop : stratifiable rs ≡ false → NegatedLoop rs
  unfolding stratifiable
  found_loop e = let (k, m) = inhabited (stratum rs 64) (eqb-false _ _ e) in go k (many 64 k m)
    where
      go : (k : ℕ) → LoopOr 64 k → NegatedLoop rs
      go k (inl o) = o
      go k (inr m) = absurd (omega (arith, m.more, size_most m.atoms))

  -- ---- a loop: no levels

  -- what an atom depends on is not above it
  depends_le : (lev : ℕ → ℕ) → Every (Levelled lev) rs → (n a b : ℕ) → DependsIn rs n a b → lev b ≤ lev a
  unfolding DependsIn
  depends_le lev l zero a b e = subst (λ (x : ℕ). lev x ≤ lev a) e (omega arith)
  depends_le lev l (suc n) a b (c, (u, d)) =
      let h = depends_le lev l n c b d in
      subst (λ (x : ℕ). lev b ≤ lev x) u.head (omega (arith, h, step (every_one_of (Levelled lev) rs l u.rule u.listed) u.body))
    where
      step : Levelled lev u.rule → Member c u.rule.positive ⊎ Member c u.rule.negated → lev c ≤ lev u.rule.head
      step k (inl m) = k.positive c m
      step k (inr m) = omega (arith, k.negated c m)

  pub loop_none : NegatedLoop rs → (lev : ℕ → ℕ) → Every (Levelled lev) rs → ⊥
  loop_none o lev l =
      let k = every_one_of (Levelled lev) rs l o.rule o.listed in
      omega (arith, k.negated o.atom o.negated, depends_le lev l o.steps o.atom o.rule.head o.back)

  module _ (sized : Every SizedBody rs) where
    pub loops_iff : ((lev : ℕ → ℕ) → Every (Levelled lev) rs → ⊥) ↔ NegatedLoop rs
    loops_iff = (λ f. found_loop ((none rs sized).1 f), loop_none)

    pub no_loops_iff : Levelable rs ↔ (NegatedLoop rs → ⊥)
    no_loops_iff = (λ l o. loop_none o l.lev l.levels, λ n. go n (stratifiable rs) refl)
      where
        go : (NegatedLoop rs → ⊥) → (b : Bool) → stratifiable rs ≡ b → Levelable rs
        go n true e = (exists rs sized).0 e
        go n false e = absurd (n (found_loop e))
