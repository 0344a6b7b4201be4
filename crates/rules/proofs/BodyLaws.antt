-- Which rules apply: one with an atom on both sides never, one with an empty body always. Assumes nothing.
use mathlib.Core.Path.{◌≡◌, subst, sym}
use mathlib.Core.Logic.{◌↔◌, ◌⊎◌, inl, inr}
use mathlib.Core.List.{List, [], ◌++◌, ◌∷◌}
use Prim.Native.Nat.{ℕ}
use Rattle.lists.proofs.ListLaws.{every_imp}
use Rattle.lists.specs.Lists.{Every, OneOf}
use Rattle.atoms.specs.Sets.{Member, Subset, empty, intersection}
use Rattle.atoms.proofs.SetLaws.{empty_subset, intersection_iff, none_in_empty}
use Rattle.rules.specs.Rules.{Rule}
use Rattle.rules.specs.Stable.{Stable, Unstruck}
use Rattle.rules.specs.Theorems.{BodyHolds, ClosedBeside}
use Rattle.rules.proofs.MeaningLaws.{stable_means}
use Rattle.rules.proofs.ReductLaws.{Respects, reduct_every}

-- ---- one rule more or less

pub one_more : (qs rs : List Rule) (r t : Rule) → OneOf t (qs ++ rs) → OneOf t (qs ++ (r ∷ rs))
one_more [] rs r t i = inr i
one_more (q ∷ qs) rs r t (inl e) = inl e
one_more (q ∷ qs) rs r t (inr i) = inr (one_more qs rs r t i)

one_less : (qs rs : List Rule) (r t : Rule) → OneOf t (qs ++ (r ∷ rs)) → (t ≡ r) ⊎ OneOf t (qs ++ rs)
one_less [] rs r t i = i
one_less (q ∷ qs) rs r t (inl e) = inr (inl e)
one_less (q ∷ qs) rs r t (inr i) = go (one_less qs rs r t i)
  where
    go : (t ≡ r) ⊎ OneOf t (qs ++ rs) → (t ≡ r) ⊎ ((t ≡ q) ⊎ OneOf t (qs ++ rs))
    go (inl e) = inl e
    go (inr j) = inr (inr j)

-- what two closed sets share is closed
shared : (rs : List Rule) (C M X Y : ℕ) → ClosedBeside rs C M X → ClosedBeside rs C M Y → ClosedBeside rs C M (intersection X Y)
shared rs C M X Y c d = record {
  holds = λ j m. (intersection_iff X Y j).1 (c.holds j m, d.holds j m);
  heads = λ r i p u. (intersection_iff X Y r.head).1 (
    c.heads r i (λ j m. ((intersection_iff X Y j).0 (p j m)).0) u,
    d.heads r i (λ j m. ((intersection_iff X Y j).0 (p j m)).1) u,
  );
}

-- ---- an atom on both sides

module _ (qs rs : List Rule) (r : Rule) (k : ℕ) (p : Member k r.positive) (n : Member k r.negated) (C M : ℕ) where
  without : (X : ℕ) → ClosedBeside (qs ++ (r ∷ rs)) C M X → ClosedBeside (qs ++ rs) C M X
  without X c = record { holds = c.holds; heads = λ t i. c.heads t (one_more qs rs r t i) }

  -- if what lies within M has all of the positive part, M has an atom that strikes the rule
  within : (X : ℕ) → Subset X M → ClosedBeside (qs ++ rs) C M X → ClosedBeside (qs ++ (r ∷ rs)) C M X
  within X s c = record { holds = c.holds; heads = λ t i. go t (one_less qs rs r t i) }
    where
      go : (t : Rule) → (t ≡ r) ⊎ OneOf t (qs ++ rs) → Subset t.positive X → Unstruck M t → Member t.head X
      go t (inl e) =
          subst (λ (t : Rule). Subset t.positive X → Unstruck M t → Member t.head X) (sym e) (λ h u. absurd (u k n (s k (h k p))))
      go t (inr i) = c.heads t i

  -- the least closed set with the rule lies within each closed set X without it: it lies within what it shares with X
  pub never_applies : Stable (qs ++ (r ∷ rs)) C M ↔ Stable (qs ++ rs) C M
  never_applies = (
    λ s.
        let h = (stable_means (qs ++ (r ∷ rs)) C M).0 s in
        let c = without M h.0 in
        (stable_means (qs ++ rs) C M).1 (
          c,
          λ X d j m.
              ((intersection_iff X M j).0
              (h.1 (intersection X M) (within (intersection X M) (λ i x. ((intersection_iff X M i).0 x).1) (shared (qs ++ rs) C M X M d c)) j m)).0,
        ),
    λ s.
        let h = (stable_means (qs ++ rs) C M).0 s in
        (stable_means (qs ++ (r ∷ rs)) C M).1 (within M (λ j m. m) h.0, λ X d. h.1 X (without X d)),
  )

-- ---- bodies that hold

pub two_sided : (r : Rule) (k : ℕ) → Member k r.positive → Member k r.negated → (M : ℕ) → BodyHolds M r → ⊥
two_sided r k p n M b = b.negated k n (b.positive k p)

pub stable_applied : (rs : List Rule) (C M : ℕ) → Stable rs C M → Every (λ r. BodyHolds M r → Member r.head M) rs
stable_applied rs C M s =
    every_imp _ (λ r. BodyHolds M r → Member r.head M) (λ r h b. h b.negated b.positive) rs
    ((reduct_every M rs (Respects M)).0 s.one.respects)

pub empty_body : (r : Rule) → r.positive ≡ empty → r.negated ≡ empty → (M : ℕ) → BodyHolds M r
empty_body r p n M = record {
  positive = subst (λ (s : ℕ). Subset s M) (sym p) (empty_subset M);
  negated = λ k m _. none_in_empty k (subst (λ (s : ℕ). Member k s) n m);
}
