-- The theorems of specs/Theorems. Assumes nothing.
use mathlib.Core.Path.{◌∙◌, ◌≡◌, ap, ap₂, subst, sym}
use mathlib.Core.List.{List}
use Prim.Native.Nat.{◌*◌, ◌+◌, ◌<◌, ◌≤◌, suc, zero, ℕ}
use native.Mathlib.Nat.{lt_of_not-le}
use native.Mathlib.Omega.{arith}
use Rattle.lists.specs.Sums.{sum}
use Rattle.lists.proofs.SumLaws.{sum_blocks, sum_same}
use Rattle.atoms.specs.Sets.{difference, size}
use Rattle.rules.specs.LevelByLevel.{pass_over}
use Rattle.rules.specs.Model.{times}
use Rattle.rules.specs.Rules.{Rule}
use Rattle.rules.proofs.ClosureLaws.{times_out}
use Rattle.iteration.specs.IdlePasses.{Idle, atoms_added, heads_of}
use Rattle.iteration.proofs.CountLaws.{closed_least}
use Rattle.iteration.proofs.IdleLaws.{idle_is, is_idle, none_idle}
use Rattle.iteration.proofs.RuleLaws.{heads_atoms, over_adding}
use Rattle.lane_table.specs.LaneSets.{EachLane}
use Rattle.lane_table.specs.Tables.{lane}
use Rattle.lane_fixpoint.specs.Closure.{LanesClosedIn, lane_at}
use Rattle.lane_fixpoint.specs.Theorems.{EachClosedIn, Theorems}
use Rattle.lane_fixpoint.proofs.CloseLaws.{each_at, lane_at_lem}

at_each : (P : ℕ → ℕ → Type 0) (Q : ℕ → Type 0) → ((j : ℕ) → j < 256 → Q j) → ((t i : ℕ) → i < 64 → Q (64 * t + i) → P t i) → EachLane P
at_each P Q h to t i l m = to t i m (h (64 * t + i) (omega (arith, l, m)))

module _ (rs : List Rule) (before after : List ℕ) where
  abbrev made : ℕ → ℕ → ℕ
  made n x = times n (pass_over x rs) x

  forth : (n : ℕ) → LanesClosedIn rs before after (suc n) → EachClosedIn rs before after n
  forth n c = record {
    made = λ t i l m.
        let low : 64 * t + i < 256 = omega (arith, l, m) in
        sym (lane_at_lem after t i m) ∙ c.made (64 * t + i) low
        ∙ idle_is 256 _ _ n c.idle (64 * t + i) low ∙ ap (made n) (lane_at_lem before t i m);
    idle = λ t i l m.
        let low : 64 * t + i < 256 = omega (arith, l, m) in
        let e = sym (lane_at_lem after t i m) ∙ c.made (64 * t + i) low ∙ ap (made (suc n)) (lane_at_lem before t i m) in
        let same = idle_is 256 _ _ n c.idle (64 * t + i) low in
        let here : made (suc n) (lane before t i) ≡ made n (lane before t i) = subst (λ (x : ℕ). made (suc n) x ≡ made n x) (lane_at_lem before t i m) same in
        ap (pass_over (lane before t i) rs) (e ∙ here) ∙ sym (times_out n (pass_over (lane before t i) rs) (lane before t i)) ∙ sym e;
    busy = λ k l h.
        c.earlier (suc k) (omega (arith, l))
        (is_idle 256 _ _ k (λ j low. each_at (λ t i. made (suc k) (lane before t i) ≡ made k (lane before t i)) h j low));
  }

  abbrev pass : ℕ → ℕ → ℕ
  pass j = pass_over (lane_at before j) rs

  module _ (n : ℕ) (c : EachClosedIn rs before after n) where
    one_more : EachLane (λ t i. lane after t i ≡ made (suc n) (lane before t i))
    one_more t i l m =
        let p = pass_over (lane before t i) rs in
        sym (times_out n p (lane before t i) ∙ ap p (sym (c.made t i l m)) ∙ c.idle t i l m)

    ended : Idle 256 pass (lane_at before) (suc n)
    ended =
        is_idle 256 pass (lane_at before) n
        (each_at (λ t i. made (suc n) (lane before t i) ≡ made n (lane before t i)) (λ t i l m. sym (one_more t i l m) ∙ c.made t i l m))

    least : (k : ℕ) → Idle 256 pass (lane_at before) k → suc n ≤ k
    least zero h = absurd (none_idle 256 pass (lane_at before) h)
    least (suc k) h = lt_of_not-le (λ l. c.busy k (omega (arith, l)) (at_each
        (λ t i. made (suc k) (lane before t i) ≡ made k (lane before t i)) (λ j. made (suc k) (lane_at before j) ≡ made k (lane_at before j))
        (idle_is 256 pass (lane_at before) k h) (λ t i m. subst (λ (x : ℕ). made (suc k) x ≡ made k x) (lane_at_lem before t i m))))

    back : LanesClosedIn rs before after (suc n)
    back =
        (closed_least 256 pass (lane_at before) (heads_of rs) (heads_atoms rs) (λ j _. over_adding (lane_at before j) rs) (lane_at after) (suc n)).1
        (record { idle = ended; least = least }, each_at (λ t i. lane after t i ≡ made (suc n) (lane before t i)) one_more)

-- the atoms added to the 256 sets side by side are those added to the lanes, word by word
gained : (before after : List ℕ)
    → atoms_added 256 (lane_at before) (lane_at after) ≡ sum (λ t. sum (λ i. size (difference (lane after t i) (lane before t i))) 64) 4
gained before after =
    sum_blocks (λ j. size (difference (lane_at after j) (lane_at before j))) 64 4
    ∙ sum_same _ _ 4 (λ t _. sum_same _ _ 64 (λ i l. ap₂ (λ (x y : ℕ). size (difference x y)) (lane_at_lem after t i l) (lane_at_lem before t i l)))

pub theorems : Theorems
theorems = record {
  closed_in = λ rs before after n. (forth rs before after n, back rs before after n);
  no_pass = λ rs before after c. none_idle 256 _ _ c.idle;
  few = λ rs before after n c. omega (arith, c.few, gained before after);
  few_heads = λ rs before after n c. c.few_heads;
}
