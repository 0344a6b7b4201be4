-- What a block gives. Assumes nothing.
use mathlib.Core.Path.{◌∙◌, ◌≡◌, ap, ap₂, refl, sym}
use mathlib.Core.Bool.{◌&&◌, Bool, not}
use mathlib.Core.List.{[], ◌∷◌, List}
use lib.ListN.{get_or}
use Prim.Native.Nat.{◌%◌, ◌*◌, ◌+◌, ◌/◌, ◌<◌, ◌≤◌, suc, zero, ℕ}
use native.Mathlib.Omega.{arith}
use Rattle.atoms.specs.Sets.{member}
use Rattle.rules.specs.Unlocking.{grants}
use Rattle.arrays.specs.Arrays.{evaluated}
use Rattle.preference.specs.Candidates.{switched}
use Rattle.lane_table.specs.LaneSets.{Both, Complement, word}
use Rattle.lane_table.specs.Tables.{Loaded, lane}
use Rattle.lane_table.specs.declared.lane_set.LaneSet.{LaneSet}
use Rattle.lane_table.proofs.BitLaws.{member_and, member_others}
use Rattle.lane_table.proofs.LaneLaws.{lane_member}
use Rattle.lanes.specs.Blocks.{Unlocking}
use Rattle.lanes.specs.Candidates.{Switched, Uniform, number}
use Rattle.lanes.specs.Levels.{Evaluated}

-- the request is in the set and 63 is not
granted : (table : List ℕ) (request : ℕ) (wanted breached rest r : LaneSet) → request ≤ 63 → Loaded table request wanted → Loaded table 63 breached
    → Complement breached rest → Both wanted rest r → (t i : ℕ) → t < 4 → i < 64 → member i (word r t) ≡ grants request (lane table t i)
granted table request wanted breached rest r small want breach complement both t i l n =
    ap (λ (x : ℕ). member i x) (both.each t)
    ∙ member_and (word wanted t) (word rest t) i
    ∙ ap₂ (λ (x y : Bool). x && y) first second
  where
    first : member i (word wanted t) ≡ member request (lane table t i)
    first = ap (λ (x : ℕ). member i x) (want.each t l) ∙ sym (lane_member table t i request (omega arith))

    second : member i (word rest t) ≡ not (member 63 (lane table t i))
    second =
        ap (λ (x : ℕ). member i x) (complement.each t)
        ∙ member_others (word breached t) i (complement.small t) n
        ∙ ap (λ (x : ℕ). not (member i x)) (breach.each t l) ∙ ap not (sym (lane_member table t i 63 (omega arith)))

-- the four words in an array
abbrev words : LaneSet → List ℕ
words q = q.a ∷ q.b ∷ q.c ∷ q.d ∷ []

words_at : (q : LaneSet) (t : ℕ) → t < 4 → get_or (words q) t 0 ≡ word q t
words_at q zero l = refl
words_at q (suc zero) l = refl
words_at q (suc (suc zero)) l = refl
words_at q (suc (suc (suc zero))) l = refl
words_at q (suc (suc (suc (suc t)))) l = absurd (omega arith)

pub unlocking : (levels : ℕ) (heads positive negated starts : List ℕ) (request base : ℕ) (members : List ℕ) (count b : ℕ) (filled candidates table : List ℕ)
    (wanted breached rest r : LaneSet) → request ≤ 63 → Uniform base filled → Switched members count b filled candidates
    → Evaluated levels heads positive negated starts candidates table → Loaded table request wanted → Loaded table 63 breached
    → Complement breached rest → Both wanted rest r → Unlocking levels heads positive negated starts request base members count b (words r)
unlocking levels heads positive negated starts request base members count b filled candidates table wanted breached rest r small fill switch evaluate want breach
    complement both =
    record { each = each }
  where
    each : (i : ℕ) → i < 256
        → member (i % 64) (get_or (words r) (i / 64) 0) ≡ grants request (evaluated levels heads positive negated starts (switched base members count (256 * b + i)))
    each i l =
        let t = i / 64 in
        let k = i % 64 in
        let a : t < 4 = omega arith in
        let c : k < 64 = omega arith in
        let n : number b (i / 64) (i % 64) ≡ 256 * b + i = omega arith in
        ap (member k) (words_at r t a)
        ∙ granted table request wanted breached rest r small want breach complement both t k a c
        ∙ ap (grants request)
        (evaluate.each t k a c
        ∙ ap (evaluated levels heads positive negated starts)
        (switch.each base t k a c (fill t k a c) ∙ ap (switched base members count) n))
