-- The atoms of a body, one by one. Assumes nothing.
use mathlib.Core.Path.{◌∙◌, ◌≡◌, ap, refl, subst, sym}
use mathlib.Core.Logic.{inl, inr}
use mathlib.Core.Bool.{◌&&◌, Bool, and_assoc, not, true}
use mathlib.Core.List.{List, [], ◌∷◌}
use Prim.Native.Nat.{◌<◌, ◌^◌, ℕ}
use Rattle.lists.specs.Lists.{OneOf}
use Rattle.validation.proofs.DecideLaws.{decides_and, decides_eq, decides_not, same_decision}
use Rattle.validation.specs.Statements.{Decides}
use Rattle.atoms.specs.Sets.{Member, Subset, atoms_of, bit, disjoint, member, subset}
use Rattle.atoms.proofs.ListedLaws.{listed_iff}
use Rattle.atoms.proofs.SetLaws.{bit_empty, disjoint_true, subset_true, true_disjoint, true_subset}
use Rattle.lane_table.specs.LaneSets.{Both, EachLane, Either, Splat, word}
use Rattle.lane_table.specs.Tables.{Loaded, lane}
use Rattle.lane_table.specs.declared.lane_set.LaneSet.{LaneSet}
use Rattle.lane_table.proofs.BitLaws.{is_out, member_and, member_or}
use Rattle.lane_table.proofs.LaneLaws.{lane_member}

-- ---- S has all of these, and none

abbrev pub all_in : List ℕ → ℕ → Bool
all_in [] S = true
all_in (k ∷ ks) S = member k S && all_in ks S

abbrev pub none_in : List ℕ → ℕ → Bool
none_in [] S = true
none_in (k ∷ ks) S = not (member k S) && none_in ks S

-- P holds of each
abbrev EachOf : List ℕ → (ℕ → Type 0) → Type 0
EachOf ks P = (k : ℕ) → OneOf k ks → P k

each_more : (P : ℕ → Type 0) (j : ℕ) (ks : List ℕ) → P j × EachOf ks P → EachOf (j ∷ ks) P
each_more P j ks (p, f) k (inl e) = subst P (sym e) p
each_more P j ks (p, f) k (inr i) = f k i

all_decides : (ks : List ℕ) (S : ℕ) → Decides (all_in ks S) (EachOf ks (λ k. Member k S))
all_decides [] S = (λ e k x. absurd x, λ f. refl)
all_decides (j ∷ ks) S =
    let both = decides_and (member j S) (all_in ks S) (decides_eq (bit S j) 1) (all_decides ks S) in
    (λ e. each_more (λ k. Member k S) j ks (both.0 e), λ f. both.1 (f j (inl refl), λ k i. f k (inr i)))

none_decides : (ks : List ℕ) (S : ℕ) → Decides (none_in ks S) (EachOf ks (λ k. Member k S → ⊥))
none_decides [] S = (λ e k x. absurd x, λ f. refl)
none_decides (j ∷ ks) S =
    let both = decides_and (not (member j S)) (none_in ks S) (decides_not (member j S) (decides_eq (bit S j) 1)) (none_decides ks S) in
    (λ e. each_more (λ k. Member k S → ⊥) j ks (both.0 e), λ f. both.1 (f j (inl refl), λ k i. f k (inr i)))

module _ (a S : ℕ) (small : a < 2 ^ 64) where
  subset_atoms : subset a S ≡ all_in (atoms_of a) S
  subset_atoms =
      let all = all_decides (atoms_of a) S in
      same_decision {K = Subset a S} _ _ (subset_true a S, true_subset a S)
      (λ e k m. all.0 e k ((listed_iff a k small).1 m), λ f. all.1 (λ k i. f k ((listed_iff a k small).0 i)))

  disjoint_atoms : disjoint a S ≡ none_in (atoms_of a) S
  disjoint_atoms =
      let none = none_decides (atoms_of a) S in
      same_decision {K = (k : ℕ) → Member k a → Member k S → ⊥} _ _ (disjoint_true a S, true_disjoint a S)
      (λ e k m. none.0 e k ((listed_iff a k small).1 m), λ f. none.1 (λ k i. f k ((listed_iff a k small).0 i)))

module _ (table : List ℕ) where
  -- the atoms of the body that are left, ks, say the rest
  pub record Held (atoms : ℕ) (among : LaneSet) (ks : List ℕ) (held : LaneSet) : Type 0 where
    pub each : EachLane (λ t i. (member i (word held t) && all_in ks (lane table t i)) ≡ (member i (word among t) && subset atoms (lane table t i)))

  pub record Hit (atoms : ℕ) (ks : List ℕ) (hit : LaneSet) : Type 0 where
    pub each : EachLane (λ t i. (not (member i (word hit t)) && none_in ks (lane table t i)) ≡ disjoint atoms (lane table t i))

  -- at first all are left
  pub held_first : (atoms : ℕ) (among : LaneSet) (left : ℕ) → atoms < 2 ^ 64 → left ≡ atoms → Held atoms among (atoms_of left) among
  held_first atoms among left small e = subst (λ (x : ℕ). Held atoms among (atoms_of x) among) (sym e) (record {
    each = λ t i l n. ap (λ (b : Bool). member i (word among t) && b) (sym (subset_atoms atoms (lane table t i) small));
  })

  pub hit_first : (atoms left : ℕ) (hit : LaneSet) → atoms < 2 ^ 64 → left ≡ atoms → Splat 0 hit → Hit atoms (atoms_of left) hit
  hit_first atoms left hit small e s = subst (λ (x : ℕ). Hit atoms (atoms_of x) hit) (sym e) (record {
    each = λ t i l n.
        let out = is_out (word hit t) i (ap (λ (x : ℕ). bit x i) (s.each t) ∙ bit_empty i) in
        ap (λ (b : Bool). not b && none_in (atoms_of atoms) (lane table t i)) out ∙ sym (disjoint_atoms atoms (lane table t i) small);
  })

  module _ (atoms k : ℕ) (left ks : List ℕ) (row : LaneSet) (first : left ≡ k ∷ ks) (fits : k < 64) (loaded : Loaded table k row) where
    row_is : (t i : ℕ) → t < 4 → member i (word row t) ≡ member k (lane table t i)
    row_is t i l = ap (λ (x : ℕ). member i x) (loaded.each t l) ∙ sym (lane_member table t i k fits)

    pub held_next : (among held after : LaneSet) → Both held row after → Held atoms among left held → Held atoms among ks after
    held_next among held after meets h = record {
      each = λ t i l n.
          let S = lane table t i in
          let x = member i (word held t) in
          let e : member i (word after t) ≡ (x && member k S)
          = ap (λ (y : ℕ). member i y) (meets.each t) ∙ member_and (word held t) (word row t) i ∙ ap (λ (b : Bool). x && b) (row_is t i l) in
          ap (λ (b : Bool). b && all_in ks S) e ∙ and_assoc x (member k S) (all_in ks S) ∙ sym (ap (λ (js : List ℕ). x && all_in js S) first) ∙ h.each t i l n;
    }

    pub hit_next : (hit after : LaneSet) → Either hit row after → Hit atoms left hit → Hit atoms ks after
    hit_next hit after joins h = record {
      each = λ t i l n.
          let S = lane table t i in
          let x = not (member i (word hit t)) in
          let e : not (member i (word after t)) ≡ (x && not (member k S))
          = ap (λ (y : ℕ). not (member i y)) (joins.each t) ∙ member_or (word hit t) (word row t) i ∙ ap (λ (b : Bool). x && not b) (row_is t i l) in
          ap (λ (b : Bool). b && none_in ks S) e ∙ and_assoc x (not (member k S)) (none_in ks S) ∙ sym (ap (λ (js : List ℕ). x && none_in js S) first) ∙ h.each t i l n;
    }
