-- What a comparison of two logs answers, each answer exactly when. Assumes nothing.
use mathlib.Core.Path.{◌≡◌, refl, subst, sym}
use mathlib.Core.Logic.{◌↔◌, ◌⊎◌, inl, inr}
use mathlib.Core.Bool.{Bool, false, true}
use mathlib.Core.List.{List, [], ◌∷◌}
use mathlib.Core.Option.{Option, none, some}
use Prim.Native.Nat.{◌%◌, ◌<◌, ℕ}
use lib.ListN.{get_or, length}
use native.Mathlib.Omega.{arith}
use Rattle.validation.specs.Statements.{AllHold, DecideAll, FirstBroken}
use Rattle.validation.specs.Tests.{first_failed}
use Rattle.validation.specs.Unless.{GivenExactly, given}
use Rattle.validation.proofs.DecideLaws.{decides_eq}
use Rattle.validation.proofs.FirstLaws.{first_none, first_some}
use Rattle.validation.proofs.UnlessLaws.{given_exactly}
use Rattle.logs.specs.Agreement.{Agree}
use Rattle.logs.specs.Comparison.{compared, divergence}
use Rattle.logs.specs.Entries.{Entry, entries_of, entry_at, read_entry, whole_entries}
use Rattle.logs.specs.LogForm.{HasEntry, SoundEntry, SoundLog, UnsoundLog, Whole, all_sound, comparison_tests}
use Rattle.logs.specs.Theorems.{AgreeAt, Agreeing, Compares, DifferAt, EndsAt}
use Rattle.logs.proofs.AgreeLaws.{same}
use Rattle.logs.proofs.DivergenceLaws.{AgreeThere, PartThere, Says, divergence_says, says_divergence}
use Rattle.logs.proofs.EntryLaws.{entries_at, entries_has, entries_length}
use Rattle.logs.proofs.SoundLaws.{decides_records, unsound}

-- ---- the refusals

-- each record is sound
abbrev Sound : List ℕ → Type 0
Sound log = (k : ℕ) → HasEntry log k → SoundEntry (entry_at log k)

abbrev Form : List ℕ → List ℕ → List (Type 0 × ℕ)
Form first second = (Whole first, 10) ∷ (Sound first, 11) ∷ (Whole second, 10) ∷ (Sound second, 11) ∷ []

pub decide_logs : (first second : List ℕ) → DecideAll (comparison_tests first second) (Form first second)
unfolding comparison_tests
decide_logs first second = (
  decides_eq (length first % 8) 0,
  refl,
  (
    decides_records first,
    refl,
    (decides_eq (length second % 8) 0, refl, (decides_records second, refl, tt)),
  ),
)

-- where not every record of a whole log is sound, one is not
unsound_log : (log : List ℕ) → Whole log → (Sound log → ⊥) → UnsoundLog log
unsound_log log w n = go (all_sound (entries_of log)) refl
  where
    go : (b : Bool) → all_sound (entries_of log) ≡ b → UnsoundLog log
    go true e = absurd (n ((decides_records log).0 e))
    go false e = unsound log w e

module _ (first second : List ℕ) where
  ten : FirstBroken (Form first second) 10 ↔ ((Whole first → ⊥) ⊎ (SoundLog first × (Whole second → ⊥)))
  ten = (forth, back)
    where
      forth : FirstBroken (Form first second) 10 → (Whole first → ⊥) ⊎ (SoundLog first × (Whole second → ⊥))
      forth (inl (n, _)) = inl n
      forth (inr (w, inl (_, e))) = absurd (omega arith)
      forth (inr (w, inr (s, inl (n, _)))) = inr (record { whole = w; each = s }, n)
      forth (inr (w, inr (s, inr (_, inl (_, e))))) = absurd (omega arith)
      forth (inr (w, inr (s, inr (_, inr (_, x))))) = absurd x

      back : (Whole first → ⊥) ⊎ (SoundLog first × (Whole second → ⊥)) → FirstBroken (Form first second) 10
      back (inl n) = inl (n, refl)
      back (inr (s, n)) = inr (s.whole, inr (s.each, inl (n, refl)))

  eleven : FirstBroken (Form first second) 11 ↔ (UnsoundLog first ⊎ (SoundLog first × UnsoundLog second))
  eleven = (forth, back)
    where
      forth : FirstBroken (Form first second) 11 → UnsoundLog first ⊎ (SoundLog first × UnsoundLog second)
      forth (inl (_, e)) = absurd (omega arith)
      forth (inr (w, inl (n, _))) = inl (unsound_log first w n)
      forth (inr (w, inr (s, inl (_, e)))) = absurd (omega arith)
      forth (inr (w, inr (s, inr (v, inl (n, _))))) = inr (record { whole = w; each = s }, unsound_log second v n)
      forth (inr (w, inr (s, inr (_, inr (_, x))))) = absurd x

      back : UnsoundLog first ⊎ (SoundLog first × UnsoundLog second) → FirstBroken (Form first second) 11
      back (inl u) = inr (u.whole, inl (λ s. u.broken (s u.place u.there), refl))
      back (inr (s, u)) = inr (s.whole, inr (s.each, inr (u.whole, inl (λ t. u.broken (t u.place u.there), refl))))

  no_other : (n : ℕ) → FirstBroken (Form first second) n → (n ≡ 10) ⊎ (n ≡ 11)
  no_other n (inl (_, e)) = inl e
  no_other n (inr (_, inl (_, e))) = inr e
  no_other n (inr (_, inr (_, inl (_, e)))) = inl e
  no_other n (inr (_, inr (_, inr (_, inl (_, e))))) = inr e
  no_other n (inr (_, inr (_, inr (_, inr (_, x))))) = absurd x

-- ---- where they part, by the records of the two logs

module _ (first second : List ℕ) where
  -- what stands for a record past the end
  past : Entry
  past = read_entry []

  agree_at : (k : ℕ) → HasEntry first k → HasEntry second k
      → Agree (get_or (entries_of first) k past) (get_or (entries_of second) k past) ↔ Agree (entry_at first k) (entry_at second k)
  agree_at k h i =
      let e = entries_at first past k h in
      let f = entries_at second past k i in
      (λ a. rw (e, f) at a, λ a. rw (e, f) a)

  agree_there : (k : ℕ) → AgreeThere past (entries_of first) (entries_of second) k ↔ AgreeAt first second k
  agree_there k = (
    λ (l, (m, a)).
        let h = (entries_has first k).0 l in
        let i = (entries_has second k).0 m in
        record { first_has = h; second_has = i; agrees = (agree_at k h i).0 a },
    λ a. (
      (entries_has first k).1 a.first_has,
      ((entries_has second k).1 a.second_has, (agree_at k a.first_has a.second_has).1 a.agrees),
    ),
  )

  part_there : (k : ℕ) → PartThere past (entries_of first) (entries_of second) k ↔ (DifferAt first second k ⊎ EndsAt first second k)
  part_there k = (forth, back)
    where
      forth : PartThere past (entries_of first) (entries_of second) k → DifferAt first second k ⊎ EndsAt first second k
      forth (inl (l, (m, n))) =
          let h = (entries_has first k).0 l in
          let i = (entries_has second k).0 m in
          inl (record { first_has = h; second_has = i; differs = λ a. n ((agree_at k h i).1 a) })
      forth (inr (inl (l, m))) = inr (inl ((entries_has first k).0 l, λ h. omega (arith, (entries_has second k).1 h)))
      forth (inr (inr (l, m))) = inr (inr (λ h. omega (arith, (entries_has first k).1 h), (entries_has second k).0 m))

      back : DifferAt first second k ⊎ EndsAt first second k → PartThere past (entries_of first) (entries_of second) k
      back (inl d) = inl (
        (entries_has first k).1 d.first_has,
        ((entries_has second k).1 d.second_has, λ a. d.differs ((agree_at k d.first_has d.second_has).0 a)),
      )
      back (inr (inl (h, n))) = inr (inl ((entries_has first k).1 h, omega (arith, entries_length second)))
      back (inr (inr (n, h))) = inr (inr (omega (arith, entries_length first), (entries_has second k).1 h))

  -- agreement: as many whole records, and they agree at each
  pub agreement_where : (divergence (entries_of first) (entries_of second) ≡ none)
      ↔ ((whole_entries first ≡ whole_entries second) × ((k : ℕ) → HasEntry first k → AgreeAt first second k))
  agreement_where = (forth, back)
    where
      forth : divergence (entries_of first) (entries_of second) ≡ none
          → (whole_entries first ≡ whole_entries second) × ((k : ℕ) → HasEntry first k → AgreeAt first second k)
      forth e =
          let (l, h) = subst (Says past (entries_of first) (entries_of second)) e (divergence_says past (entries_of first) (entries_of second)) in
          (omega (arith, entries_length first, entries_length second), λ k i. (agree_there k).0 (h k ((entries_has first k).1 i)))

      back : (whole_entries first ≡ whole_entries second) × ((k : ℕ) → HasEntry first k → AgreeAt first second k)
          → divergence (entries_of first) (entries_of second) ≡ none
      back (l, h) =
          says_divergence past (entries_of first) (entries_of second) none
          (omega (arith, entries_length first, entries_length second), λ k i. (agree_there k).1 (h k ((entries_has first k).0 i)))

  -- the record where they part: they agree at those before it
  pub parts_where : (k : ℕ) → (divergence (entries_of first) (entries_of second) ≡ some k)
      ↔ (((j : ℕ) → j < k → AgreeAt first second j) × (DifferAt first second k ⊎ EndsAt first second k))
  parts_where k = (
    λ e.
        let (h, p) = subst (Says past (entries_of first) (entries_of second)) e (divergence_says past (entries_of first) (entries_of second)) in
        (λ j l. (agree_there j).0 (h j l), (part_there k).0 p),
    λ (h, p). says_divergence past (entries_of first) (entries_of second) (some k) (λ j l. (agree_there j).1 (h j l), (part_there k).1 p),
  )

-- ---- together

module _ (first second : List ℕ) where
  -- the value where all tests pass, and else the refusal
  exactly : GivenExactly (AllHold (Form first second)) (λ (o : Option ℕ). divergence (entries_of first) (entries_of second) ≡ o)
      (FirstBroken (Form first second)) (compared first second)
  unfolding compared
  exactly =
      let d = decide_logs first second in
      given_exactly _ _ _ (divergence (entries_of first) (entries_of second)) (first_failed (comparison_tests first second))
      (first_none (comparison_tests first second) (Form first second) d) (first_some (comparison_tests first second) (Form first second) d) (λ h. refl)
      (λ h o e. sym e)

  pub compared_given : (o : Option ℕ) → compared first second ≡ given o → divergence (entries_of first) (entries_of second) ≡ o
  compared_given o e = ((exactly.values o).0 e).1

  pub compares : Compares first second (compared first second)
  compares = record {
    agreement = (agreeing, λ a. (exactly.values none).1 (all a.first_sound a.second_sound, agreed a));
    parts = λ k. (
      λ e.
          let (h, d) = (exactly.values (some k)).0 e in
          let (before, there) = (parts_where first second k).0 d in
          record { first_sound = first_sound h; second_sound = second_sound h; before = before; there = there },
      λ p. (exactly.values (some k)).1 (all p.first_sound p.second_sound, (parts_where first second k).1 (p.before, p.there)),
    );
    ten = (λ e. (ten first second).0 ((exactly.refusals 10).0 e), λ h. (exactly.refusals 10).1 ((ten first second).1 h));
    eleven = (λ e. (eleven first second).0 ((exactly.refusals 11).0 e), λ h. (exactly.refusals 11).1 ((eleven first second).1 h));
    only = λ n e. no_other first second n ((exactly.refusals n).0 e);
  }
    where
      first_sound : AllHold (Form first second) → SoundLog first
      first_sound h = record { whole = h.0; each = h.1.0 }

      second_sound : AllHold (Form first second) → SoundLog second
      second_sound h = record { whole = h.1.1.0; each = h.1.1.1.0 }

      all : SoundLog first → SoundLog second → AllHold (Form first second)
      all s t = (s.whole, (s.each, (t.whole, (t.each, tt))))

      agreeing : compared first second ≡ given none → Agreeing first second
      agreeing e =
          let (h, d) = (exactly.values none).0 e in
          let (l, each) = (agreement_where first second).0 d in
          record {
            first_sound = first_sound h;
            second_sound = second_sound h;
            as_long = omega (arith, h.0, h.1.1.0);
            each = λ k i. (each k i).agrees;
          }

      agreed : Agreeing first second → divergence (entries_of first) (entries_of second) ≡ none
      agreed a =
          let long = a.as_long in
          (agreement_where first second).1
          (omega arith, λ k h. record { first_has = h; second_has = omega arith; agrees = a.each k h })

pub compared_same : (a : List ℕ) → SoundLog a → compared a a ≡ given none
compared_same a s =
    (compares a a).agreement.1 (record { first_sound = s; second_sound = s; as_long = refl; each = λ k h. same (entry_at a k) })
