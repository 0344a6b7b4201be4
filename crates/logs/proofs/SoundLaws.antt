-- Logs that are not refused: the tests and what they say, record by record. Assumes nothing.
use mathlib.Core.Path.{◌∙◌, ◌≡◌, refl, subst, sym}
use mathlib.Core.Logic.{◌↔◌, ◌≢◌, ◌⊎◌, inl, inr}
use mathlib.Core.Bool.{Bool, ◌&&◌, cond, false, true, true≢false}
use mathlib.Core.List.{List, [], ◌∷◌, flat_map}
use Prim.Native.Nat.{◌*◌, ◌/◌, ◌<◌, suc, zero, ℕ}
use lib.Dec.{eqb}
use lib.ListN.{get_or, length}
use borrow.Author.Tests.{eqb-false, eqb-true}
use native.Mathlib.Nat.{le_of_suc-le-suc, not-suc-le-zero}
use native.Mathlib.Omega.{arith}
use Rattle.lists.specs.Lists.{Every}
use Rattle.lists.proofs.ListLaws.{every_map}
use Rattle.validation.specs.Statements.{Decides}
use Rattle.validation.proofs.DecideLaws.{decides_and, decides_eq, decides_le, decides_not}
use Rattle.logs.specs.Entries.{Entry, ask_answer, entries_of, entry_at, grant_answer, read_entry, write_entry}
use Rattle.logs.specs.LogForm.{HasEntry, SoundEntry, SoundLog, UnsoundLog, Whole, all_sound, asked_test, is_sound_entry}
use Rattle.logs.specs.Theorems.{FitsEntry}
use Rattle.logs.proofs.EntryLaws.{all_back, entries_at, entries_has, entries_written, log_length}

-- ---- one record

-- a test that another chooses, and what the chosen one says
decides_either : (a b c : Bool) {A B C : Type 0} → Decides a A → Decides b B → Decides c C
    → Decides (cond a b c) ((A → B) × ((A → ⊥) → C))
decides_either true b c d e f = (λ t. (λ h. e.0 t, λ n. absurd (n (d.0 refl))), λ p. e.1 (p.0 (d.0 refl)))
decides_either false b c d e f =
    (λ t. (λ h. absurd (true≢false (sym (d.1 h))), λ n. f.0 t), λ p. f.1 (p.1 (λ h. true≢false (sym (d.1 h)))))

pub decides_sound : (x : Entry) → Decides (is_sound_entry x) (SoundEntry x)
unfolding is_sound_entry
decides_sound x =
    let none = decides_eq x.asked 0 in
    let asked = decides_either (eqb x.answer ask_answer) _ _ (decides_eq x.answer ask_answer) (decides_not _ none) none in
    let answer = decides_and _ _ (decides_le grant_answer x.answer) (decides_le x.answer ask_answer) in
    let all = decides_and _ (asked_test x) (decides_and _ _ answer (decides_eq x.pad 0)) asked in (
      λ t. let h = all.0 t in record { least = h.0.0.0; most = h.0.0.1; pad = h.0.1; asks = h.1.0; asks_nothing = h.1.1 },
      λ s. all.1 (((s.least, s.most), s.pad), (s.asks, s.asks_nothing)),
    )

-- the three cases that are left
abbrev Cases : Entry → Type 0
Cases x = ((x.answer ≡ 1) × (x.asked ≡ 0)) ⊎ (((x.answer ≡ 2) × (x.asked ≡ 0)) ⊎ ((x.answer ≡ 3) × (x.asked ≢ 0)))

pub sound_means : (x : Entry) → SoundEntry x ↔ ((x.pad ≡ 0) × Cases x)
sound_means x = (λ s. (s.pad, go s (eqb x.answer 1) refl (eqb x.answer 2) refl), λ h. back h.0 h.1)
  where
    go : SoundEntry x → (a : Bool) → eqb x.answer 1 ≡ a → (b : Bool) → eqb x.answer 2 ≡ b → Cases x
    go s true i b j = let e = eqb-true x.answer 1 i in inl (e, s.asks_nothing (omega arith))
    go s false i true j = let e = eqb-true x.answer 2 j in inr (inl (e, s.asks_nothing (omega arith)))
    go s false i false j =
        let n = eqb-false x.answer 1 i in
        let m = eqb-false x.answer 2 j in
        let l = s.least in
        let k = s.most in
        let e : x.answer ≡ 3 = omega arith in
        inr (inr (e, s.asks e))

    back : x.pad ≡ 0 → Cases x → SoundEntry x
    back p (inl (e, n)) = record { least = omega arith; most = omega arith; pad = p; asks = λ i. absurd (omega arith); asks_nothing = λ i. n }
    back p (inr (inl (e, n))) = record { least = omega arith; most = omega arith; pad = p; asks = λ i. absurd (omega arith); asks_nothing = λ i. n }
    back p (inr (inr (e, n))) = record { least = omega arith; most = omega arith; pad = p; asks = λ i. n; asks_nothing = λ i. absurd (i e) }

-- ---- all records

pub decides_all_sound : (xs : List Entry) → Decides (all_sound xs) (Every SoundEntry xs)
unfolding all_sound
decides_all_sound [] = (λ e. tt, λ h. refl)
decides_all_sound (x ∷ xs) = decides_and _ _ (decides_sound x) (decides_all_sound xs)

-- one that is at fault
not_all_sound : (xs : List Entry) (d : Entry) → all_sound xs ≡ false → (k : ℕ) × ((k < length xs) × (SoundEntry (get_or xs k d) → ⊥))
unfolding all_sound
not_all_sound [] d e = absurd (true≢false e)
not_all_sound (x ∷ xs) d e = go (is_sound_entry x) refl e (not_all_sound xs d)
  where
    Fault : List Entry → Type 0
    Fault ys = (k : ℕ) × ((k < length ys) × (SoundEntry (get_or ys k d) → ⊥))

    go : (b : Bool) → is_sound_entry x ≡ b → (b && all_sound xs) ≡ false → (all_sound xs ≡ false → Fault xs) → Fault (x ∷ xs)
    go true i e later = let (k, (l, n)) = later e in (suc k, (omega arith, n))
    go false i e later = (0, (omega arith, λ s. true≢false (sym ((decides_sound x).1 s) ∙ i)))

-- ---- by their places

every_at : (P : Entry → Type 0) (xs : List Entry) (d : Entry) → Every P xs → (k : ℕ) → k < length xs → P (get_or xs k d)
every_at P [] d h k l = absurd (not-suc-le-zero l)
every_at P (x ∷ xs) d h zero l = h.0
every_at P (x ∷ xs) d h (suc k) l = every_at P xs d h.1 k (le_of_suc-le-suc l)

at_every : (P : Entry → Type 0) (xs : List Entry) (d : Entry) → ((k : ℕ) → k < length xs → P (get_or xs k d)) → Every P xs
at_every P [] d h = tt
at_every P (x ∷ xs) d h = (h 0 (omega arith), at_every P xs d (λ k l. h (suc k) (omega arith)))

module _ (log : List ℕ) where
  -- what stands for a record past the end
  past : Entry
  past = read_entry []

  pub every_entry : (P : Entry → Type 0) → Every P (entries_of log) ↔ ((k : ℕ) → HasEntry log k → P (entry_at log k))
  every_entry P = (
    λ h k i. subst P (entries_at log past k i) (every_at P (entries_of log) past h k ((entries_has log k).1 i)),
    λ h. at_every P (entries_of log) past (λ k l. let i = (entries_has log k).0 l in subst P (sym (entries_at log past k i)) (h k i)),
  )

  -- the second test of a log
  pub decides_records : Decides (all_sound (entries_of log)) ((k : ℕ) → HasEntry log k → SoundEntry (entry_at log k))
  decides_records =
      let d = decides_all_sound (entries_of log) in
      let e = every_entry SoundEntry in
      (λ t. e.0 (d.0 t), λ h. d.1 (e.1 h))

  -- a whole log with a record at fault
  pub unsound : Whole log → all_sound (entries_of log) ≡ false → UnsoundLog log
  unsound w e =
      let (k, (l, n)) = not_all_sound (entries_of log) past e in
      let i = (entries_has log k).0 l in
      record { whole = w; place = k; there = i; broken = λ s. n (subst SoundEntry (sym (entries_at log past k i)) s) }

pub sound_written : (xs : List Entry) → Every (λ (x : Entry). SoundEntry (read_entry (write_entry x))) xs → SoundLog (flat_map write_entry xs)
sound_written xs h =
    let log = flat_map write_entry xs in
    let all = every_map _ SoundEntry (λ (x : Entry). read_entry (write_entry x)) (λ x s. s) xs h in
    record { whole = omega (arith, log_length xs); each = (every_entry log SoundEntry).0 (subst (Every SoundEntry) (sym (entries_written xs)) all) }

pub whole_is : (log : List ℕ) → Whole log ↔ ((n : ℕ) × (length log ≡ 8 * n))
whole_is log = (λ w. (length log / 8, omega arith), λ (n, e). omega (arith, e))

pub sounds : (xs : List Entry) → Every FitsEntry xs → SoundLog (flat_map write_entry xs) ↔ Every SoundEntry xs
sounds xs f =
    let log = flat_map write_entry xs in
    let back = all_back xs f in (
      λ s. subst (Every SoundEntry) back ((every_entry log SoundEntry).1 s.each),
      λ h. record { whole = omega (arith, log_length xs); each = (every_entry log SoundEntry).0 (subst (Every SoundEntry) (sym back) h) },
    )

pub unsounds : (log : List ℕ) → UnsoundLog log ↔ (Whole log × (SoundLog log → ⊥))
unsounds log = (
  λ u. (u.whole, λ s. u.broken (s.each u.place u.there)),
  λ (w, n). go w n (all_sound (entries_of log)) refl,
)
  where
    go : Whole log → (SoundLog log → ⊥) → (b : Bool) → all_sound (entries_of log) ≡ b → UnsoundLog log
    go w n true e = absurd (n (record { whole = w; each = (decides_records log).0 e }))
    go w n false e = unsound log w e
