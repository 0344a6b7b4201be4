-- Which slots may be taken, and which numbers name a slot. Assumes nothing.
use mathlib.Core.Path.{◌∙◌, ◌≡◌, ap, refl, subst, sym}
use mathlib.Core.Logic.{◌↔◌, ◌⊎◌, inl, inr}
use mathlib.Core.Bool.{false, true≢false}
use mathlib.Core.List.{List}
use Prim.Native.Nat.{◌<◌, ◌≤◌, ℕ}
use lib.Dec.{ltb}
use lib.ListN.{length}
use native.Mathlib.Decide.{dec_lt}
use native.Mathlib.Omega.{arith}
use Rattle.validation.specs.Statements.{Decides}
use Rattle.validation.proofs.DecideLaws.{decides_and, decides_lt}
use Rattle.preference.specs.Question.{Question}
use Rattle.rounds.specs.Sessions.{Finished, Phase, Session, Verdict, closed, fresh, is_closed, waiting}
use Rattle.rounds.proofs.SessionLaws.{decides_closed}
use Rattle.slots.specs.Slots.{Free, HoldsUnfinished, InTable, Slot, UnfinishedOf, held, in_table, is_free, slot_limit, vacant}

-- ---- slots that may be taken

pub decides_free : (x : Slot) → Decides (is_free x) (Free x)
decides_free vacant = (λ e. tt, λ h. refl)
decides_free (held o s) = decides_closed s

-- a phase is fresh, waiting or closed, and no two of them
pub phase_open : (ph : Phase) → ((ph ≡ fresh) ⊎ ((q : Question) × (ph ≡ waiting q))) ↔ ((v : Verdict) × (ph ≡ closed v) → ⊥)
phase_open ph = (λ h (v, e). true≢false (sym (ap is_closed e) ∙ still_open h), back ph)
  where
    still_open : (ph ≡ fresh) ⊎ ((q : Question) × (ph ≡ waiting q)) → is_closed ph ≡ false
    still_open (inl e) = ap is_closed e
    still_open (inr (q, e)) = ap is_closed e

    back : (ph : Phase) → ((v : Verdict) × (ph ≡ closed v) → ⊥) → (ph ≡ fresh) ⊎ ((q : Question) × (ph ≡ waiting q))
    back fresh n = inl refl
    back (waiting q) n = inr (q, refl)
    back (closed v) n = absurd (n (v, refl))

pub not_free : (x : Slot) → HoldsUnfinished x ↔ (Free x → ⊥)
not_free vacant = (λ h. absurd h, λ n. n tt)
not_free (held o s) = phase_open s.phase

pub taken_from : (x : Slot) → Free x ↔ ((x ≡ vacant) ⊎ ((o : ℕ) × ((s : Session) × ((x ≡ held o s) × Finished s))))
taken_from x = (forth x, back)
  where
    forth : (x : Slot) → Free x → (x ≡ vacant) ⊎ ((o : ℕ) × ((s : Session) × ((x ≡ held o s) × Finished s)))
    forth vacant h = inl refl
    forth (held o s) h = inr (o, (s, (refl, h)))

    back : (x ≡ vacant) ⊎ ((o : ℕ) × ((s : Session) × ((x ≡ held o s) × Finished s))) → Free x
    back (inl e) = subst Free (sym e) tt
    back (inr (o, (s, (e, h)))) = subst Free (sym e) h

pub counts_for : (o : ℕ) (x : Slot) → UnfinishedOf o x ↔ ((s : Session) × ((x ≡ held o s) × (Finished s → ⊥)))
counts_for o x = (forth x, λ (s, (e, h)). subst (UnfinishedOf o) (sym e) (refl, (phase_open s.phase).1 h))
  where
    forth : (x : Slot) → UnfinishedOf o x → (s : Session) × ((x ≡ held o s) × (Finished s → ⊥))
    forth vacant h = absurd h
    forth (held p s) (e, h) = (s, (ap (λ (q : ℕ). held q s) e, (phase_open s.phase).0 h))

-- ---- numbers that name a slot

pub decides_in_table : (xs : List Slot) (i : ℕ) → Decides (in_table xs i) (InTable xs i)
decides_in_table xs i = decides_and (ltb i (length xs)) (ltb i slot_limit) (decides_lt i (length xs)) (decides_lt i slot_limit)

-- "past the list's end or above 63"
pub outside : (xs : List Slot) (i : ℕ) → (InTable xs i → ⊥) ↔ ((length xs ≤ i) ⊎ (63 < i))
outside xs i = (λ n. forth n (dec_lt i (length xs)), back)
  where
    forth : (InTable xs i → ⊥) → Dec (i < length xs) → (length xs ≤ i) ⊎ (63 < i)
    forth n (no d) = inl (omega (arith, d))
    forth n (yes l) = let d : i < slot_limit → ⊥ = λ b. n (l, b) in inr (omega (arith, d))

    back : (length xs ≤ i) ⊎ (63 < i) → InTable xs i → ⊥
    back (inl l) h = omega (arith, l, h.0)
    back (inr l) h = omega (arith, l, h.1)
