-- Implementations whose logs agree answered alike. Assumes nothing.
use mathlib.Core.Path.{◌∙◌, ◌≡◌, ap₂, refl, sym}
use mathlib.Core.Bool.{Bool, cond, false, true}
use mathlib.Core.List.{List, [], ◌∷◌, map}
use mathlib.Core.Option
use mathlib.Core.Option.{Option, none, some}
use Prim.Native.Nat.{suc, ℕ}
use Rattle.lists.specs.Lists.{Every}
use Rattle.lists.specs.Runs.{Turn}
use Rattle.validation.specs.Unless.{given}
use Rattle.rounds.specs.Moves.{Move}
use Rattle.rounds.specs.Rounds.{Answer, Outcome, ends, refused}
use Rattle.logs.specs.Agreement.{Agree, agree}
use Rattle.logs.specs.Comparison.{compared, divergence}
use Rattle.logs.specs.Theorems.{FitsEntry}
use Rattle.logs.proofs.AgreeLaws.{answers, tested}
use Rattle.logs.proofs.ComparisonLaws.{compared_given}
use Rattle.logs.proofs.DivergenceLaws.{none≢some}
use Rattle.logs.proofs.EntryLaws.{read_back}
use Rattle.session_logs.specs.Implementations.{Said, add_said, endings_of, said_of}
use Rattle.session_logs.specs.SessionLogs.{log_of}
use Rattle.session_logs.specs.Theorems.{Recordable}
use Rattle.session_logs.proofs.NormalLaws.{log_entries, normal}
use Rattle.session_logs.proofs.RecordLaws.{recordable_fits}
use Rattle.session_logs.proofs.SaidLaws.{same_ending, said_entry}

abbrev pub Fits : Said → Type 0
Fits x = FitsEntry (said_entry x)

-- what is recordable fits
pub said_fits : (ts : List (Turn Move Outcome)) → Every (λ t. Recordable t.takes t.gives) ts → Every Fits (said_of ts)
unfolding said_of
said_fits [] h = tt
said_fits (t ∷ ts) h = go t.gives.answer refl (said_fits ts h.1)
  where
    go : (a : Answer) → t.gives.answer ≡ a → Every Fits (said_of ts) → Every Fits (add_said t.takes a t.gives.session.count (said_of ts))
    go (ends e) i r = (recordable_fits t.takes t.gives h.0 e i, r)
    go (refused f) i r = r

-- one record
same_said : (x y : Said) → Fits x → Fits y → Agree (normal x) (normal y) → x.ended ≡ y.ended
unfolding normal
same_said x y f g a =
    let e = read_back (said_entry x) f in
    let i = read_back (said_entry y) g in
    let (n, q) = answers (said_entry x) (said_entry y) (rw (e, i) at a) in
    same_ending x.ended y.ended n q

-- all of them
pub same_saids : (xs ys : List Said) → Every Fits xs → Every Fits ys → divergence (map normal xs) (map normal ys) ≡ none
    → endings_of xs ≡ endings_of ys
unfolding divergence
same_saids [] [] f g e = refl
same_saids [] (y ∷ ys) f g e = absurd (none≢some 0 (sym e))
same_saids (x ∷ xs) [] f g e = absurd (none≢some 0 (sym e))
same_saids (x ∷ xs) (y ∷ ys) f g e =
    go (agree (normal x) (normal y)) refl (divergence (map normal xs) (map normal ys)) refl e (same_saids xs ys f.1 g.1)
  where
    go : (b : Bool) → agree (normal x) (normal y) ≡ b → (o : Option ℕ) → divergence (map normal xs) (map normal ys) ≡ o
        → cond b (Option.map suc o) (some 0) ≡ none
        → (divergence (map normal xs) (map normal ys) ≡ none → endings_of xs ≡ endings_of ys)
        → endings_of (x ∷ xs) ≡ endings_of (y ∷ ys)
    go true i none d e later = ap₂ ◌∷◌ (same_said x y f.0 g.0 ((tested _ _).0 i)) (later d)
    go true i (some k) d e later = absurd (none≢some (suc k) (sym e))
    go false i o d e later = absurd (none≢some 0 (sym e))

pub alike : (ts us : List (Turn Move Outcome)) → Every (λ t. Recordable t.takes t.gives) ts → Every (λ t. Recordable t.takes t.gives) us
    → compared (log_of ts) (log_of us) ≡ given none → endings_of (said_of ts) ≡ endings_of (said_of us)
alike ts us f g e =
    same_saids (said_of ts) (said_of us) (said_fits ts f) (said_fits us g)
    (ap₂ divergence (sym (log_entries ts)) (sym (log_entries us)) ∙ compared_given (log_of ts) (log_of us) none e)
