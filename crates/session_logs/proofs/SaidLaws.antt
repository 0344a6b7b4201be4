-- What an implementation says, and the records of its log; of the rounds that document 01 defines: counts that rise by 1, and records that are sound and fit.
-- Assumes nothing.
use mathlib.Core.Path.{◌∙◌, ◌≡◌, ap, refl, subst, sym}
use mathlib.Core.Logic.{◌≢◌}
use mathlib.Core.List.{List, [], ◌++◌, ◌∷◌, flat_map, map}
use mathlib.Core.Option
use Prim.Native.Nat.{◌<◌, ◌^◌, suc, ℕ}
use native.Mathlib.Omega.{arith}
use Rattle.encoding.specs.LittleEndian.{Bytes}
use Rattle.lists.specs.Lists.{Every}
use Rattle.lists.specs.Runs.{Turn, run}
use Rattle.records.specs.Policies.{policy_of}
use Rattle.preference.specs.Question.{Question}
use Rattle.rounds.specs.Endings.{Ending, ask, deny, grant}
use Rattle.rounds.specs.Moves.{Move}
use Rattle.rounds.specs.Rounds.{Answer, Outcome, ends, phase_after, refused, round, rounds_of, worked}
use Rattle.rounds.specs.Sessions.{Session, SoundPhase, SoundSession, question, waiting}
use Rattle.rounds.proofs.RefusalLaws.{RoundCase, goes, round_case, turned}
use Rattle.rounds.proofs.SoundLaws.{SoundSixteenBit, round_sound, seventeen}
use Rattle.demands.specs.Lists.{Round, accepted_of, add_round, question_in}
use Rattle.logs.specs.Entries.{Entry, write_entry}
use Rattle.logs.specs.LogForm.{SoundEntry}
use Rattle.logs.specs.Theorems.{FitsEntry}
use Rattle.session_logs.specs.Implementations.{Said, add_said, said_of}
use Rattle.session_logs.specs.RoundRecords.{answer_entry, answer_number, ending_entry, round_record}
use Rattle.session_logs.specs.SessionLogs.{bytes_in, log_of}

-- ---- any implementation

-- the record of what is said of a round
abbrev pub said_entry : Said → Entry
said_entry x = ending_entry x.takes x.ended x.count

-- the records of its log
abbrev pub entries_said : List (Turn Move Outcome) → List Entry
entries_said ts = map said_entry (said_of ts)

-- one round and those after it
said_one : (m : Move) (a : Answer) (n : ℕ) (xs : List Said) (log : List ℕ) → log ≡ flat_map write_entry (map said_entry xs)
    → bytes_in (Option.map write_entry (answer_entry m a n)) ++ log ≡ flat_map write_entry (map said_entry (add_said m a n xs))
unfolding flat_map
said_one m (ends e) n xs log h = ap (◌++◌ (write_entry (ending_entry m e n))) h
said_one m (refused f) n xs log h = h

pub log_said : (ts : List (Turn Move Outcome)) → log_of ts ≡ flat_map write_entry (entries_said ts)
unfolding log_of said_of flat_map round_record
log_said [] = refl
log_said (t ∷ ts) = said_one t.takes t.gives.answer t.gives.session.count (said_of ts) (log_of ts) (log_said ts)

-- what is said are the accepted rounds
abbrev pub round_said : Said → Round Move
round_said x = record { takes = x.takes; ended = x.ended }

pub said_rounds : (ts : List (Turn Move Outcome)) → map round_said (said_of ts) ≡ accepted_of ts
unfolding said_of accepted_of
said_rounds [] = refl
said_rounds (t ∷ ts) = go t.gives.answer (said_rounds ts)
  where
    go : (a : Answer) → map round_said (said_of ts) ≡ accepted_of ts
        → map round_said (add_said t.takes a t.gives.session.count (said_of ts)) ≡ add_round t.takes a (accepted_of ts)
    go (ends e) h = ap (◌∷◌ (record { takes = t.takes; ended = e })) h
    go (refused f) h = h

pub said_more : (t : Turn Move Outcome) (ts : List (Turn Move Outcome)) (e : Ending) → t.gives.answer ≡ ends e
    → said_of (t ∷ ts) ≡ record { takes = t.takes; ended = e; count = t.gives.session.count } ∷ said_of ts
unfolding said_of
said_more t ts e a = ap (λ (x : Answer). add_said t.takes x t.gives.session.count (said_of ts)) a

-- ---- the rounds that document 01 defines

-- accepted rounds with their counts, the first after n
unfoldable pub numbered : ℕ → List (Round Move) → List Said
numbered n [] = []
numbered n (t ∷ ts) = record { takes = t.takes; ended = t.ended; count = suc n } ∷ numbered (suc n) ts

pub said_numbered : (bytes : List ℕ) (s : Session) (ms : List Move)
    → said_of (rounds_of bytes s ms) ≡ numbered s.count (accepted_of (rounds_of bytes s ms))
unfolding run said_of accepted_of numbered
said_numbered bytes s [] = refl
said_numbered bytes s (m ∷ ms) = go (round bytes s m) (round_case bytes s m) (said_numbered bytes (round bytes s m).session ms)
  where
    Rest : Outcome → Type 0
    Rest o = said_of (rounds_of bytes o.session ms) ≡ numbered o.session.count (accepted_of (rounds_of bytes o.session ms))

    All : Outcome → Type 0
    All o =
        add_said m o.answer o.session.count (said_of (rounds_of bytes o.session ms))
        ≡ numbered s.count (add_round m o.answer (accepted_of (rounds_of bytes o.session ms)))

    go : (o : Outcome) → RoundCase bytes s m o → Rest o → All o
    go o (turned f e is) h = subst (λ (x : Outcome). Rest x → All x) (sym is) (λ g. g) h
    go o (goes e is) h = subst (λ (x : Outcome). Rest x → All x) (sym is) (λ g. ap (◌∷◌ (record { takes = m; ended = (worked (policy_of bytes) s m).ended; count = suc s.count })) g) h

-- eight bytes have room for the record
pub ending_fits : (m : Move) → m.shows < 2 ^ 16 → (e : Ending) (n : ℕ) → n < 256 → (question_in e).asks < 2 ^ 16 → FitsEntry (ending_entry m e n)
ending_fits m l grant n c a = record { shown = l; answer = omega arith; asked = a; count = c; pad = omega arith }
ending_fits m l deny n c a = record { shown = l; answer = omega arith; asked = a; count = c; pad = omega arith }
ending_fits m l (ask q) n c a = record { shown = l; answer = omega arith; asked = a; count = c; pad = omega arith }

-- an ending, from its number and what it asks for
pub same_ending : (d e : Ending) → answer_number d ≡ answer_number e → (question_in d).asks ≡ (question_in e).asks → d ≡ e
same_ending grant grant n q = refl
same_ending grant deny n q = absurd (omega (arith, n))
same_ending grant (ask y) n q = absurd (omega (arith, n))
same_ending deny grant n q = absurd (omega (arith, n))
same_ending deny deny n q = refl
same_ending deny (ask y) n q = absurd (omega (arith, n))
same_ending (ask x) grant n q = absurd (omega (arith, n))
same_ending (ask x) deny n q = absurd (omega (arith, n))
same_ending (ask x) (ask y) n q = ap (λ (k : ℕ). ask (record { asks = k })) q

-- a record that is sound and fits
pub record Right (x : Entry) : Type 0 where
  pub sound : SoundEntry x
  pub fits : FitsEntry x

ending_sound : (m : Move) (e : Ending) (n : ℕ) → ((q : Question) → e ≡ ask q → q.asks ≢ 0) → SoundEntry (ending_entry m e n)
ending_sound m grant n h =
    record { least = omega arith; most = omega arith; pad = refl; asks = λ x. absurd (omega (arith, x)); asks_nothing = λ x. refl }
ending_sound m deny n h =
    record { least = omega arith; most = omega arith; pad = refl; asks = λ x. absurd (omega (arith, x)); asks_nothing = λ x. refl }
ending_sound m (ask q) n h =
    record { least = omega arith; most = omega arith; pad = refl; asks = λ x. h q refl; asks_nothing = λ x. absurd (x refl) }

pub ending_right : (m : Move) → m.shows < 2 ^ 16 → (e : Ending) (n : ℕ) → n < 256 → (question_in e).asks < 2 ^ 16
    → ((q : Question) → e ≡ ask q → q.asks ≢ 0) → Right (ending_entry m e n)
ending_right m l e n c a h = record { sound = ending_sound m e n h; fits = ending_fits m l e n c a }

-- what is asked is what the session waits on
asked_small : (e : Ending) → (question (phase_after e)).asks < 2 ^ 16 → (question_in e).asks < 2 ^ 16
asked_small grant a = a
asked_small deny a = a
asked_small (ask q) a = a

-- so is every record of such rounds
pub all_right : (bytes : List ℕ) → Bytes bytes → (s : Session) → SoundSixteenBit s → (ms : List Move) → Every (λ m. m.shows < 2 ^ 16) ms
    → Every Right (entries_said (rounds_of bytes s ms))
unfolding run said_of
all_right bytes b s h [] f = tt
all_right bytes b s h (m ∷ ms) f =
    let k = round_sound bytes b s m f.0 h in
    go (round bytes s m) (round_case bytes s m) k (all_right bytes b (round bytes s m).session k ms f.1)
  where
    Rest : Outcome → Type 0
    Rest o = SoundSixteenBit o.session → Every Right (entries_said (rounds_of bytes o.session ms))
        → Every Right (map said_entry (add_said m o.answer o.session.count (said_of (rounds_of bytes o.session ms))))

    asked : (e : Ending) (t : Session) → t.phase ≡ phase_after e → SoundSession t → (q : Question) → e ≡ ask q → q.asks ≢ 0
    asked e t p k q i =
        let w : t.phase ≡ waiting q = p ∙ ap phase_after i in
        (subst (SoundPhase t) w k.phase).0.not_empty

    go : (o : Outcome) → RoundCase bytes s m o → SoundSixteenBit o.session → Every Right (entries_said (rounds_of bytes o.session ms))
        → Every Right (map said_entry (add_said m o.answer o.session.count (said_of (rounds_of bytes o.session ms))))
    go o (turned g e is) = subst Rest (sym is) (λ k r. r)
    go o (goes e is) =
        let x = worked (policy_of bytes) s m in
        subst Rest (sym is)
        (λ k r. (ending_right m f.0 x.ended (suc s.count) (omega (arith, seventeen _ k)) (asked_small x.ended k.sets.asks) (asked x.ended _ refl k.sound), r))
