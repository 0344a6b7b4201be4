-- The record of a round from C. Assumes nothing.
use mathlib.Core.Path.{◌∙◌, ◌≡◌, ap, refl, subst, sym}
use mathlib.Core.Logic.{◌≢◌}
use mathlib.Core.Bool.{Bool, ◌&&◌, cond, false, not, true}
use mathlib.Core.List.{List, [], ◌∷◌, append-nil, flat_map}
use mathlib.Core.Option.{Option, map, none, some}
use Prim.Native.Nat.{◌%◌, ◌*◌, ◌+◌, ◌/◌, ◌<◌, ◌^◌, suc, zero, ℕ}
use lib.Dec.{eqb}
use lib.ListN.{get_or, length}
use borrow.Author.Tests.{eqb-false, ne_eqb}
use native.Mathlib.Omega.{arith}
use Rattle.encoding.specs.LittleEndian.{Bytes, bytes_of}
use Rattle.atoms.specs.Sets.{Member}
use Rattle.atoms.proofs.SetLaws.{none_in_empty}
use Rattle.records.specs.Policies.{policy_of}
use Rattle.form.specs.PolicyTest.{policy_refusal}
use Rattle.form.specs.WrittenForm as W
use Rattle.form.proofs.NumberLaws.{small_number}
use Rattle.form.proofs.PolicyLaws.{disclosure_heads}
use Rattle.form.proofs.TheoremsProof as policies
use Rattle.preference.specs.Question.{Question}
use Rattle.rounds.specs.Endings.{Ending, ask, deny, grant}
use Rattle.rounds.specs.Moves.{Move, showing}
use Rattle.rounds.specs.Refusals.{Refusal}
use Rattle.rounds.specs.Rounds.{Answer, Outcome, declined_after, ends, phase_after, refused, round, shown_after, worked}
use Rattle.rounds.specs.Sessions.{Session, question}
use Rattle.rounds.proofs.AnswerLaws.{Says, clash, ending_says}
use Rattle.rounds.proofs.RefusalLaws.{RoundCase, allowed_iff, goes, round_case, round_none, turned}
use Rattle.demands.specs.Lists.{question_in}
use Rattle.packing.specs.Exports.{Call, round_call}
use Rattle.packing.specs.Packed.{number_at, packed, unpacked}
use Rattle.packing.specs.Theorems.{Told, call_of, reply_for}
use Rattle.packing.proofs.RecordLaws.{asked_in_lem}
use Rattle.packing.proofs.TheoremsProof as packing
use Rattle.logs.specs.Entries.{Entry, write_entry}
use Rattle.logs.specs.LogForm.{SoundEntry, SoundLog}
use Rattle.logs.proofs.EntryLaws.{read_back}
use Rattle.logs.proofs.SoundLaws.{sound_written}
use Rattle.session_logs.specs.Exports.{ending_replied, record_call, reply_record, written_call}
use Rattle.session_logs.specs.RoundRecords.{answer_entry, ending_entry, round_record}
use Rattle.session_logs.specs.Theorems.{Recorded}
use Rattle.session_logs.proofs.SaidLaws.{Right, ending_right}

asks_one : (x y : Question) → ask x ≡ ask y → x.asks ≡ y.asks
asks_one x y e = let i : x ≡ y = cc in ap (λ (z : Question). z.asks) i

-- ---- which replies have a record

refused_reply_lem : (x q : ℕ) → x % 256 ≢ 0 → ending_replied x q ≡ none
refused_reply_lem x q n =
    rw (ne_eqb x 0x0100 (λ e. n (omega (arith, e))), ne_eqb x 0x0200 (λ e. n (omega (arith, e))), ne_eqb x 0x0300 (λ e. n (omega (arith, e)))) refl

asked_reply : (q : ℕ) → q ≢ 0 → ending_replied 0x0300 q ≡ some (ask (record { asks = q }))
asked_reply q n = simp (ne_eqb q 0 n)

-- ---- the record of a round

-- an outcome whose reply and session tell its answer
replied_record_lem : (m : Move) (a : Answer) (t : Session) → ((f : Refusal) → a ≡ refused f → reply_for a % 256 ≢ 0)
    → ((q : Question) → a ≡ ends (ask q) → (question t.phase ≡ q) × (q.asks ≢ 0))
    → reply_record m.shows (reply_for a) (packed t) ≡ map write_entry (answer_entry m a t.count)
unfolding reply_record packed
replied_record_lem m (ends grant) t f g = refl
replied_record_lem m (ends deny) t f g = refl
replied_record_lem m (ends (ask q)) t f g =
    let (is, some_one) = g q refl in
    let asked : number_at (packed t) 8 ≡ q.asks = asked_in_lem t ∙ ap (λ (x : Question). x.asks) is in
    ap (λ (o : Option Ending). map (λ (e : Ending). write_entry (ending_entry (showing m.shows) e t.count)) o)
    (ap (ending_replied 0x0300) asked ∙ asked_reply q.asks some_one)
replied_record_lem m (refused h) t f g =
    ap (λ (o : Option Ending). map (λ (e : Ending). write_entry (ending_entry (showing m.shows) e t.count)) o)
    (refused_reply_lem (reply_for (refused h)) (number_at (packed t) 8) (f h refl))

-- a question asks for something
asks_something : (policy : List ℕ) → Bytes policy → (s : Session) (m : Move) (q : Question) → (round policy s m).answer ≡ ends (ask q)
    → (question (round policy s m).session.phase ≡ q) × (q.asks ≢ 0)
unfolding worked
asks_something policy b s m q = go (round policy s m) (round_case policy s m)
  where
    go : (o : Outcome) → RoundCase policy s m o → o.answer ≡ ends (ask q) → (question o.session.phase ≡ q) × (q.asks ≢ 0)
    go o (turned f e is) h = let z : refused f ≡ ends (ask q) = sym (ap (λ (x : Outcome). x.answer) is) ∙ h in clash (cc)
    go o (goes e is) h =
        let a = (allowed_iff policy s m).0 ((round_none policy b s m).0 e) in
        let low = disclosure_heads policy b a.policy in
        let r = s.request in
        let P = shown_after s m in
        let N = declined_after s m in
        let w : ends (worked (policy_of policy) s m).ended ≡ ends (ask q) = sym (ap (λ (x : Outcome). x.answer) is) ∙ h in
        let asks : (worked (policy_of policy) s m).ended ≡ ask q = cc in
        let (k, i) = (subst (Says (policy_of policy) low r P N) asks (ending_says (policy_of policy) low r P N)).some_one in (
          ap (λ (x : Outcome). question x.session.phase) is ∙ ap (λ (x : Ending). question (phase_after x)) asks,
          λ z. none_in_empty k (subst (Member k) z i),
        )

replied_call : (policy before : List ℕ) → Bytes policy → Bytes before → length before ≡ 10 → (s : Session) (m : Move) → unpacked before ≡ some s
    → (room : List ℕ) → (let c = round_call policy before m.shows in
    record_call m.shows c.reply c.leaves room ≡ written_call room (round_record m (round policy s m)))
unfolding record_call round_record
replied_call policy before b g l s m u room =
    let o = round policy s m in
    ap (λ (c : Call). written_call room (reply_record m.shows c.reply c.leaves)) ((packing.theorems).plays policy before g l s m u)
    ∙ ap (written_call room) (replied_record_lem m o.answer o.session nonzero (asks_something policy b s m))
  where
    nonzero : (f : Refusal) → (round policy s m).answer ≡ refused f → reply_for (round policy s m).answer % 256 ≢ 0
    nonzero f e = (subst (λ (a : Answer). Told a (call_of (round policy s m))) e ((packing.theorems).told policy b s m)).0

pub round_record_lem : (policy before : List ℕ) → Bytes policy → Bytes before → length before ≡ 10 → (s : Session) (m : Move) → unpacked before ≡ some s
    → (room : List ℕ) → (let c = round_call policy before m.shows in
    Recorded (round_record m (round policy s m)) room (record_call m.shows c.reply c.leaves room))
round_record_lem policy before b g l s m u room =
    let e = replied_call policy before b g l s m u room in
    record { written = λ bs h. e ∙ ap (written_call room) h; unwritten = λ h. e ∙ ap (written_call room) h }

pub no_session_record : (policy before : List ℕ) → Bytes policy → (p : ℕ) → unpacked before ≡ none → (room : List ℕ)
    → (let c = round_call policy before p in record_call p c.reply c.leaves room ≡ record { reply = 0; leaves = room })
unfolding record_call reply_record
no_session_record policy before b p u room = go (policy_refusal policy) refl
  where
    none_in : (x : ℕ) → x % 256 ≢ 0 → round_call policy before p ≡ record { reply = x; leaves = before }
        → (let c = round_call policy before p in record_call p c.reply c.leaves room ≡ record { reply = 0; leaves = room })
    none_in x n e =
        ap (λ (c : Call). record_call p c.reply c.leaves room) e
        ∙ ap (λ (o : Option Ending). written_call room (map (λ (e : Ending). write_entry (ending_entry (showing p) e (get_or before 6 0))) o))
        (refused_reply_lem x (number_at before 8) n)

    go : (o : Option W.Refusal) → policy_refusal policy ≡ o
        → (let c = round_call policy before p in record_call p c.reply c.leaves room ≡ record { reply = 0; leaves = room })
    go none e = none_in 8 (λ z. omega (arith, z)) ((packing.theorems).no_session policy b (((policies.theorems).tested policy b).accepts.0 e) before p u)
    go (some (W.at n k)) e =
        let f = (((policies.theorems).tested policy b).refuses (W.at n k)).0 e in
        let (least, most) = small_number policy n k f in
        none_in (n + 0x100 * k) (λ z. omega (arith, z, least, most)) ((packing.theorems).untested policy b (W.at n k) f before p u)

-- ---- any call

byte_at : (bs : List ℕ) → Bytes bs → (i : ℕ) → get_or bs i 0 < 256
byte_at [] b i = omega arith
byte_at (x ∷ bs) b zero = b.0
byte_at (x ∷ bs) b (suc i) = byte_at bs b.1 i

sound_one : (x : Entry) → Right x → SoundLog (write_entry x)
unfolding flat_map
sound_one x r =
    subst SoundLog (append-nil (write_entry x)) (sound_written (x ∷ []) (subst SoundEntry (sym (read_back x r.fits)) r.sound, tt))

pub record_sound : (p x : ℕ) (session room : List ℕ) → p < 2 ^ 16 → Bytes session → (record_call p x session room).reply ≢ 0
    → SoundLog (record_call p x session room).leaves
unfolding record_call reply_record
record_sound p x session room l b = by (eqb x 0x0100) (eqb x 0x0200) (eqb x 0x0300) (eqb q 0) refl
  where
    q : ℕ
    q = number_at session 8

    call : Option Ending → Call
    call o = written_call room (map (λ (e : Ending). write_entry (ending_entry (showing p) e (get_or session 6 0))) o)

    right : (e : Ending) → (question_in e).asks < 2 ^ 16 → ((y : Question) → e ≡ ask y → y.asks ≢ 0)
        → SoundLog (write_entry (ending_entry (showing p) e (get_or session 6 0)))
    right e a h = sound_one (ending_entry (showing p) e (get_or session 6 0)) (ending_right (showing p) l e (get_or session 6 0) (byte_at session b 6) a h)

    by : (g d a z : Bool) → eqb q 0 ≡ z
        → let o = cond g (some grant) (cond d (some deny) (cond (a && not z) (some (ask (record { asks = q }))) none)) in
        (call o).reply ≢ 0 → SoundLog (call o).leaves
    by true d a z e n = right grant (omega arith) (λ y i. clash (cc))
    by false true a z e n = right deny (omega arith) (λ y i. clash (cc))
    by false false true false e n =
        right (ask (record { asks = q })) (omega (arith, byte_at session b 8, byte_at session b 9))
        (λ y i. let w : q ≡ y.asks = asks_one (record { asks = q }) y i in λ h. eqb-false q 0 e (w ∙ h))
    by false false true true e n = absurd (n refl)
    by false false false z e n = absurd (n refl)

-- ---- by the reply

high : (n : ℕ) → n < 2 ^ 16 → n / 256 % 256 ≡ n / 256
high n l = omega arith

pub granted_bytes : (p : ℕ) (session room : List ℕ) → p < 2 ^ 16 → record_call p 0x0100 session room
    ≡ record { reply = 8; leaves = p % 256 ∷ p / 256 ∷ 1 ∷ 0 ∷ 0 ∷ get_or session 6 0 ∷ 0 ∷ 0 ∷ [] }
unfolding record_call reply_record write_entry bytes_of
granted_bytes p session room l = rw (high p l) refl

pub denied_bytes : (p : ℕ) (session room : List ℕ) → p < 2 ^ 16 → record_call p 0x0200 session room
    ≡ record { reply = 8; leaves = p % 256 ∷ p / 256 ∷ 2 ∷ 0 ∷ 0 ∷ get_or session 6 0 ∷ 0 ∷ 0 ∷ [] }
unfolding record_call reply_record write_entry bytes_of
denied_bytes p session room l = rw (high p l) refl

low_of : (a b : ℕ) → a < 256 → (a + 256 * b) % 256 ≡ a
low_of a b l = omega arith

high_of : (a b : ℕ) → a < 256 → (a + 256 * b) / 256 ≡ b
high_of a b l = omega arith

small : (b : ℕ) → b < 256 → b % 256 ≡ b
small b l = omega arith

pub asked_bytes : (p a b : ℕ) (session room : List ℕ) → p < 2 ^ 16 → a < 256 → b < 256 → get_or session 8 0 ≡ a → get_or session 9 0 ≡ b → a + b ≢ 0
    → record_call p 0x0300 session room ≡ record { reply = 8; leaves = p % 256 ∷ p / 256 ∷ 3 ∷ a ∷ b ∷ get_or session 6 0 ∷ 0 ∷ 0 ∷ [] }
unfolding record_call reply_record write_entry bytes_of
asked_bytes p a b session room l i j e f n =
    let low = low_of a b i in
    let top = ap (λ (n : ℕ). n % 256) (high_of a b i) ∙ small b j in
    rw (e, f, ne_eqb (a + 256 * b) 0 (λ z. n (omega arith)), high p l, low, top) refl

pub asked_nothing : (p : ℕ) (session room : List ℕ) → get_or session 8 0 ≡ 0 → get_or session 9 0 ≡ 0
    → record_call p 0x0300 session room ≡ record { reply = 0; leaves = room }
unfolding record_call reply_record
asked_nothing p session room e f = rw (e, f) refl

pub other_replies : (p x : ℕ) (session room : List ℕ) → x ≢ 0x0100 → x ≢ 0x0200 → x ≢ 0x0300
    → record_call p x session room ≡ record { reply = 0; leaves = room }
unfolding record_call reply_record
other_replies p x session room g d a = rw (ne_eqb x 0x0100 g, ne_eqb x 0x0200 d, ne_eqb x 0x0300 a) refl
