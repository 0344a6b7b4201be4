-- What the log of a list of rounds says. Assumes nothing.
use mathlib.Core.Path.{◌∙◌, ◌≡◌, ap, refl, subst, sym}
use mathlib.Core.List.{List, [], ◌++◌, ◌∷◌, append_assoc, flat_map, map}
use Prim.Native.Nat.{◌*◌, suc, ℕ}
use lib.ListN.{drop, length, length-append, take}
use lib.Seq.{drop_at, take_at}
use native.Mathlib.Omega.{arith}
use Rattle.lists.specs.Each.{Each}
use Rattle.lists.specs.Lists.{Every}
use Rattle.lists.specs.Runs.{Turn}
use Rattle.lists.proofs.ListLaws.{every_imp}
use Rattle.rounds.specs.Moves.{Move}
use Rattle.rounds.specs.Rounds.{Outcome, rounds_of}
use Rattle.rounds.specs.Sessions.{Session, opened}
use Rattle.rounds.proofs.SoundLaws.{opened_sound}
use Rattle.demands.specs.Lists.{Round, accepted_of}
use Rattle.demands.proofs.PromiseProof.{opened_by}
use Rattle.logs.specs.Entries.{Entry, entry_at, read_entry, write_entry}
use Rattle.logs.specs.LogForm.{SoundEntry, SoundLog}
use Rattle.logs.proofs.EntryLaws.{log_length, read_back, write_length}
use Rattle.logs.proofs.SoundLaws.{sound_written}
use Rattle.session_logs.specs.Implementations.{Said, said_of}
use Rattle.session_logs.specs.RoundRecords.{ending_entry}
use Rattle.session_logs.specs.SessionLogs.{LogSays, log_of}
use Rattle.session_logs.specs.Theorems.{Played}
use Rattle.session_logs.proofs.SaidLaws.{Right, all_right, entries_said, log_said, numbered, round_said, said_numbered, said_rounds, said_entry}

length_map : {A B : Type 0} (f : A → B) (xs : List A) → length (map f xs) ≡ length xs
length_map f [] = refl
length_map f (x ∷ xs) = ap suc (length_map f xs)

flat_append : (xs ys : List Entry) → flat_map write_entry (xs ++ ys) ≡ flat_map write_entry xs ++ flat_map write_entry ys
unfolding flat_map
flat_append [] ys = refl
flat_append (x ∷ xs) ys =
    ap (◌++◌ (write_entry x)) (flat_append xs ys) ∙ sym (append_assoc (write_entry x) (flat_map write_entry xs) (flat_map write_entry ys))

-- the record after those of xs
entry_next : (xs : List Entry) (x : Entry) (ys : List Entry) → entry_at (flat_map write_entry (xs ++ (x ∷ ys))) (length xs) ≡ read_entry (write_entry x)
unfolding flat_map
entry_next xs x ys =
    let rest = write_entry x ++ flat_map write_entry ys in
    let there : drop (8 * length xs) (flat_map write_entry (xs ++ (x ∷ ys))) ≡ rest =
    ap (drop (8 * length xs)) (flat_append xs (x ∷ ys)) ∙ drop_at (flat_map write_entry xs) rest (8 * length xs) (log_length xs)
    in
    ap (λ (bs : List ℕ). read_entry (take 8 bs)) there ∙ ap read_entry (take_at (write_entry x) (flat_map write_entry ys) 8 (write_length x))

-- record k says round k + 1, after the records `done`
each_said : (log : List ℕ) (past : List (Round Move)) (done : List Entry) → length done ≡ length past → (ts : List (Round Move))
    → Every Right (map said_entry (numbered (length past) ts)) → log ≡ flat_map write_entry (done ++ map said_entry (numbered (length past) ts))
    → Each (λ past t. entry_at log (length past) ≡ ending_entry t.takes t.ended (suc (length past))) past ts
unfolding Each numbered
each_said log past done n [] h e = tt
each_said log past done n (t ∷ ts) h e =
    let x = ending_entry t.takes t.ended (suc (length past)) in
    let ys = map said_entry (numbered (suc (length past)) ts) in (
      ap (entry_at log) (sym n) ∙ ap (λ (l : List ℕ). entry_at l (length done)) e ∙ entry_next done x ys ∙ read_back x h.0.fits,
      each_said log (t ∷ past) (done ++ (x ∷ [])) (omega (arith, length-append done (x ∷ []))) ts h.1
          (e ∙ ap (flat_map write_entry) (sym (append_assoc done (x ∷ []) ys))),
    )

module _ (bytes : List ℕ) (s : Session) (ms : List Move) where
  abbrev ts : List (Turn Move Outcome)
  ts = rounds_of bytes s ms

  long : length (log_of ts) ≡ 8 * length (accepted_of ts)
  long =
      ap length (log_said ts)
      ∙ log_length (entries_said ts)
      ∙ ap (λ (n : ℕ). 8 * n) (length_map said_entry (said_of ts) ∙ sym (length_map round_said (said_of ts)) ∙ ap length (said_rounds ts))

  -- the records that are read are those that were written
  sound : Every Right (entries_said ts) → SoundLog (log_of ts)
  sound h =
      subst SoundLog (sym (log_said ts))
      (sound_written (entries_said ts) (every_imp Right _ (λ x r. subst SoundEntry (sym (read_back x r.fits)) r.sound) (entries_said ts) h))

  said : s.count ≡ 0 → said_of ts ≡ numbered 0 (accepted_of ts)
  said z = said_numbered bytes s ms ∙ ap (λ (n : ℕ). numbered n (accepted_of ts)) z

  pub says : s.count ≡ 0 → Every Right (entries_said ts) → LogSays ts
  says z h = record {
    as_long = long;
    rounds = each_said (log_of ts) [] [] refl (accepted_of ts) (subst (λ (xs : List Said). Every Right (map said_entry xs)) (said z) h)
        (log_said ts ∙ ap (λ (xs : List Said). flat_map write_entry (map said_entry xs)) (said z));
    sound = sound h;
  }

pub played_right : (bytes : List ℕ) (r : ℕ) (s : Session) (ms : List Move) → Played bytes r s ms → Every Right (entries_said (rounds_of bytes s ms))
played_right bytes r s ms p =
    let (service, is) = opened_by r s p.opened in
    subst (λ (x : Session). Every Right (entries_said (rounds_of bytes x ms))) is
    (all_right bytes p.fits (opened r) (opened_sound r service) ms p.shown)

pub log_says : (bytes : List ℕ) (r : ℕ) (s : Session) (ms : List Move) → Played bytes r s ms → LogSays (rounds_of bytes s ms)
log_says bytes r s ms p =
    let (service, is) = opened_by r s p.opened in
    says bytes s ms (ap (λ (x : Session). x.count) (sym is)) (played_right bytes r s ms p)
