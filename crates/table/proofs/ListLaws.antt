-- What an opening and a round at one slot come to over the list. Assumes nothing.
use mathlib.Core.Path.{◌∙◌, ◌≡◌, ap, refl, subst, sym}
use mathlib.Core.Bool.{Bool, cond, false, true}
use mathlib.Core.List.{List, [], ◌∷◌}
use mathlib.Core.Option.{Option, none, some}
use Prim.Native.Nat.{◌<◌, ◌^◌, ◌≤◌, ℕ}
use lib.Dec.{ltb}
use lib.ListN.{get_or, length, set, take}
use lib.Seq.{set-get_or}
use native.Mathlib.Omega.{arith}
use Rattle.encoding.specs.LittleEndian.{Bytes}
use Rattle.validation.specs.Tests.{first_failed, relabelled}
use Rattle.validation.specs.Unless.{unless}
use Rattle.rounds.specs.Moves.{Move}
use Rattle.rounds.specs.Refusals.{Refusal, number}
use Rattle.rounds.specs.RoundTest.{opening_tests}
use Rattle.rounds.specs.Rounds.{Answer, opening}
use Rattle.rounds.specs.Sessions.{is_service, opened}
use Rattle.slots.specs.Meanings.{OpeningAtMeets, RoundAtMeets}
use Rattle.slots.specs.Openings.{Reply, open_at, opening_refusal, taken_unless}
use Rattle.slots.specs.RoundsAt.{SlotTurn, put_back, refused_by, round_at, slot_round}
use Rattle.slots.specs.Slots as S
use Rattle.slots.specs.Slots.{InTable, held, in_table, is_free, most_unfinished, slot_at, slot_limit, unfinished, vacant}
use Rattle.slots.specs.Theorems.{Fits}
use Rattle.slots.proofs.OpeningLaws.{opening_meets}
use Rattle.slots.proofs.RoundAtLaws.{round_at-meets}
use Rattle.slot_steps.specs.Steps.{SlotOpening, open_slot, open_with, past_refusal, past_with, take_slot, take_unless}
use Rattle.slot_steps.specs.Types.{Typed, slot_of}
use Rattle.slot_steps.specs.declared.Slot.{Slot}
use Rattle.occupancy.specs.Types.{empty_slot, slots_in, table_of}
use Rattle.occupancy.proofs.ListLaws.{all_counted, at_slot, beyond, beyond_false, counted_front, inside_true, map_set}

-- ---- a round

module _ (bytes : List ℕ) (ys : List Slot) (i : ℕ) (m : Move) where
  -- the answer and the list are the definitions', and have their meaning
  abbrev pub Rounds : Answer → List Slot → Type 0
  Rounds a zs =
      (a ≡ (round_at bytes (table_of ys) i m).answer)
      × ((table_of zs ≡ (round_at bytes (table_of ys) i m).table) × RoundAtMeets bytes (table_of ys) i m (record { answer = a; table = table_of zs }))

  rounds : (a : Answer) (zs : List Slot) → ◌≡◌ {A = Reply Answer} (record { answer = a; table = table_of zs }) (round_at bytes (table_of ys) i m)
      → Bytes bytes → (InTable (table_of ys) i → Fits (slot_at (table_of ys) i) × (m.shows < 2 ^ 16)) → Rounds a zs
  rounds a zs e b f = (
    ap (λ (g : Reply Answer). g.answer) e,
    (
      ap (λ (g : Reply Answer). g.table) e,
      subst (RoundAtMeets bytes (table_of ys) i m) (sym e) (round_at-meets bytes b (table_of ys) i m f),
    ),
  )

  pub round_inside : (a : Answer) (v : Slot) → i < slots_in (length ys)
      → (◌≡◌ {A = SlotTurn} (record { answer = a; slot = slot_of v }) (slot_round bytes (slot_of (get_or ys i empty_slot)) m)) × Typed bytes (slot_of (get_or ys i empty_slot)) m
      → Rounds a (set ys i v)
  unfolding round_at
  round_inside a v l (e, t) = rounds a (set ys i v) is t.policy (λ h. (subst Fits (sym (at_slot ys i)) t.slot, t.shows))
    where
      is : ◌≡◌ {A = Reply Answer} (record { answer = a; table = table_of (set ys i v) }) (round_at bytes (table_of ys) i m)
      is = ap (λ (zs : List S.Slot). record { answer = a; table = zs }) (map_set ys i v) ∙ ap (put_back (table_of ys) i) e
          ∙ ap (λ (x : S.Slot). put_back (table_of ys) i (slot_round bytes x m)) (sym (at_slot ys i))
          ∙ ap (λ (b : Bool). cond b (put_back (table_of ys) i (slot_round bytes (slot_at (table_of ys) i) m)) (record { answer = refused_by bytes 14; table = table_of ys })) (sym (inside_true ys i l))

  pub round_beyond : (a : Answer) → slots_in (length ys) ≤ i → (a ≡ refused_by bytes 14) × Bytes bytes → Rounds a ys
  unfolding round_at
  round_beyond a l (e, b) = rounds a ys is b (λ h. absurd (beyond ys i l h))
    where
      is : ◌≡◌ {A = Reply Answer} (record { answer = a; table = table_of ys }) (round_at bytes (table_of ys) i m)
      is = ap (λ (x : Answer). record { answer = x; table = table_of ys }) e
          ∙ ap (λ (b : Bool). cond b (put_back (table_of ys) i (slot_round bytes (slot_at (table_of ys) i) m)) (record { answer = refused_by bytes 14; table = table_of ys })) (sym (beyond_false ys i l))

-- ---- an opening

-- by the four tests
tested : (a b c d : Bool) → Option Refusal
tested a b c d = first_failed ((a, number 7) ∷ (b, number 14) ∷ (c, number 15) ∷ (d, number 16) ∷ [])

module _ (xs : List S.Slot) (i o r : ℕ) where
  x : S.Slot
  x = slot_at xs i

  n : ℕ
  n = unfinished o xs slot_limit

  put : SlotOpening → Reply (Option Refusal)
  put t = record { answer = t.answer; table = set xs i t.slot }

  -- a slot that is put back leaves the list
  puts : (t : Option Refusal) → put (take_unless t x (held o (opened r))) ≡ taken_unless t xs i (held o (opened r))
  unfolding put x
  puts none = refl
  puts (some f) = ap (λ (ys : List S.Slot). record { answer = some f; table = ys }) (set-get_or xs i vacant)

  opens_in : in_table xs i ≡ true → put (open_slot x n o r) ≡ open_at xs i o r
  unfolding open_at open_slot opening_refusal opening opening_tests relabelled take_slot first_failed tested n x
  opens_in e = go (is_service r) ∙ ap (λ (b : Bool). taken_unless (tested (is_service r) b (is_free x) (ltb n most_unfinished)) xs i (held o (opened r))) (sym e)
    where
      go : (a : Bool) → put (open_with (unless (first_failed ((a, number 7) ∷ [])) (opened r)) x n o)
          ≡ taken_unless (tested a true (is_free x) (ltb n most_unfinished)) xs i (held o (opened r))
      go true = puts (first_failed ((is_free x, number 15) ∷ (ltb n most_unfinished, number 16) ∷ []))
      go false = puts (some (number 7))

  opens_past : in_table xs i ≡ false → ◌≡◌ {A = Reply (Option Refusal)} (record { answer = past_refusal r; table = xs }) (open_at xs i o r)
  unfolding open_at past_refusal opening_refusal opening opening_tests relabelled first_failed tested n x
  opens_past e = go (is_service r) ∙ ap (λ (b : Bool). taken_unless (tested (is_service r) b (is_free x) (ltb n most_unfinished)) xs i (held o (opened r))) (sym e)
    where
      go : (a : Bool) → ◌≡◌ {A = Reply (Option Refusal)} (record { answer = past_with (unless (first_failed ((a, number 7) ∷ [])) (opened r)); table = xs })
          (taken_unless (tested a false (is_free x) (ltb n most_unfinished)) xs i (held o (opened r)))
      go true = refl
      go false = refl

-- what was counted over the slots that can be named
pub counted : (ys : List Slot) (o r n : ℕ) → r ≡ slots_in (length ys) → n ≡ unfinished o (table_of ys) r
    → n ≡ unfinished o (table_of ys) (slots_in (length ys))
counted ys o r n e is = is ∙ ap (unfinished o (table_of ys)) e

module _ (ys : List Slot) (i o r : ℕ) where
  abbrev pub Opens : Option Refusal → List Slot → Type 0
  Opens a zs =
      (a ≡ (open_at (table_of ys) i o r).answer)
      × ((table_of zs ≡ (open_at (table_of ys) i o r).table) × OpeningAtMeets (table_of ys) i o r (record { answer = a; table = table_of zs }))

  opens : (a : Option Refusal) (zs : List Slot) → ◌≡◌ {A = Reply (Option Refusal)} (record { answer = a; table = table_of zs }) (open_at (table_of ys) i o r)
      → Opens a zs
  opens a zs e = (
    ap (λ (g : Reply (Option Refusal)). g.answer) e,
    (
      ap (λ (g : Reply (Option Refusal)). g.table) e,
      subst (OpeningAtMeets (table_of ys) i o r) (sym e) (opening_meets (table_of ys) i o r),
    ),
  )

  pub open_inside : (a : Option Refusal) (v : Slot) → i < slots_in (length ys)
      → ◌≡◌ {A = SlotOpening} (record { answer = a; slot = slot_of v })
      (open_slot (slot_of (get_or ys i empty_slot)) (unfinished o (table_of ys) (slots_in (length ys))) o r)
      → Opens a (set ys i v)
  unfolding put x n
  open_inside a v l e = opens a (set ys i v) is
    where
      is : ◌≡◌ {A = Reply (Option Refusal)} (record { answer = a; table = table_of (set ys i v) }) (open_at (table_of ys) i o r)
      is = ap (λ (zs : List S.Slot). record { answer = a; table = zs }) (map_set ys i v) ∙ ap (put (table_of ys) i o r) e
          ∙ ap (λ (y : S.Slot). put (table_of ys) i o r (open_slot y (unfinished o (table_of ys) (slots_in (length ys))) o r)) (sym (at_slot ys i))
          ∙ ap (λ (k : ℕ). put (table_of ys) i o r (open_slot (slot_at (table_of ys) i) k o r)) (all_counted ys o)
          ∙ opens_in (table_of ys) i o r (inside_true ys i l)

  -- the slot stays as it was
  pub open_refused : (f : Refusal) → i < slots_in (length ys)
      → ◌≡◌ {A = SlotOpening} (record { answer = some f; slot = slot_of (get_or ys i empty_slot) })
      (open_slot (slot_of (get_or ys i empty_slot)) (unfinished o (table_of ys) (slots_in (length ys))) o r)
      → Opens (some f) ys
  open_refused f l e = subst (Opens (some f)) (set-get_or ys i empty_slot) (open_inside (some f) (get_or ys i empty_slot) l e)

  pub open_beyond : (a : Option Refusal) → slots_in (length ys) ≤ i → a ≡ past_refusal r → Opens a ys
  open_beyond a l e =
      opens a ys (ap (λ (y : Option Refusal). record { answer = y; table = table_of ys }) e ∙ opens_past (table_of ys) i o r (beyond_false ys i l))
