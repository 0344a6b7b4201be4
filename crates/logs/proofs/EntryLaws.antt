-- Log records as bytes: read, written, one after another; and where each stands. Assumes nothing.
use mathlib.Core.Path.{◌∙◌, ◌≡◌, ap, ap₂, refl, sym}
use mathlib.Core.Logic.{◌↔◌}
use mathlib.Core.List.{List, [], ◌++◌, ◌∷◌, flat_map, map}
use Prim.Native.Nat.{◌%◌, ◌*◌, ◌+◌, ◌/◌, ◌<◌, ◌^◌, suc, zero, ℕ}
use lib.ListN.{drop, drop_of_length-le, get_or, length, length-append, take}
use lib.Seq.{drop-append-add, drop-cons, get_or-drop, get_or-take, take_at}
use native.Mathlib.Nat.{add-zero, le_of_suc-le-suc, not-suc-le-zero, zero-add}
use native.Mathlib.Omega.{arith}
use Rattle.encoding.specs.LittleEndian.{Bytes, bytes_of, little_endian}
use Rattle.lists.specs.Lists.{Every}
use Rattle.logs.specs.Entries.{Entry, entries_from, entries_of, entry_at, read_entry, whole_entries, write_entry}
use Rattle.logs.specs.LogForm.{HasEntry}
use Rattle.logs.specs.Theorems.{FitsEntry, SaidAt}

-- ---- two bytes

two_bytes : (bs : List ℕ) → little_endian (take 2 bs) ≡ get_or bs 0 0 + 256 * get_or bs 1 0
unfolding little_endian
two_bytes [] = omega arith
two_bytes (a ∷ []) = omega arith
two_bytes (a ∷ b ∷ bs) = omega arith

two_bytes-at : (n : ℕ) (bs : List ℕ) → little_endian (take 2 (drop n bs)) ≡ get_or bs (n + 0) 0 + 256 * get_or bs (n + 1) 0
two_bytes-at n bs = two_bytes (drop n bs) ∙ rw (get_or-drop n bs 0 0, get_or-drop n bs 1 0)

-- each is below 256
bytes_lt : (bs : List ℕ) → Bytes bs → (i : ℕ) → get_or bs i 0 < 256
bytes_lt [] h i = omega arith
bytes_lt (b ∷ bs) h zero = h.0
bytes_lt (b ∷ bs) h (suc i) = bytes_lt bs h.1 i

-- ---- one record

pub said : (log : List ℕ) (k : ℕ) → SaidAt log k (entry_at log k)
unfolding read_entry
said log k = record {
  shown = two_bytes part ∙ ap₂ (λ (a b : ℕ). a + 256 * b) (rw add-zero at (at 0 (omega arith))) (at 1 (omega arith));
  answer = at 2 (omega arith);
  asked = two_bytes-at 3 part ∙ ap₂ (λ (a b : ℕ). a + 256 * b) (at 3 (omega arith)) (at 4 (omega arith));
  count = at 5 (omega arith);
  pad = two_bytes-at 6 part ∙ ap₂ (λ (a b : ℕ). a + 256 * b) (at 6 (omega arith)) (at 7 (omega arith));
}
  where
    part : List ℕ
    part = take 8 (drop (8 * k) log)

    at : (i : ℕ) → i < 8 → get_or part i 0 ≡ get_or log (8 * k + i) 0
    at i l = get_or-take 8 (drop (8 * k) log) i 0 l ∙ get_or-drop (8 * k) log i 0

-- the same as one record
pub entry_read : (log : List ℕ) (k : ℕ)
    → ◌≡◌ {A = Entry}
    (record {
      shown = get_or log (8 * k) 0 + 256 * get_or log (8 * k + 1) 0;
      answer = get_or log (8 * k + 2) 0;
      asked = get_or log (8 * k + 3) 0 + 256 * get_or log (8 * k + 4) 0;
      count = get_or log (8 * k + 5) 0;
      pad = get_or log (8 * k + 6) 0 + 256 * get_or log (8 * k + 7) 0;
    }) (entry_at log k)
entry_read log k =
    let s = said log k in
    rw (← s.shown, ← s.answer, ← s.asked, ← s.count, ← s.pad)

pub written : (x : Entry) → FitsEntry x → write_entry x
    ≡ x.shown % 256 ∷ x.shown / 256 ∷ x.answer ∷ x.asked % 256 ∷ x.asked / 256 ∷ x.count ∷ x.pad % 256 ∷ x.pad / 256 ∷ []
unfolding write_entry bytes_of
written x h = rw (high x.shown h.shown, high x.asked h.asked, high x.pad h.pad)
  where
    high : (n : ℕ) → n < 2 ^ 16 → n / 256 % 256 ≡ n / 256
    high n l = omega arith

pub write_length : (x : Entry) → length (write_entry x) ≡ 8
unfolding write_entry bytes_of
write_length x = refl

pub read_back : (x : Entry) → FitsEntry x → read_entry (write_entry x) ≡ x
unfolding read_entry write_entry bytes_of little_endian
read_back x h = rw (both x.shown h.shown, both x.asked h.asked, both x.pad h.pad)
  where
    both : (n : ℕ) → n < 2 ^ 16 → n % 256 + 256 * (n / 256 % 256 + 256 * 0) ≡ n
    both n l = omega arith

module _ (bs : List ℕ) (b : Bytes bs) (eight : length bs ≡ 8) where
  byte_lt : (i : ℕ) → get_or bs i 0 < 256
  byte_lt = bytes_lt bs b

  -- the bytes one by one
  taken : bs
      ≡ get_or bs 0 0 ∷ get_or bs 1 0 ∷ get_or bs 2 0 ∷ get_or bs 3 0 ∷ get_or bs 4 0 ∷ get_or bs 5 0 ∷ get_or bs 6 0 ∷ get_or bs 7 0 ∷ []
  taken =
      let end : drop 8 bs ≡ [] = drop_of_length-le bs {i = 8} (omega arith) in
      at 0 (omega arith)
      ∙ rw (
        at 1 (omega arith),
        at 2 (omega arith),
        at 3 (omega arith),
        at 4 (omega arith),
        at 5 (omega arith),
        at 6 (omega arith),
        at 7 (omega arith),
        end,
      )
    where
      at : (i : ℕ) → i < 8 → drop i bs ≡ get_or bs i 0 ∷ drop (suc i) bs
      at i l = drop-cons bs i 0 (omega arith)

  pub written_back : write_entry (read_entry bs) ≡ bs
  unfolding read_entry write_entry bytes_of
  written_back =
      rw (
        two_bytes bs,
        two_bytes-at 3 bs,
        two_bytes-at 6 bs,
        low (get_or bs 0 0) (get_or bs 1 0) (byte_lt 0),
        high (get_or bs 0 0) (get_or bs 1 0) (byte_lt 0) (byte_lt 1),
        low (get_or bs 3 0) (get_or bs 4 0) (byte_lt 3),
        high (get_or bs 3 0) (get_or bs 4 0) (byte_lt 3) (byte_lt 4),
        low (get_or bs 6 0) (get_or bs 7 0) (byte_lt 6),
        high (get_or bs 6 0) (get_or bs 7 0) (byte_lt 6) (byte_lt 7),
      ) (sym taken)
    where
      low : (m n : ℕ) → m < 256 → (m + 256 * n) % 256 ≡ m
      low m n l = omega arith

      high : (m n : ℕ) → m < 256 → n < 256 → (m + 256 * n) / 256 % 256 ≡ n
      high m n k l = omega arith

-- ---- one record after another

pub log_length : (xs : List Entry) → length (flat_map write_entry xs) ≡ 8 * length xs
unfolding flat_map
log_length [] = refl
log_length (x ∷ xs) = omega (arith, length-append (write_entry x) (flat_map write_entry xs), write_length x, log_length xs)

-- past the first eight bytes
entries_later : (w log : List ℕ) → length w ≡ 8 → (k n : ℕ) → entries_from (w ++ log) (suc k) n ≡ entries_from log k n
unfolding entries_from
entries_later w log e k zero = refl
entries_later w log e k (suc n) =
    let places : 8 * suc k ≡ length w + 8 * k = omega arith in
    let part : take 8 (drop (8 * suc k) (w ++ log)) ≡ take 8 (drop (8 * k) log) = rw (places, drop-append-add w log (8 * k)) in
    ap₂ ◌∷◌ (ap read_entry part) (entries_later w log e (suc k) n)

pub entries_more : (w log : List ℕ) → length w ≡ 8 → entries_of (w ++ log) ≡ read_entry w ∷ entries_of log
unfolding entries_of entries_from
entries_more w log e =
    let one_more : whole_entries (w ++ log) ≡ suc (whole_entries log) = omega (arith, length-append w log) in
    ap (entries_from (w ++ log) 0) one_more ∙ ap₂ ◌∷◌ (ap read_entry (take_at w log 8 e)) (entries_later w log e 0 (whole_entries log))

pub entries_none : entries_of [] ≡ []
unfolding entries_of entries_from
entries_none = refl

pub entries_written : (xs : List Entry) → entries_of (flat_map write_entry xs) ≡ map (λ (x : Entry). read_entry (write_entry x)) xs
unfolding flat_map
entries_written [] = entries_none
entries_written (x ∷ xs) =
    entries_more (write_entry x) (flat_map write_entry xs) (write_length x) ∙ ap (◌∷◌ (read_entry (write_entry x))) (entries_written xs)

pub all_back : (xs : List Entry) → Every FitsEntry xs → entries_of (flat_map write_entry xs) ≡ xs
all_back xs h = entries_written xs ∙ each xs h
  where
    each : (xs : List Entry) → Every FitsEntry xs → map (λ (x : Entry). read_entry (write_entry x)) xs ≡ xs
    each [] h = refl
    each (x ∷ xs) h = ap₂ ◌∷◌ (read_back x h.0) (each xs h.1)

-- ---- where each record stands

from_length : (log : List ℕ) (k n : ℕ) → length (entries_from log k n) ≡ n
unfolding entries_from
from_length log k zero = refl
from_length log k (suc n) = ap suc (from_length log (suc k) n)

from_at : (log : List ℕ) (x : Entry) (k n i : ℕ) → i < n → get_or (entries_from log k n) i x ≡ entry_at log (k + i)
unfolding entries_from
from_at log x k zero i l = absurd (not-suc-le-zero l)
from_at log x k (suc n) zero l = rw (add-zero k)
from_at log x k (suc n) (suc i) l =
    let place : suc k + i ≡ k + suc i = omega arith in
    from_at log x (suc k) n i (le_of_suc-le-suc l) ∙ ap (entry_at log) place

pub entries_length : (log : List ℕ) → length (entries_of log) ≡ whole_entries log
unfolding entries_of
entries_length log = from_length log 0 (whole_entries log)

pub entries_has : (log : List ℕ) (k : ℕ) → (k < length (entries_of log)) ↔ HasEntry log k
entries_has log k = let e = entries_length log in (λ l. omega arith, λ h. omega arith)

-- record k among the records, where the log has it
pub entries_at : (log : List ℕ) (x : Entry) (k : ℕ) → HasEntry log k → get_or (entries_of log) k x ≡ entry_at log k
unfolding entries_of
entries_at log x k h = from_at log x 0 (whole_entries log) k (omega arith) ∙ ap (entry_at log) (zero-add k)
