-- The line of a preview, and that of the round afterwards. Assumes nothing.
use mathlib.Core.Path.{◌∙◌, ◌≡◌, ap, refl, sym}
use mathlib.Core.List.{List, ◌++◌}
use mathlib.Core.Option.{some}
use Prim.Native.Nat.{ℕ}
use Rattle.rounds.specs.Moves.{Move}
use Rattle.rounds.specs.Rounds.{round}
use Rattle.rounds.specs.Sessions.{Session}
use Rattle.slots.specs.RoundsAt.{refused_by, round_at}
use Rattle.slots.specs.Slots.{Slot}
use Rattle.operations.specs.AtSlot.{session_in}
use Rattle.previews.specs.Previews.{Preview, preview_at}
use Rattle.previews.proofs.PreviewLaws.{PreviewCase, empty, holds, none_there, preview_case, round_after}
use Rattle.station_table.specs.Types.{count_at}
use Rattle.transcript.specs.Lines.{answer_text, line}
use Rattle.transcript.specs.Numerals.{ascii, decimal}
use Rattle.station_lines.specs.Lines.{count_of, preview_line, round_at_line}

module _ (policy : List ℕ) (xs : List Slot) (i : ℕ) (m : Move) where
  abbrev v : Preview
  v = preview_at policy xs i m

  abbrev after : List Slot
  after = (round_at policy xs i m).table

  -- a refusal's text has no count
  no_count : (n k l : ℕ) → v.answer ≡ refused_by policy n → answer_text k m v.answer ≡ answer_text l m v.answer
  unfolding refused_by
  no_count n k l e = ap (answer_text k m) e ∙ ap (answer_text l m) (sym e)

  -- elsewhere the counts are the same
  same_count : (t : Session) → v.session ≡ some t → count_of v.session ≡ count_at after i
  same_count t e =
      let (h, (o, d)) = ((round_after policy xs i m).session t).0 e in
      ap count_of e ∙ sym (ap (λ (x : Slot). (session_in x).count) d)

  same_text : answer_text (count_of v.session) m v.answer ≡ answer_text (count_at after i) m v.answer
  same_text = go (preview_case policy xs i m)
    where
      go : PreviewCase policy xs i m v → answer_text (count_of v.session) m v.answer ≡ answer_text (count_at after i) m v.answer
      go (none_there n is) = no_count 14 _ _ (ap (λ (w : Preview). w.answer) is)
      go (empty h d is) = no_count 8 _ _ (ap (λ (w : Preview). w.answer) is)
      go (holds o s h d is) =
          ap (λ (k : ℕ). answer_text k m v.answer) (same_count (round policy s m).session (ap (λ (w : Preview). w.session) is))

  pub preview_round : (rest : List ℕ) × ((preview_line i m v ≡ decimal i ++ (ascii " preview " ++ rest))
      × (round_at_line i m (round_at policy xs i m).answer (count_at after i) ≡ decimal i ++ (ascii " " ++ rest)))
  unfolding preview_line round_at_line preview_at
  preview_round = (
    line (answer_text (count_of v.session) m v.answer),
    (refl, ap (λ (ys : List ℕ). decimal i ++ (ascii " " ++ line ys)) (sym same_text)),
  )
