-- The theorems of specs/Theorems: the text of the lines is that of what the calls tell. Assumes nothing.
use mathlib.Core.Path.{◌∙◌, ◌≡◌, ap₂, refl, sym}
use mathlib.Core.List.{List, [], ◌++◌, ◌∷◌, flat_map}
use Rattle.transcript.proofs.OutputLaws.{printed_more}
use Rattle.transcript.specs.Output.{printed}
use Rattle.console.proofs.TheoremsProof as console
use Rattle.console.specs.Calls.{told_in}
use Rattle.console.specs.Steps.{events_of}
use Rattle.lines.specs.Theorems.{Printing, Printings, Theorems, calls_in, text_in}

lines_told : (ps : List Printing) → Printings ps → text_in ps ≡ printed (told_in (calls_in ps))
unfolding printed flat_map
lines_told [] h = refl
lines_told (p ∷ ps) (h, hs) =
    ap₂ ◌++◌ h (lines_told ps hs) ∙ sym (printed_more (events_of p.call.gives.event) (told_in (calls_in ps)))

pub theorems : Theorems
theorems = record {
  program = λ file r b ps h l. lines_told ps l ∙ (console.theorems).program file r b (calls_in ps) h;
  stops = λ file r b ps h l e ys. lines_told ps l ∙ ((console.theorems).stops file r b (calls_in ps) h e ys).1;
}
