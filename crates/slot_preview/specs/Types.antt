-- What the program's previews mean. Assumes nothing.
use Rattle.std.specs.Prelude.{None, Option, Some}
use Rattle.std.proofs.Math.Option as Math
use Rattle.rounds.specs.Sessions as R
use Rattle.previews.specs.Previews as P
use Rattle.session.specs.Types.{session_of}
use Rattle.session.specs.declared.Session.{Session}
use Rattle.slot_steps.specs.Types.{answer_of}
use Rattle.slot_preview.specs.declared.Preview.{Preview}

-- a session, or "no session is given"
abbrev pub next_of : Option Session → Math.Option R.Session
next_of (Some s) = Math.some (session_of s)
next_of None = Math.none

abbrev pub preview_of : Preview → P.Preview
preview_of x = record { answer = answer_of x.answer; session = next_of x.session }
