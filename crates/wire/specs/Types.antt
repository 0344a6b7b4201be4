-- What the program's answers mean. Assumes nothing.
use Rattle.std.proofs.Math.Option.{Option, none, some}
use Rattle.std.specs.Prelude.{None, Some}
use Rattle.std.specs.Prelude as P
use Rattle.rounds.specs.Sessions as S
use Rattle.session.specs.Types.{phase_of, session_of}
use Rattle.session.specs.declared.Phase.{Phase}
use Rattle.session.specs.declared.Session.{Session}

-- the phase that a tag and a question say, if they do
abbrev pub tagged_of : P.Option Phase → Option S.Phase
tagged_of (Some f) = some (phase_of f)
tagged_of None = none

-- the session that ten bytes stand for, if they do
abbrev pub unpacked_of : P.Option Session → Option S.Session
unpacked_of (Some s) = some (session_of s)
unpacked_of None = none
