-- Demand 3 of the program: what its opening and its round function promise carries over to every list of their calls. Assumes nothing.
use mathlib.Core.Path.{refl, subst, sym}
use mathlib.Core.List.{map}
use Prim.Native.Nat.{◌<◌, ◌^◌}
use Rattle.lists.specs.Lists.{Every}
use Rattle.lists.specs.Runs.{Turn, run}
use Rattle.lists.proofs.ListLaws.{every_map}
use Rattle.lists.proofs.RunLaws.{run_more}
use Rattle.rounds.specs.Rounds as R
use Rattle.rounds.specs.Rounds.{round}
use Rattle.demands.specs.Demand3.{Demand3}
use Rattle.demands.proofs.Demand3Proof.{demand3_holds}
use Rattle.session.specs.Types.{move_of, session_of}
use Rattle.session.specs.declared.Move.{Move}
use Rattle.session.specs.declared.Outcome.{Outcome}
use Rattle.replay.specs.Calls.{CallsMean, ProgramMeetsDemand3, moves_of, turn_of}

pub calls_mean : CallsMean
unfolding run
calls_mean = record {
  none = λ bytes s. refl;
  one_more = λ bytes s c cs. run_more (round bytes) (λ (o : R.Outcome). o.session) (session_of s) (turn_of c) (map turn_of cs) (moves_of cs);
}

pub program_meets : ProgramMeetsDemand3
program_meets bytes b w r s e cs l c =
    subst (Demand3 bytes r (session_of s) (moves_of cs)) (sym c) (demand3_holds bytes b w r (session_of s) (sym e) (moves_of cs) moves)
  where
    moves : Every (λ m. m.shows < 2 ^ 16) (moves_of cs)
    moves = every_map (λ (c : Turn Move Outcome). c.takes.shows < 2 ^ 16) _ (λ (c : Turn Move Outcome). move_of c.takes) (λ c h. h) cs l
