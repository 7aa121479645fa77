use Rattle.std.proofs.Common.{◌≡◌, List, ◌++◌}
use Rattle.turn_lock.specs.History.{StartsWith}
use Rattle.turn_lock.specs.Lock.{above, mine, number, seen, splits}
use Rattle.board_core.specs.Board.{Call}
use Rattle.obligation_board.specs.Passes.{StaysPassOf}
use Rattle.obligation_board.specs.Rounds.{made_by, AreRounds}
use Rattle.obligation_board.proofs.worker.work.Given as goal

abbrev pub invariant-loop : goal.invariant-loop
invariant-loop g l = record {
  pass : StaysPassOf l.board l.initial.pass l.pass;
  above : above l.pass ≡ above l.initial.pass;
  splits : splits l.pass ≡ splits l.initial.pass;
  seen : StartsWith (seen l.pass) (seen l.initial.pass);
  calls : (calls : List (Call g.row.P-A.Denot)) × (mine l.pass ≡ mine l.initial.pass ++ made_by (number l.initial.pass) calls) × AreRounds g.P.A.Q.Question.key (g.P.Prover.gives l.prover) l.deposits calls;
}
