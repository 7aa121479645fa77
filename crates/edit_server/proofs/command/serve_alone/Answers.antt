use Rattle.std.proofs.Common.{[], ◌∷◌, sym, subst}
use Rattle.board_core.specs.Board.{close, closed_now}
use Rattle.goal_board.specs.Calls.{made}
use Rattle.edit_server.specs.Session.{Served}
use Rattle.edit_server.proofs.Runs.{ran_serve}
use Rattle.edit_server.proofs.SessionWorth.{worth_of_session}
use Rattle.edit_server.proofs.command.serve_alone.Goals as goal

pub returns : goal.returns
returns g c =
    let e = c.serve_session-status.ensures in
    let calls = made close closed_now ∷ [] in
    let served = subst (λ w. Served c.args.command.now.turns w calls (g.S.Source.left c.args.source.now) (g.S.Source.left c.serve_session-status.new.source) (g.K.Sink.held c.args.sink.now) (g.K.Sink.held c.serve_session-status.new.sink) c.serve_session-status.result.0) (sym c.requires.alone) e.served in
    record {
      ran = (
        calls,
        ran_serve c.args.command.now calls _ _ c.serve_session-status.result.0 c.requires.serves (record {
          served = served;
          worth = worth_of_session c.sessions_are_worth.ensures c.args.command.now.turns c.args.command.now.workers calls (g.S.Source.left c.args.source.now) (g.S.Source.left c.serve_session-status.new.source) (g.K.Sink.held c.args.sink.now) (g.K.Sink.held c.serve_session-status.new.sink) c.serve_session-status.result.0 served;
          within = e.within;
          complete = e.complete;
        }) e.never_usage (record { read_fault = e.read_fault; read_quiet = e.read_quiet; write_fault = e.write_fault; write_quiet = e.write_quiet }),
      );
    }
