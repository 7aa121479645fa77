use Rattle.std.proofs.Common.{◌∙◌, ap}
use Rattle.shared_goals.specs.Known.{board_of}
use Rattle.shared_goals.specs.Opener.{GoalPass}
use Rattle.edit_server.proofs.Shared.{is_opener, begins_first, ran_closed, all_by_opener}
use Rattle.edit_server.proofs.serving.run_in.Goals as goal

pub new-goals-requires-clause-opener : goal.new-goals-requires-clause-opener
new-goals-requires-clause-opener g c = is_opener c.args.opener c.requires.unused c.args.board.now c.requires.pass

pub run_on-status-requires-clause-first : goal.run_on-status-requires-clause-first
run_on-status-requires-clause-first g c = ap (λ (p : GoalPass). board_of p) c.new-goals.ensures ∙ begins_first c.args.opener c.requires.unused

pub returns-clause-opener : goal.returns-clause-opener
returns-clause-opener g c = all_by_opener c.run_on-status.result.1 c.end.result c.end.ensures.later

pub returns-clause-ran : goal.returns-clause-ran
returns-clause-ran g c = ran_closed c.run_on-status.result.1 c.end.result c.end.ensures.later c.args.command.now _ _ c.run_on-status.result.0 c.run_on-status.ensures.ran
