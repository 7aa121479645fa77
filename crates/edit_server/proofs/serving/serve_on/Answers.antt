use Rattle.edit_server.proofs.Shared.{ran_at_once, one_by_opener}
use Rattle.edit_server.proofs.serving.serve_on.Goals as goal

pub returns-in-Err-clause-ran : goal.returns-in-Err-clause-ran
returns-in-Err-clause-ran g c = ran_at_once c.args.opener.now c.close.new.opener c.requires.unused c.close.ensures.call.mine c.nothing_is_served.ensures c.args.command.now _

pub returns-in-Err-clause-opener : goal.returns-in-Err-clause-opener
returns-in-Err-clause-opener g c = one_by_opener c.args.opener.now c.close.new.opener c.requires.unused c.close.ensures.call.mine
