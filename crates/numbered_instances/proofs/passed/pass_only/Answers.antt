use Rattle.std.proofs.lemmas.Result.{on_ok_weaker}
use Rattle.numbered_instances.proofs.Passing.{alone_joins, none_joins}
use Rattle.numbered_instances.proofs.passed.pass_only.Goals as goal

pub returns-in-Some : goal.returns-in-Some
returns-in-Some c = on_ok_weaker c.insert.result (λ e. alone_joins c.in-Some.id c.args.ids.now c.args.passed.now c.insert.new.self c.in-Some.ensures.is e) c.insert.ensures.ok

pub returns-in-None : goal.returns-in-None
returns-in-None c = none_joins c.args.ids.now c.args.passed.now c.in-None.ensures.other
