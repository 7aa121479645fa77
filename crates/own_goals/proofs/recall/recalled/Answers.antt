use Rattle.std.proofs.Common.{arith}
use Rattle.std.specs.Arc.{arc_value}
use Rattle.own_goals.proofs.Standing.{between_starts, last_few}
use Rattle.own_goals.proofs.recall.recalled.Goals as goal

pub push_between-requires-clause-from : goal.push_between-requires-clause-from
push_between-requires-clause-from c = between_starts arc_value c.args.questions.now _ _ _ c.end_between-to.result c.requires c.end_between-to.ensures

pub push_between-requires-clause-to : goal.push_between-requires-clause-to
push_between-requires-clause-to c = omega (arith, c.end_between-to.ensures)

pub push_last-requires-clause-to : goal.push_last-requires-clause-to
push_last-requires-clause-to c = omega (arith, c.end_between-to.ensures)

pub push_last-requires-clause-last : goal.push_last-requires-clause-last
push_last-requires-clause-last c = last_few arc_value c.args.questions.now _ _ _ c.end_between-to.result c.requires c.end_between-to.ensures
