use Rattle.std.proofs.Common.{length}
use Rattle.numbered_instances.proofs.MatchedTuples.{tuple_pushed, tuple_passed, pushed_below}
use Rattle.numbered_instances.proofs.trigger.push_tuple.Goals as goal

pub returns-in_ok-push-clause-tuples : goal.returns-in_ok-push-clause-tuples
returns-in_ok-push-clause-tuples c = tuple_pushed c.args.terms.now c.args.found.now c.args.tuples.now.items c.push.new.self.items c.in-Some.tuple c.in_ok-tuple.field-0 c.in_ok-push.ensures.items c.in_ok-tuple.ensures c.in-Some.is

pub returns-in_ok-push-clause-within : goal.returns-in_ok-push-clause-within
returns-in_ok-push-clause-within c = pushed_below (length c.args.terms.now) c.args.found.now c.args.tuples.now.items c.push.new.self.items c.in-Some.tuple c.in_ok-tuple.field-0 c.requires.found c.in_ok-push.ensures.items c.in_ok-tuple.ensures c.in-Some.is c.requires.within

pub returns-in_default-clause-tuples : goal.returns-in_default-clause-tuples
returns-in_default-clause-tuples c = tuple_passed c.args.terms.now c.args.found.now c.args.tuples.now.items c.in_ok-tuple.field-0 c.in_ok-tuple.ensures c.in_default.is
