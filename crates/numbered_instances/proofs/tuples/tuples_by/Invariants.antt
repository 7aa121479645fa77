use Rattle.std.proofs.Common.{◌<◌, ◌++◌, length, drop}
use Rattle.std.specs.List.{AllByRecursion}
use Rattle.logic_core.specs.View.{patterns_of}
use Rattle.term_bank.specs.Node.{in_lists}
use Rattle.numbered_terms.specs.Lists.{terms_at, lists_at}
use Rattle.numbered_instances.specs.Instances.{tuples_by}
use Rattle.numbered_instances.specs.Passed.{FindOne}
use Rattle.numbered_instances.proofs.tuples.tuples_by.Given as goal

abbrev pub invariant-loop-trigger : goal.invariant-loop-trigger
invariant-loop-trigger l = record {
  tuples : FindOne l.terms l.passed (lists_at l.terms l.tuples.items ++ tuples_by l.vars l.defs l.sorts (terms_at l.terms l.ground) (patterns_of (lists_at l.terms (drop l.trigger-index l.triggers)))) (tuples_by l.vars l.defs l.sorts (terms_at l.terms l.ground) (patterns_of (lists_at l.terms l.triggers)));
  within : AllByRecursion (λ j. j < length l.terms) (in_lists l.tuples.items);
}
