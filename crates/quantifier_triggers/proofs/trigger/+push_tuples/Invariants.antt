use Rattle.std.proofs.Common.{◌≡◌, ◌++◌, false, List, option_to_list, flat_map, length, drop}
use Rattle.logic_core.specs.Tree.{Tree}
use Rattle.logic_core.specs.View.{trees_of, each_items}
use Rattle.quantifier_triggers.specs.Match.{matched, tuples_from}
use Rattle.quantifier_triggers.proofs.trigger.+push_tuples.Given as goal

abbrev pub decreases-push_tuples : goal.decreases-push_tuples
decreases-push_tuples l = length l.patterns.now

-- the tuples so far, and then those of the ground terms that are ahead
abbrev pub invariant-loop-term : goal.invariant-loop-term
invariant-loop-term l =
    let F : Tree → List (List Tree) = λ t. flat_map (λ c. tuples_from l.vars l.defs l.kinds l.ground (trees_of l.rest) c) (option_to_list (matched l.vars l.defs l.kinds false l.pattern t l.found)) in
    each_items l.tuples.items ++ flat_map F (drop l.term-index l.ground) ≡ each_items l.fn.tuples.items ++ flat_map F l.ground
