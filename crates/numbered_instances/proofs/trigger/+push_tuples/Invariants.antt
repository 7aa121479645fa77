use Rattle.std.proofs.Common.{◌≡◌, ◌<◌, ◌+◌, ◌*◌, ◌++◌, false, List, option_to_list, flat_map, length, drop}
use Rattle.std.specs.List.{AllByRecursion}
use Rattle.logic_core.specs.Tree.{Tree}
use Rattle.logic_core.specs.View.{trees_of}
use Rattle.term_bank.specs.Numbered.{at}
use Rattle.term_bank.specs.Node.{in_lists}
use Rattle.quantifier_triggers.specs.Match.{matched, tuples_from}
use Rattle.numbered_terms.specs.Lists.{terms_at, lists_at}
use Rattle.numbered_instances.specs.Finding.{found_at}
use Rattle.numbered_instances.specs.Passed.{FindOne}
use Rattle.numbered_instances.proofs.trigger.+push_tuples.Given as goal

abbrev pub decreases-push_tuples : goal.decreases-push_tuples
decreases-push_tuples l = 2 * length l.patterns.now

abbrev pub decreases-push_term : goal.decreases-push_term
decreases-push_term l = 2 * length l.rest.now + 1

-- the tuples so far, and then those of the ground terms that are ahead
abbrev pub invariant-push_tuples-loop-term : goal.invariant-push_tuples-loop-term
invariant-push_tuples-loop-term l =
    let F : Tree → List (List Tree) = λ t. flat_map (λ c. tuples_from l.vars l.defs l.kinds (terms_at l.terms l.ground) (trees_of (terms_at l.terms l.rest)) c) (option_to_list (matched l.vars l.defs l.kinds false (at l.terms l.pattern) t (found_at l.terms l.found))) in
    record {
      tuples : FindOne l.terms l.passed (lists_at l.terms l.tuples.items ++ flat_map F (terms_at l.terms (drop l.term-index l.ground))) (lists_at l.terms l.fn.tuples.items ++ flat_map F (terms_at l.terms l.ground));
      within : AllByRecursion (λ j. j < length l.terms) (in_lists l.tuples.items);
    }
