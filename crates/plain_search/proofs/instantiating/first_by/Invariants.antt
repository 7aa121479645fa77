use Rattle.std.proofs.Common.{◌≡◌, drop, find}
use Rattle.logic_core.specs.View.{patterns_of, each_items}
use Rattle.logic_rules.specs.Instantiating.{is_unmarked, candidates_by}
use Rattle.plain_search.proofs.instantiating.first_by.Given as goal

abbrev pub invariant-loop-trigger : goal.invariant-loop-trigger
invariant-loop-trigger l = find (is_unmarked l.branch) (candidates_by l.defs l.branch l.ground l.fact (record { sorts = l.sorts; triggers = patterns_of (each_items l.triggers); body = l.body }) (patterns_of (each_items (drop l.trigger-index l.triggers)))) ≡ find (is_unmarked l.branch) (candidates_by l.defs l.branch l.ground l.fact (record { sorts = l.sorts; triggers = patterns_of (each_items l.triggers); body = l.body }) (patterns_of (each_items l.triggers)))
