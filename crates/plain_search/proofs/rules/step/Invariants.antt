use Rattle.std.proofs.Common.{◌≡◌, drop, map}
use Rattle.tableau.specs.Rules.{rule_of}
use Rattle.tableau.specs.Search.{first_rule, step}
use Rattle.plain_search.proofs.rules.step.Given as goal

-- the rules ahead give what all give
abbrev pub invariant-loop-rule : goal.invariant-loop-rule
invariant-loop-rule l = record {
  ahead : first_rule (map (rule_of l.defs) (drop l.rule-index l.rule-items)) l.fn.branch ≡ step l.defs l.fn.branch;
  same : l.branch ≡ l.fn.branch;
}
