use Rattle.std.proofs.Common.{◌≡◌, drop, map}
use Rattle.tableau.specs.Rules.{rule_of}
use Rattle.tableau.specs.Search.{first_rule, step}
use Rattle.numbered_terms.specs.Stored.{Grows}
use Rattle.numbered_branches.specs.Branches.{branch_at}
use Rattle.numbered_branches.specs.Standing.{IsBranchAt}
use Rattle.clause_search.specs.Tables.{AreRight}
use Rattle.clause_search.proofs.rules.first_rule.Given as goal

-- the rules ahead give what all give
abbrev pub invariant-loop-rule : goal.invariant-loop-rule
invariant-loop-rule l = record {
  grows : Grows l.fn.store l.store;
  tables : AreRight l.store.terms l.tables;
  ahead : first_rule (map (rule_of l.fn.store.defs) (drop l.rule-index l.rule-items)) (branch_at l.fn.store.terms l.fn.branch) ≡ step l.fn.store.defs (branch_at l.fn.store.terms l.fn.branch);
  same : IsBranchAt l.store.terms l.branch (branch_at l.fn.store.terms l.fn.branch);
}
