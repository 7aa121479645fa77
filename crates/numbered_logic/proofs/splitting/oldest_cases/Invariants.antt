use Rattle.std.proofs.Common.{◌≡◌, map, drop}
use Rattle.tableau_branch.specs.Branch.{first_from}
use Rattle.logic_rules.specs.Splitting.{cases_of}
use Rattle.numbered_terms.specs.Stored.{Grows}
use Rattle.numbered_branches.specs.Branches.{fact_at}
use Rattle.numbered_logic.specs.Forms.{branch_over}
use Rattle.numbered_logic.proofs.splitting.oldest_cases.Given as goal

abbrev pub invariant-loop-at : goal.invariant-loop-at
invariant-loop-at l = record {
  grows : Grows l.fn.store l.store;
  rest : first_from (cases_of l.fn.store.defs (branch_over l.fn.store.vars)) l.at (map (fact_at l.fn.store.terms) (drop l.at l.facts)) ≡ first_from (cases_of l.fn.store.defs (branch_over l.fn.store.vars)) 0 (map (fact_at l.fn.store.terms) l.facts);
}
