use Rattle.std.proofs.Common.{◌∙◌, ap, sym, subst, List}
use Rattle.logic_core.specs.Tree.{Tree}
use Rattle.term_bank.specs.Numbered.{Begins}
use Rattle.tableau.specs.Search.{step}
use Rattle.numbered_terms.specs.Stored.{Numbered}
use Rattle.numbered_branches.specs.Applied.{AttemptsAt}
use Rattle.numbered_branches.specs.Branches.{NumberedBranch, IsBranchOver, branch_at}
use Rattle.clause_search.specs.Tables.{AreRight}
use Rattle.clause_search.proofs.Kept.{defs_later}
use Rattle.clause_search.proofs.rules.step.Goals as goal

pub first_rule-requires : goal.first_rule-requires
first_rule-requires c = let e = c.in_ok-over.ensures.vars in
    record { branch = subst (λ (n : Numbered). IsBranchOver n.terms c.args.branch) (sym e) c.requires.branch; vars = ap (λ (n : Numbered). n.vars) e ∙ c.deref.ensures.value ∙ ap (λ (x : NumberedBranch). x.vars) c.branch.view_is; tables = subst (λ (n : Numbered). AreRight n.terms c.args.tables.now) (sym e) c.requires.tables }

pub returns-clause-terms : goal.returns-clause-terms
returns-clause-terms c = subst (λ (ts : List Tree). Begins ts c.first_rule.new.store.terms) c.over.ensures.terms c.first_rule.ensures.terms

pub returns-clause-defs : goal.returns-clause-defs
returns-clause-defs c = defs_later c.first_rule.result c.args.store.now c.over.new.self c.first_rule.new.store (ap (λ (n : Numbered). n.defs) c.in_ok-over.ensures.vars) c.first_rule.ensures.grows

pub returns-clause-attempts : goal.returns-clause-attempts
returns-clause-attempts c = subst (λ (n : Numbered). AttemptsAt c.first_rule.new.store.terms c.first_rule.result (step n.defs (branch_at n.terms c.args.branch))) c.in_ok-over.ensures.vars c.first_rule.ensures.attempts
