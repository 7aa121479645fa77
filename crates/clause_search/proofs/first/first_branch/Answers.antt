use Rattle.std.proofs.Common.{◌≡◌, ◌∙◌, ap, List}
use Rattle.logic_core.proofs.Refused.{gives_err}
use Rattle.logic_core.specs.Tree.{Tree}
use Rattle.numbered_facts.proofs.Growing.{then}
use Rattle.numbered_branches.specs.Branches.{NumberedBranch, branch_at}
use Rattle.clause_search.specs.First.{facts_from}
use Rattle.clause_search.proofs.FirstFacts.{axioms_leave, goal_leaves, first_given, first_over}
use Rattle.clause_search.proofs.first.first_branch.Goals as goal

pub returns-in_err-refuted-clause-grows : goal.returns-in_err-refuted-clause-grows
returns-in_err-refuted-clause-grows c = then c.args.store.now c.normal_forms.new.store c.normal_not.new.store c.in_ok-forms.ensures.grows c.normal_not.ensures.grows

pub returns-in_err-forms-clause-gives : goal.returns-in_err-forms-clause-gives
returns-in_err-forms-clause-gives c = gives_err (λ (b : NumberedBranch). branch_at c.normal_forms.new.store.terms b) c.from_residual.result c.in_err-forms.field-0.0 _ c.from_residual.ensures.1
    (λ wide. axioms_leave c.args.obligation.now c.args.store.now c.requires.vars c.requires.defs c.axioms.result.now c.axioms.ensures (c.in_err-forms.ensures.gives wide))

pub returns-in_err-refuted-clause-gives : goal.returns-in_err-refuted-clause-gives
returns-in_err-refuted-clause-gives c = gives_err (λ (b : NumberedBranch). branch_at c.normal_not.new.store.terms b) c.from_residual-in_err-refuted.result c.in_err-refuted.field-0.0 _ c.from_residual-in_err-refuted.ensures.1
    (λ wide. goal_leaves c.args.obligation.now c.args.store.now c.requires.vars c.requires.defs c.axioms.result.now c.axioms.ensures c.normal_forms.new.store c.in_ok-forms.ensures.grows c.goal.result.now c.goal.ensures (c.in_err-refuted.ensures.gives wide))

pub returns-clause-grows : goal.returns-clause-grows
returns-clause-grows c = then c.args.store.now c.normal_forms.new.store c.normal_not.new.store c.in_ok-forms.ensures.grows c.in_ok-refuted.ensures.grows

pub returns-clause-gives : goal.returns-clause-gives
returns-clause-gives c = let more = c.deref.ensures.value ∙ c.in_ok-push.ensures.items in
    first_given c.args.obligation.now c.args.store.now c.requires.vars c.requires.defs c.axioms.result.now c.axioms.ensures c.normal_forms.new.store c.in_ok-forms.ensures.grows c.goal.result.now c.goal.ensures
    c.normal_not.new.store c.in_ok-refuted.ensures.grows c.in_ok-forms.forms.items c.in_ok-forms.ensures.gives c.in_ok-forms.ensures.within c.in_ok-refuted.refuted c.in_ok-refuted.ensures.gives c.deref.result.now more c.vars.result.now c.vars.ensures c.in_ok-branch_with.field-0 c.in_ok-branch_with.ensures

pub returns-clause-over : goal.returns-clause-over
returns-clause-over c = let more = c.deref.ensures.value ∙ c.in_ok-push.ensures.items in
    first_over c.args.obligation.now c.args.store.now c.requires.vars c.requires.defs c.axioms.result.now c.axioms.ensures c.normal_forms.new.store c.in_ok-forms.ensures.grows c.goal.result.now c.goal.ensures
    c.normal_not.new.store c.in_ok-refuted.ensures.grows c.in_ok-forms.forms.items c.in_ok-forms.ensures.gives c.in_ok-forms.ensures.within c.in_ok-refuted.refuted c.in_ok-refuted.ensures.gives c.deref.result.now more c.vars.result.now c.vars.ensures c.in_ok-branch_with.field-0 c.in_ok-branch_with.ensures
