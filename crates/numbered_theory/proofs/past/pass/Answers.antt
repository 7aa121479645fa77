use Rattle.std.proofs.Common.{◌∙◌, sym, subst, Option}
use Rattle.tableau_branch.specs.Change.{Made}
use Rattle.term_bank.specs.Numbered.{at}
use Rattle.theory_rules.specs.Past.{passed}
use Rattle.numbered_branches.specs.Branches.{branch_at}
use Rattle.numbered_theory.specs.Reads.{GivesMadeAt}
use Rattle.numbered_theory.proofs.Loops.{from_err}
use Rattle.numbered_theory.proofs.Passing.{pass_none, pass_done}
use Rattle.numbered_facts.proofs.Growing.{then}
use Rattle.numbered_branches.proofs.Growing.{below}
use Rattle.numbered_branches.proofs.Changing.{branch_more}
use Rattle.numbered_theory.proofs.past.pass.Goals as goal

pub returns-in_err-linear-clause-gives : goal.returns-in_err-linear-clause-gives
returns-in_err-linear-clause-gives c =
    let n = c.args.store.now in let code = c.args.branch in
    let t = at n.terms c.args.access in let way = at n.terms c.args.way in let said = at n.terms c.args.said in
    from_err (λ r. GivesMadeAt c.pass_forms.new.store.terms r (passed n.defs (branch_at n.terms code) t way said)) c.from_residual.result c.in_err-linear.field-0.0 c.from_residual.ensures.1
    (λ d same wide. pass_none n code t way said c.requires.vars (c.in_err-linear.ensures.gives (sym same ∙ wide)))

pub returns-clause-gives : goal.returns-clause-gives
returns-clause-gives c =
    let n = c.args.store.now in let m = c.pass_forms.new.store in let v = c.begin_pass.new.store in
    let is = pass_done n m v c.in_ok-linear.ensures.grows c.in_ok-made.ensures.grows c.args.branch c.requires.branch c.requires.vars c.args.access c.args.way c.args.said c.in_ok-linear.linear c.in_ok-linear.equation c.requires.access
    c.in_ok-made.made c.in_ok-made.equation c.in_ok-linear.ensures.gives.1.1 c.in_ok-made.ensures.made.1 c.in_ok-made.ensures.equation.1 in
    subst (λ (o : Option Made). GivesMadeAt c.replace_by.new.store.terms c.replace_by.result o) is c.replace_by.ensures.gives

pub pass_forms-requires-clause-access : goal.pass_forms-requires-clause-access
pass_forms-requires-clause-access c = c.requires.access

pub pass_forms-requires-clause-way : goal.pass_forms-requires-clause-way
pass_forms-requires-clause-way c = c.requires.way

pub pass_forms-requires-clause-said : goal.pass_forms-requires-clause-said
pass_forms-requires-clause-said c = c.requires.said

pub begin_pass-requires-clause-branch : goal.begin_pass-requires-clause-branch
begin_pass-requires-clause-branch c = (branch_more c.args.store.now.terms c.pass_forms.new.store.terms c.in_ok-linear.ensures.grows.terms c.args.branch c.requires.branch).0

pub begin_pass-requires-clause-linear : goal.begin_pass-requires-clause-linear
begin_pass-requires-clause-linear c = c.in_ok-linear.ensures.gives.0

pub begin_pass-requires-clause-equation : goal.begin_pass-requires-clause-equation
begin_pass-requires-clause-equation c = c.in_ok-linear.ensures.gives.1.0

pub replace_by-requires-clause-made : goal.replace_by-requires-clause-made
replace_by-requires-clause-made c = c.in_ok-made.ensures.made.0

pub replace_by-requires-clause-vars : goal.replace_by-requires-clause-vars
replace_by-requires-clause-vars c = (then c.args.store.now c.pass_forms.new.store c.begin_pass.new.store c.in_ok-linear.ensures.grows c.in_ok-made.ensures.grows).vars ∙ c.requires.vars ∙ sym c.in_ok-made.ensures.vars

pub replace_by-requires-clause-access : goal.replace_by-requires-clause-access
replace_by-requires-clause-access c = below c.args.store.now c.begin_pass.new.store c.args.access (then c.args.store.now c.pass_forms.new.store c.begin_pass.new.store c.in_ok-linear.ensures.grows c.in_ok-made.ensures.grows) c.requires.access

pub replace_by-requires-clause-equation : goal.replace_by-requires-clause-equation
replace_by-requires-clause-equation c = c.in_ok-made.ensures.equation.0

pub returns-in_err-linear-clause-grows : goal.returns-in_err-linear-clause-grows
returns-in_err-linear-clause-grows c = c.pass_forms.ensures.grows

pub returns-in_err-made-clause-grows : goal.returns-in_err-made-clause-grows
returns-in_err-made-clause-grows c = then c.args.store.now c.pass_forms.new.store c.begin_pass.new.store c.in_ok-linear.ensures.grows c.begin_pass.ensures.grows

pub returns-clause-grows : goal.returns-clause-grows
returns-clause-grows c = then c.args.store.now c.begin_pass.new.store c.replace_by.new.store (then c.args.store.now c.pass_forms.new.store c.begin_pass.new.store c.in_ok-linear.ensures.grows c.in_ok-made.ensures.grows) c.replace_by.ensures.grows
