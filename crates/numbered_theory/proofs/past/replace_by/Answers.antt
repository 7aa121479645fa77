use Rattle.std.proofs.Common.{◌∙◌, sym, None}
use Rattle.term_bank.specs.Numbered.{at}
use Rattle.theory_rules.specs.Past.{replaced_by}
use Rattle.numbered_branches.specs.Branches.{branch_at, fact_at, made_at}
use Rattle.numbered_branches.proofs.Changing.{made_more}
use Rattle.numbered_theory.specs.Reads.{GivesMadeAt}
use Rattle.numbered_theory.proofs.Loops.{from_err}
use Rattle.numbered_theory.proofs.Passing.{replaced_is}
use Rattle.numbered_facts.proofs.Growing.{then}
use Rattle.numbered_theory.proofs.past.replace_by.Goals as goal

pub change_each-requires-clause-made : goal.change_each-requires-clause-made
change_each-requires-clause-made c = (made_more c.args.store.now.terms c.says.new.self.terms c.in_ok-said.ensures.grows.terms c.args.made c.requires.made).0

pub returns-in_err-change_each-clause-gives : goal.returns-in_err-change_each-clause-gives
returns-in_err-change_each-clause-gives c =
    let n = c.args.store.now in
    let said = rw c.in-Some.is at c.in_ok-said.ensures.gives in
    from_err (λ r. GivesMadeAt c.change_each.new.store.terms r (replaced_by n.defs (branch_at n.terms c.args.made.branch) (at n.terms c.args.access) (fact_at n.terms c.args.equation.now) (made_at n.terms c.args.made)))
    c.from_residual-in_err-change_each.result c.in_err-change_each.field-0.0 c.from_residual-in_err-change_each.ensures.1
    (λ d same wide. replaced_is n c.says.new.self c.in_ok-said.ensures.grows c.args.made c.requires.made c.args.access c.equation.inside.term c.equation.inside.number c.in-Some.said c.args.equation.now None c.requires.access c.equation.view_is said.1 (c.in_err-change_each.ensures.gives (sym same ∙ wide)))

pub returns-clause-gives : goal.returns-clause-gives
returns-clause-gives c =
    let said = rw c.in-Some.is at c.in_ok-said.ensures.gives in
    (c.in_ok-change_each.ensures.made, replaced_is c.args.store.now c.says.new.self c.in_ok-said.ensures.grows c.args.made c.requires.made c.args.access c.equation.inside.term c.equation.inside.number c.in-Some.said c.args.equation.now _ c.requires.access c.equation.view_is said.1 c.in_ok-change_each.ensures.gives)

pub change_each-requires-clause-vars : goal.change_each-requires-clause-vars
change_each-requires-clause-vars c = c.in_ok-said.ensures.grows.vars ∙ c.requires.vars

pub returns-in_err-said-clause-grows : goal.returns-in_err-said-clause-grows
returns-in_err-said-clause-grows c = c.says.ensures.grows

pub returns-in_err-change_each-clause-grows : goal.returns-in_err-change_each-clause-grows
returns-in_err-change_each-clause-grows c = then c.args.store.now c.says.new.self c.change_each.new.store c.in_ok-said.ensures.grows c.change_each.ensures.grows

pub returns-clause-grows : goal.returns-clause-grows
returns-clause-grows c = then c.args.store.now c.says.new.self c.change_each.new.store c.in_ok-said.ensures.grows c.change_each.ensures.grows
