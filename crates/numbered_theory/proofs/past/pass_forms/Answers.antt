use Rattle.numbered_facts.proofs.Growing.{then}
use Rattle.numbered_branches.proofs.Growing.{below}
use Rattle.std.proofs.Common.{◌∙◌, sym}
use Rattle.term_bank.specs.Numbered.{at}
use Rattle.theory_rules.specs.PassBegun.{pass_forms}
use Rattle.numbered_theory.specs.Passes.{GivesFormsAt}
use Rattle.numbered_theory.specs.Places.{over}
use Rattle.numbered_theory.proofs.Loops.{from_err}
use Rattle.numbered_theory.proofs.FormsPassed.{linear_none, equation_none, equation_before, forms_made}
use Rattle.numbered_theory.proofs.past.pass_forms.Goals as goal

pub normal-requires : goal.normal-requires
normal-requires c = c.requires.way

pub make-requires : goal.make-requires
make-requires c = (below c.args.store.now c.normal.new.self c.args.access c.in_ok-linear.ensures.grows c.requires.access, (below c.args.store.now c.normal.new.self c.args.said c.in_ok-linear.ensures.grows c.requires.said, tt))

pub normal-requires-2 : goal.normal-requires-2
normal-requires-2 c = c.in_ok-sides.ensures.gives.0

pub returns-in_err-linear-clause-grows : goal.returns-in_err-linear-clause-grows
returns-in_err-linear-clause-grows c = c.normal.ensures.grows

pub returns-in_err-sides-clause-grows : goal.returns-in_err-sides-clause-grows
returns-in_err-sides-clause-grows c = then c.args.store.now c.normal.new.self c.make.new.self c.in_ok-linear.ensures.grows c.make.ensures.grows

pub returns-in_err-equation-clause-grows : goal.returns-in_err-equation-clause-grows
returns-in_err-equation-clause-grows c = then c.args.store.now c.make.new.self c.normal-2.new.self (then c.args.store.now c.normal.new.self c.make.new.self c.in_ok-linear.ensures.grows c.in_ok-sides.ensures.grows) c.normal-2.ensures.grows

pub returns-clause-grows : goal.returns-clause-grows
returns-clause-grows c = then c.args.store.now c.make.new.self c.normal-2.new.self (then c.args.store.now c.normal.new.self c.make.new.self c.in_ok-linear.ensures.grows c.in_ok-sides.ensures.grows) c.in_ok-equation.ensures.grows

pub returns-in_err-linear-clause-gives : goal.returns-in_err-linear-clause-gives
returns-in_err-linear-clause-gives c = let n = c.args.store.now in let t = at n.terms c.args.access in let way = at n.terms c.args.way in let said = at n.terms c.args.said in from_err (λ r. GivesFormsAt c.normal.new.self.terms r (pass_forms n.defs (over n.vars) t way said)) c.from_residual.result c.in_err-linear.field-0.0 c.from_residual.ensures.1 (λ d same wide. linear_none n t way said (c.in_err-linear.ensures.gives (sym same ∙ wide)))

pub returns-in_err-equation-clause-gives : goal.returns-in_err-equation-clause-gives
returns-in_err-equation-clause-gives c = let n = c.args.store.now in let t = at n.terms c.args.access in let way = at n.terms c.args.way in let said = at n.terms c.args.said in from_err (λ r. GivesFormsAt c.normal-2.new.self.terms r (pass_forms n.defs (over n.vars) t way said)) c.from_residual-in_err-equation.result c.in_err-equation.field-0.0 c.from_residual-in_err-equation.ensures.1 (λ d same wide. equation_none n t way said _ c.in_ok-linear.ensures.gives.1 (equation_before n c.normal.new.self c.make.new.self c.in_ok-linear.ensures.grows c.in_ok-sides.ensures.grows c.args.access c.args.said c.in_ok-sides.sides c.requires.access c.requires.said c.in_ok-sides.ensures.gives.1 _ (c.in_err-equation.ensures.gives (sym same ∙ wide))))

pub returns-clause-gives : goal.returns-clause-gives
returns-clause-gives c = forms_made c.args.store.now c.normal.new.self c.make.new.self c.normal-2.new.self c.in_ok-linear.ensures.grows c.in_ok-sides.ensures.grows c.in_ok-equation.ensures.grows c.args.access c.args.way c.args.said c.in_ok-linear.linear c.in_ok-sides.sides c.in_ok-equation.equation c.requires.access c.requires.said c.in_ok-linear.ensures.gives.0 c.in_ok-equation.ensures.gives.0 c.in_ok-linear.ensures.gives.1 c.in_ok-sides.ensures.gives.1 c.in_ok-equation.ensures.gives.1
