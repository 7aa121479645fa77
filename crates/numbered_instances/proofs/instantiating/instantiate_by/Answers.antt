use Rattle.std.proofs.Common.{◌≡◌, ◌∙◌, ◌<◌, [], sym, ap, subst, length}
use Rattle.std.specs.List.{AllByRecursion}
use Rattle.logic_core.specs.Normal.{normal}
use Rattle.logic_core.specs.Substitute.{substitute}
use Rattle.tableau_branch.specs.OneBranch.{adding}
use Rattle.term_bank.specs.Numbered.{at}
use Rattle.numbered_branches.specs.Branches.{NumberedFact, instantiates, IsBranchOver, branch_at, step_at, terms_in}
use Rattle.numbered_instances.specs.Instances.{body_in}
use Rattle.numbered_instances.proofs.Instantiated.{move_err, marked, marked_over, no_instance, instance_added}
use Rattle.numbered_facts.proofs.Growing.{then}
use Rattle.numbered_instances.proofs.instantiating.instantiate_by.Goals as goal

pub returns-in_err-instance-clause-gives : goal.returns-in_err-instance-clause-gives
returns-in_err-instance-clause-gives c = let n = c.args.store.now in let m = c.instance_of.new.store in
    move_err m.terms c.from_residual.result c.in_err-instance.field-0.0 _ c.from_residual.ensures.1
    (λ wide. no_instance n m c.instance_of.ensures.grows c.args.branch c.requires.branch c.args.fact.now c.args.tuple (c.requires.fact, c.requires.tuple, c.requires.ands) c.requires.vars
    (ap (λ (x : NumberedFact). normal n.vars n.defs [] (substitute (body_in (at n.terms x.term)) (terms_in (at n.terms c.args.tuple)))) (sym c.fact.view_is) ∙ c.in_err-instance.ensures.gives wide))

pub adding-requires-clause-branch : goal.adding-requires-clause-branch
adding-requires-clause-branch c = let n = c.args.store.now in let m = c.instance_of.new.store in
    subst (IsBranchOver m.terms) (sym (c.in_ok-wider.ensures ∙ ap (λ (x : NumberedFact). marked c.args.branch x.term c.args.tuple) c.fact.view_is))
    (marked_over n m c.in_ok-instance.ensures.grows c.args.branch c.requires.branch c.args.fact.now c.args.tuple (c.requires.fact, c.requires.tuple, c.requires.ands))

pub adding-requires-clause-step : goal.adding-requires-clause-step
adding-requires-clause-step c = subst (λ ts. AllByRecursion (λ i. i < length ts) c.in_ok-terms.terms.items) c.terms.ensures c.in_ok-terms.ensures.0

pub returns-clause-gives : goal.returns-clause-gives
returns-clause-gives c = let n = c.args.store.now in let m = c.instance_of.new.store in let is = c.in_ok-terms.terms.items in let b = c.in_ok-wider.wider in (
  c.in_ok-adding.ensures.step.0,
  instance_added n m c.in_ok-instance.ensures.grows c.args.branch c.requires.branch c.args.fact.now c.args.tuple (c.requires.fact, c.requires.tuple, c.requires.ands) c.requires.vars c.in_ok-instance.instance is b _
      (ap (λ (x : NumberedFact). normal n.vars n.defs [] (substitute (body_in (at n.terms x.term)) (terms_in (at n.terms c.args.tuple)))) (sym c.fact.view_is) ∙ c.in_ok-instance.ensures.gives.1)
      (rw c.terms.ensures at c.in_ok-terms.ensures)
      (c.in_ok-wider.ensures ∙ ap (λ (x : NumberedFact). marked c.args.branch x.term c.args.tuple) c.fact.view_is)
      (c.in_ok-adding.ensures.step.1 ∙ ap (λ (x : NumberedFact). adding (step_at m.terms (instantiates x.number is)) (at m.terms c.in_ok-instance.instance) (branch_at m.terms b)) c.fact.view_is),
)

pub returns-in_err-adding-clause-grows : goal.returns-in_err-adding-clause-grows
returns-in_err-adding-clause-grows c = then c.args.store.now c.instance_of.new.store c.adding.new.store c.instance_of.ensures.grows c.adding.ensures.grows

pub returns-clause-grows : goal.returns-clause-grows
returns-clause-grows c = then c.args.store.now c.instance_of.new.store c.adding.new.store c.instance_of.ensures.grows c.adding.ensures.grows
